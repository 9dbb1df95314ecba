use Rattle.std.proofs.Common.{◌≡◌, List, ◌++◌, length}
use Rattle.rules.specs.declared.chain.Line.{Line}
use Rattle.rules.specs.Chain.{Ends}
use Rattle.rules.proofs.Walk.{Walked}
use Rattle.rules.proofs.need.needs.Given as goal

-- what is still to come is the front of the lines
abbrev pub invariant-loop-line : goal.invariant-loop-line
invariant-loop-line g l =
    let front : List Line = l.line-iterator.iter.rest.now in
    ((later : List Line) × (l.lines ≡ front ++ later))
    × (Ends (g.B.Book.size l.book) (g.B.Book.rules l.book) l.lines l.place → Walked (g.B.Book.rules l.book) l.lines l.place (length front) l.needed)
