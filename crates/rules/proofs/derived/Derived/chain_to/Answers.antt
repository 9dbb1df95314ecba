use Rattle.std.proofs.Common.{rules}
use Rattle.rules.specs.Chain.{Derivable}
use Rattle.rules.proofs.derived.Derived.chain_to.Goals as goal

pub returns-in_err-lines : goal.returns-in_err-lines
returns-in_err-lines g c found =
    let none : Derivable (g.B.Book.size c.args.book.now) (g.B.Book.rules c.args.book.now) c.args.place → ⊥ =
    λ follows. c.in_err-lines.ensures (found.listed c.args.place (found.complete c.args.place follows)) in
    search rules
