use Rattle.rules.specs.Steps.{Swept}
use Rattle.rules.proofs.derived.Derived.sweep.Given as goal

abbrev pub invariant-loop-k : goal.invariant-loop-k
invariant-loop-k g l = Swept (g.B.Book.rules l.book) l.k l.initial.self l.self
