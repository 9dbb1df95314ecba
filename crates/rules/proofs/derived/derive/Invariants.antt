use Rattle.std.proofs.Common.{◌-◌, length}
use Rattle.rules.specs.Found.{recorded}
use Rattle.rules.proofs.Sweeps.{Good}
use Rattle.rules.proofs.derived.derive.Given as goal

abbrev pub invariant-loop : goal.invariant-loop
invariant-loop g l = Good (g.B.Book.size l.book) (g.B.Book.rules l.book) l.found

abbrev pub decreases-loop : goal.decreases-loop
decreases-loop g l = 512 - length (recorded l.found)
