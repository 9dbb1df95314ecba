use Rattle.each.proofs.Zips.{Part}
use Rattle.each.proofs.change_each.Given as goal

abbrev pub invariant-loop-i : goal.invariant-loop-i
invariant-loop-i g l = Part (goal.F-post g l.change) l.initial.items l.marks l.items l.i
