use Rattle.std.specs.List.{IsFirstBest}
use Rattle.outlets.specs.Due.{before}
use Rattle.outlets.proofs.due.EarliestDue.soonest.Given as goal

abbrev pub invariant-loop-i : goal.invariant-loop-i
invariant-loop-i l = IsFirstBest before l.self.slots.now l.i l.best
