use Rattle.std.specs.Fn.{FnReturnsAt}
use Rattle.player.specs.Sessions.{Quiet}
use Rattle.player.specs.Stages.{stage_of}
use Rattle.player.proofs.session.play_all.Given as goal

abbrev pub invariant-loop : goal.invariant-loop
invariant-loop g l = Quiet (λ call is. FnReturnsAt g.F.Fn l.understands call is) (stage_of l.player)
