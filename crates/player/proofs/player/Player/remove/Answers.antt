use Rattle.std.proofs.Common.{refl}
use Rattle.calls.specs.Calls.{Remove}
use Rattle.script.specs.declared.name.Name.TheVariants as name
use Rattle.player.specs.Stages.{stage_of}
use Rattle.player.proofs.Spending.{uses_it}
use Rattle.player.proofs.player.Player.remove.Goals as goal

pub returns-in-Ok : goal.returns-in-Ok
returns-in-Ok g c =
    let self = c.args.self.now in
    uses_it name.Remove Remove (stage_of self) _ c.in-Some.permit self.permit c.in-Some.ensures.value self.held c.in-Ok.ensures.exact (c.remove.ensures.outlet, refl)
