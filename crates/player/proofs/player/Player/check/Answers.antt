use Rattle.std.proofs.Common.{Ok, vec_items, ap}
use Rattle.calls.specs.Calls.{Check}
use Rattle.player.specs.Told.{granted}
use Rattle.player.proofs.Keeping.{moved}
use Rattle.player.proofs.player.Player.check.Goals as goal

pub returns-in-Ok : goal.returns-in-Ok
returns-in-Ok g c =
    let self = c.args.self.now in
    let exact = moved (λ before after. Check self.sequencer.table c.args.pattern (Ok c.in-Ok.permit.pattern) c.check.new.self.table before after) (vec_items self.memory)
    c.as_mut_slice-memory.result.now c.check.new.chain self.memory.items self.memory.len
    c.as_mut_slice-memory.ensures.value c.check.auto.chain c.as_mut_slice-memory.ensures.len c.in-Ok.ensures.exact in
    (Ok c.in-Ok.permit.pattern, exact, ap granted c.pattern-granted.ensures, c.check.ensures.outlet)
