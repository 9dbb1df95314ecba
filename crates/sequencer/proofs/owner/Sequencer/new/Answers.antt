use Rattle.std.proofs.Common.{refl}
use Rattle.uses.proofs.Law.{law}
use Rattle.sequencer.proofs.Going.{begins}
use Rattle.sequencer.proofs.owner.Sequencer.new.Goals as goal

pub returns : goal.returns
returns g c =
    let o = g.O.Outlet in
    record { exact = (c.cleared.ensures.value, refl); begins = begins o.meaning c.args.outlet; law = law o.meaning }
