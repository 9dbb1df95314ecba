use Rattle.std.proofs.Common.{refl}
use Rattle.uses.specs.Uses as uses
use Rattle.sequencer.proofs.Going.{goes_on}
use Rattle.sequencer.proofs.owner.Sequencer.take.Goals as goal

pub returns : goal.returns
returns g c =
    let o = g.O.Outlet in
    let exact = c.take.ensures in
    record {
      exact = exact;
      table = refl;
      goes_on = goes_on o.meaning _ _ _ (λ h u. uses.take c.take.result c.take.new.outlet u exact);
    }
