use Rattle.uses.specs.Uses as uses
use Rattle.sequencer.proofs.Going.{goes_on}
use Rattle.sequencer.proofs.owner.Sequencer.step.Goals as goal

pub returns : goal.returns
returns g c =
    let o = g.O.Outlet in
    let exact = c.step.ensures in
    record {
      exact = exact;
      goes_on = goes_on o.meaning _ _ _ (λ h u. uses.step c.args.lane c.step.result c.step.new.table c.step.new.outlet u exact);
    }
