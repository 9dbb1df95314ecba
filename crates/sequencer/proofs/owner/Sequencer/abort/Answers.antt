use Rattle.std.proofs.Common.{refl}
use Rattle.uses.specs.Uses as uses
use Rattle.sequencer.proofs.Going.{goes_on}
use Rattle.sequencer.proofs.owner.Sequencer.abort.Goals as goal

pub returns : goal.returns
returns g c =
    let o = g.O.Outlet in
    let exact = c.abort.ensures in
    record {
      exact = exact;
      outlet = refl;
      goes_on = goes_on o.meaning _ uses.quiet _ (λ h u. uses.abort c.args.lane c.abort.result c.abort.new.table u exact);
    }
