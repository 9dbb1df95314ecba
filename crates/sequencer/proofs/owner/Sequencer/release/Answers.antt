use Rattle.std.proofs.Common.{refl}
use Rattle.uses.specs.Uses as uses
use Rattle.calls.specs.Permits.{fault_told}
use Rattle.sequencer.proofs.Going.{goes_on}
use Rattle.sequencer.proofs.owner.Sequencer.release.Goals as goal

pub returns : goal.returns
returns g c =
    let o = g.O.Outlet in
    let exact = c.release.ensures.told in
    record {
      exact = exact;
      handed_back = c.release.ensures.handed_back;
      outlet = refl;
      goes_on = goes_on o.meaning _ uses.quiet _ (λ h u. uses.release c.args.permit.pattern (fault_told c.release.result) c.release.new.table u exact);
    }
