use Rattle.std.proofs.Common.{refl}
use Rattle.uses.specs.Uses as uses
use Rattle.calls.specs.Permits.{fault_told}
use Rattle.uses.proofs.Law.{law}
use Rattle.sequencer.proofs.Going.{goes_on}
use Rattle.sequencer.proofs.owner.Sequencer.remove.Goals as goal

pub returns : goal.returns
returns g c =
    let o = g.O.Outlet in
    let exact = c.remove.ensures.told in
    record {
      exact = exact;
      handed_back = c.remove.ensures.handed_back;
      outlet = refl;
      goes_on = goes_on o.meaning _ uses.quiet _ (λ h u. uses.remove c.args.permit.pattern (fault_told c.remove.result) c.remove.new.table u exact);
      law = law o.meaning;
    }
