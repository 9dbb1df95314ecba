use Rattle.std.proofs.Common.{refl}
use Rattle.uses.specs.Uses as uses
use Rattle.calls.specs.Permits.{permit_pattern}
use Rattle.sequencer.proofs.Going.{goes_on}
use Rattle.sequencer.proofs.owner.Sequencer.check.Goals as goal

pub returns : goal.returns
returns g c =
    let o = g.O.Outlet in
    let exact = c.check.ensures.told in
    record {
      exact = exact;
      unused = c.check.ensures.unused;
      outlet = refl;
      goes_on = goes_on o.meaning _ uses.quiet _ (λ h u. uses.check c.args.pattern (permit_pattern c.check.result) c.check.new.table c.args.chain.now c.check.new.chain u exact);
    }
