use Rattle.std.proofs.Common.{refl}
use Rattle.uses.specs.Uses as uses
use Rattle.sequencer.proofs.Going.{goes_on}
use Rattle.sequencer.proofs.owner.Sequencer.start.Goals as goal

pub returns : goal.returns
returns g c =
    let o = g.O.Outlet in
    let exact = c.start.ensures in
    record {
      exact = exact;
      outlet = refl;
      goes_on = goes_on o.meaning _ uses.quiet _ (λ h u. uses.start c.args.lane c.args.place c.args.tick c.start.result c.start.new.table c.args.chain.now c.start.new.chain u exact);
    }
