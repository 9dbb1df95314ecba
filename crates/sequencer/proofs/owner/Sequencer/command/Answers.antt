use Rattle.std.proofs.Common.{refl}
use Rattle.uses.specs.Uses as uses
use Rattle.sequencer.proofs.Going.{goes_on}
use Rattle.sequencer.proofs.owner.Sequencer.command.Goals as goal

pub returns : goal.returns
returns g c =
    let o = g.O.Outlet in
    let exact = c.command.ensures in
    record {
      exact = exact;
      outlet = refl;
      goes_on = goes_on o.meaning _ uses.quiet _ (λ h u. uses.command c.args.block c.args.word c.command.result c.command.new.table c.args.chain.now c.command.new.chain u exact);
    }
