use Rattle.std.proofs.Common.{ltb}
use Rattle.steps.proofs.Meanings.{says}
use Rattle.steps.proofs.walk.step.Goals as goal

pub returns : goal.returns
returns g c =
    let o = g.O.Outlet in
    let exact = c.walk_any.ensures in
    let lane = c.args.lane in
    record {
      exact = exact;
      says = says o.meaning (ltb lane 8) c.args.table.now c.args.outlet.now lane c.walk_any.result c.walk_any.new.table c.walk_any.new.outlet exact;
    }
