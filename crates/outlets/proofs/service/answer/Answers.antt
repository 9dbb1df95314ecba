use Rattle.outlets.proofs.Histories.{continues}
use Rattle.outlets.proofs.service.answer.Goals as goal

pub returns : goal.returns
returns g c =
    let o = g.O.Outlet in
    let step = c.call.ensures in
    record {
      step = step;
      history = continues o.meaning c.args.outlet.now c.call.new.outlet c.args.request c.call.result step;
    }
