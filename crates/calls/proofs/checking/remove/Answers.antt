use Rattle.calls.proofs.Opened.{removing}
use Rattle.calls.proofs.checking.remove.Goals as goal

pub returns : goal.returns
returns c =
    let opened = c.if-not-is_open.ensures in
    record { told = removing c.args.table.now _ c.args.permit.pattern c.pattern-pattern.result c.pattern-pattern.ensures opened c.take_out.ensures; handed_back = tt }
