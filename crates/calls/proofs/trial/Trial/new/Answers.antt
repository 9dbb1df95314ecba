use Rattle.std.proofs.Common.{Some, refl, ap}
use Rattle.lanes.specs.Lanes.{idle_lane}
use Rattle.calls.proofs.Restored.{lane_same}
use Rattle.calls.proofs.trial.Trial.new.Goals as goal

pub returns : goal.returns
returns c =
    let value = c.at_mut.ensures.value idle_lane in
    record { parts = (lane_same c.args.lanes.now c.args.lane _ value, (refl, ap Some value)); named = refl }
