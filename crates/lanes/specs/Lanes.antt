-- The record of the eight lanes.
use Rattle.std.specs.Prelude.{ℕ, cond, replicate, Ok, Err, Result, nat_lt, slice_index_or, slice_set}
use Rattle.lanes.specs.declared.lane.Lane.{Lane}
use Rattle.lanes.specs.declared.lane.LaneState.TheVariants.{Idle}
use Rattle.lanes.specs.declared.lane.LaneCall.{LaneCall}
use Rattle.lanes.specs.declared.lane.WrongState.{WrongState}
use Rattle.lanes.specs.declared.record.Lanes.{Lanes}
use Rattle.lanes.specs.declared.record.LaneFault.{LaneFault}
use Rattle.lanes.specs.declared.record.LaneFault.TheVariants as fault
use Rattle.lanes.specs.Calls.{lane_answer, lane_after}

-- a lane that is idle and has sent nothing
abbrev pub idle_lane : Lane
idle_lane = record { state = Idle; sent = 0 }

abbrev pub idle_lanes : Lanes Lane
idle_lanes = record { lanes = record { items = replicate 8 idle_lane } }

abbrev pub lane_at : Lanes Lane → ℕ → Lane
lane_at lanes i = slice_index_or lanes.lanes.items i idle_lane

-- the record with another lane at a number
abbrev pub with_lane : Lanes Lane → ℕ → Lane → Lanes Lane
with_lane lanes i lane = record { lanes = record { items = slice_set lanes.lanes.items i lane } }

abbrev pub told : Result (Unit {0}) WrongState → Result (Unit {0}) LaneFault
told (Ok u) = Ok tt
told (Err w) = Err fault.WrongState

-- there is no lane above 7
abbrev pub call_answer : Lanes Lane → ℕ → LaneCall → Result (Unit {0}) LaneFault
call_answer lanes i call = cond (nat_lt i 8) (told (lane_answer (lane_at lanes i) call)) (Err fault.NoLane)

abbrev pub call_leaves : Lanes Lane → ℕ → LaneCall → Lanes Lane
call_leaves lanes i call = cond (nat_lt i 8) (with_lane lanes i (lane_after (lane_at lanes i) call)) lanes
