-- What a call on a lane answers, and what it makes of the lane: its state and the call together decide.
use Rattle.std.specs.Prelude.{Ok, Err, Result}
use Rattle.lanes.specs.declared.lane.Lane.{Lane}
use Rattle.lanes.specs.declared.lane.LaneState.{LaneState}
use Rattle.lanes.specs.declared.lane.LaneState.TheVariants.{Idle, Running, Held}
use Rattle.lanes.specs.declared.lane.LaneCall.{LaneCall}
use Rattle.lanes.specs.declared.lane.LaneCall.TheVariants.{Start, Hold, Resume, Abort}
use Rattle.lanes.specs.declared.lane.WrongState.{WrongState}

abbrev pub wrong : Result LaneState WrongState
wrong = Err (record {})

abbrev pub state_answer : LaneState → LaneCall → Result LaneState WrongState
state_answer Idle (Start place tick) = Ok (Running place tick)
state_answer Idle Hold = wrong
state_answer Idle Resume = wrong
state_answer Idle Abort = wrong
state_answer (Running p t) (Start place tick) = wrong
state_answer (Running p t) Hold = Ok (Held p t)
state_answer (Running p t) Resume = wrong
state_answer (Running p t) Abort = Ok Idle
state_answer (Held p t) (Start place tick) = wrong
state_answer (Held p t) Hold = wrong
state_answer (Held p t) Resume = Ok (Running p t)
state_answer (Held p t) Abort = Ok Idle

abbrev pub answered : Result LaneState WrongState → Result (Unit {0}) WrongState
answered (Ok state) = Ok tt
answered (Err w) = Err w

abbrev pub lane_answer : Lane → LaneCall → Result (Unit {0}) WrongState
lane_answer lane call = answered (state_answer lane.state call)

-- a refused call changes nothing, and no call changes the count
abbrev pub moved : Lane → Result LaneState WrongState → Lane
moved lane (Ok state) = record { state = state; sent = lane.sent }
moved lane (Err w) = lane

abbrev pub lane_after : Lane → LaneCall → Lane
lane_after lane call = moved lane (state_answer lane.state call)
