-- What each call answers, and what table, outlet and memory hold then.
use Rattle.std.specs.Prelude.{◌≡◌, ℕ, Bool, true, false, cond, List, length, Some, None, Ok, Err, Option, Result, ◌==◌, nat_lt}
use Rattle.words.specs.declared.node.Node.{Node}
use Rattle.lanes.specs.declared.lane.LaneCall.{LaneCall}
use Rattle.lanes.specs.declared.lane.LaneState.TheVariants.{Running}
use Rattle.lanes.specs.declared.record.LaneFault.{LaneFault}
use Rattle.lanes.specs.declared.record.LaneFault.TheVariants as lane_fault
use Rattle.lanes.specs.Lanes.{call_answer, call_leaves}
use Rattle.image.specs.Nodes.{image_words}
use Rattle.outlets.specs.declared.message.Message.{Message}
use Rattle.outlets.specs.Meaning.{Meaning}
use Rattle.outlets.specs.declared.request.Request.TheVariants as request
use Rattle.outlets.specs.Meaning as outlet
use Rattle.outlets.specs.Replies.{took}
use Rattle.table.specs.declared.fault.Fault.{Fault as TableFault}
use Rattle.table.specs.declared.state.Table.{Table}
use Rattle.table.specs.Loading.{Loads}
use Rattle.table.specs.Tables.{emptied}
use Rattle.table.specs.Changes.{state_changed, check_changed, queued}
use Rattle.reach.specs.declared.fault.Fault.TheVariants as reach
use Rattle.reach.specs.declared.line.Line.{Line}
use Rattle.reach.specs.Scenes.{scene_of, IsOfPattern}
use Rattle.steps.specs.declared.answer.Step.{Step}
use Rattle.calls.specs.declared.fault.Fault.{Fault}
use Rattle.calls.specs.declared.fault.Fault.TheVariants.{Range, Memory, Busy, Below, State, Row, Bare, Permit}
use Rattle.calls.specs.Refusals.{start_refusal, command_refusal, check_refusal, entry_in}
use Rattle.calls.specs.Judging.{Uses, Told, Tested, Judged}
use Rattle.steps.specs.Steps.{stepped, offer_of}
use Rattle.steps.specs.Walking.{Offers}

-- ### load and write

-- faults of the table are carried up
abbrev pub carried : Result ℕ TableFault → Result ℕ Fault
carried (Ok nodes) = Ok nodes
carried (Err fault) = Err (Below (reach.Table fault))

-- while a check is open, nothing is loaded
abbrev pub LoadsIf : Option ℕ → Table → List ℕ → Result ℕ Fault → Table → Type 0
LoadsIf (Some pattern) t words answer after = (answer ≡ Err (Busy pattern)) × (after ≡ t)
LoadsIf None t words answer after = (found : Result ℕ TableFault) × Loads t words found after × (answer ≡ carried found)

abbrev pub Load : Table → List ℕ → Result ℕ Fault → Table → Type 0
Load t words answer after = LoadsIf t.check t words answer after

-- how many words the image of the table has, if there is room for them
abbrev pub write_told : List (Option Node) → ℕ → Result ℕ Fault
write_told nodes room = cond (nat_lt room (length (image_words nodes))) (Err (Memory (length (image_words nodes)))) (Ok (length (image_words nodes)))

-- ### start, hold, resume, abort

-- the lane runs from the place and the tick on
abbrev pub started : Table → ℕ → ℕ → ℕ → Table
started t lane place tick = state_changed t lane (Running place tick)

abbrev pub Start : Table → ℕ → ℕ → ℕ → Result (Unit {0}) Fault → Table → List Line → List Line → Type 0
Start t lane place tick answer after_t before after =
    Tested (start_refusal t lane place tick (length before)) answer t after_t before after (Judged (started t lane place tick) answer t after_t before after)

abbrev pub lane_told : ℕ → Result (Unit {0}) LaneFault → Result (Unit {0}) Fault
lane_told lane (Ok done) = Ok tt
lane_told lane (Err lane_fault.NoLane) = Err (Range 0)
lane_told lane (Err lane_fault.WrongState) = Err (State lane)

-- hold, resume and abort: the lane's state and the call together decide
abbrev pub CallOnLane : LaneCall → Table → ℕ → Result (Unit {0}) Fault → Table → Type 0
CallOnLane call t lane answer after =
    (answer ≡ lane_told lane (call_answer t.lanes lane call))
    × (after ≡ record { nodes = t.nodes; rows = t.rows; lanes = call_leaves t.lanes lane call; check = t.check })

-- ### command

abbrev pub Command : Table → ℕ → ℕ → Result (Unit {0}) Fault → Table → List Line → List Line → Type 0
Command t block word answer after_t before after =
    Tested (command_refusal t block word (length before)) answer t after_t before after (Judged (queued t block (entry_in word)) answer t after_t before after)

-- ### check, remove, release

-- some place is live with the pattern
abbrev pub HasNode : Table → ℕ → Type 0
HasNode t pattern = (p : ℕ) × IsOfPattern (scene_of t) pattern p

-- Refused exactly where a lawful chain ends in the pattern; otherwise granted, unless the pattern has no node. A permit is told by its pattern.
abbrev pub Checked : Table → ℕ → Result ℕ Fault → Table → List Line → List Line → Type 0
Checked t pattern (Ok permit) after_t before after =
    (Uses t pattern → ⊥) × HasNode t pattern × (permit ≡ pattern) × (after_t ≡ check_changed t (Some pattern)) × (after ≡ before)
Checked t pattern (Err (Below (reach.Reach place))) after_t before after = Told (scene_of t) (IsOfPattern (scene_of t) pattern) place before after × (after_t ≡ t)
Checked t pattern (Err (Bare bare)) after_t before after = (Uses t pattern → ⊥) × (HasNode t pattern → ⊥) × (bare ≡ pattern) × (after_t ≡ t) × (after ≡ before)
Checked t pattern (Err (Below (reach.Table fault))) after_t before after = ⊥
Checked t pattern (Err (Range argument)) after_t before after = ⊥
Checked t pattern (Err (Memory needed)) after_t before after = ⊥
Checked t pattern (Err (Busy other)) after_t before after = ⊥
Checked t pattern (Err (State lane)) after_t before after = ⊥
Checked t pattern (Err (Row block)) after_t before after = ⊥
Checked t pattern (Err (Permit other)) after_t before after = ⊥

abbrev pub Check : Table → ℕ → Result ℕ Fault → Table → List Line → List Line → Type 0
Check t pattern answer after_t before after =
    Tested (check_refusal t pattern (length before)) answer t after_t before after (Checked t pattern answer after_t before after)

-- the check of the pattern is open
abbrev pub is_open : Option ℕ → ℕ → Bool
is_open None pattern = false
is_open (Some open-one) pattern = open-one == pattern

abbrev pub permit_told : Bool → ℕ → Result (Unit {0}) Fault
permit_told true pattern = Ok tt
permit_told false pattern = Err (Permit pattern)

-- the pattern's places and their rows become empty, every other waiting order to them loses its repeats, and no check is open
abbrev pub removed : Table → ℕ → Table
removed t pattern = check_changed (emptied t pattern) None

abbrev pub Remove : Table → ℕ → Result (Unit {0}) Fault → Table → Type 0
Remove t pattern answer after = (answer ≡ permit_told (is_open t.check pattern) pattern) × (after ≡ cond (is_open t.check pattern) (removed t pattern) t)

abbrev pub Release : Table → ℕ → Result (Unit {0}) Fault → Table → Type 0
Release t pattern answer after =
    (answer ≡ permit_told (is_open t.check pattern) pattern) × (after ≡ cond (is_open t.check pattern) (check_changed t None) t)

-- ### step and take

module _ {O : Type 0} (meaning : Meaning O) where
  abbrev pub StepsIf : Bool → Table → O → ℕ → Result Step Fault → Table → O → Type 0
  StepsIf true t o lane answer after_t after_o =
      (accepted : Bool) × Offers meaning (offer_of t lane) o accepted after_o × (answer ≡ Ok (stepped accepted t lane).answer) × (after_t ≡ (stepped accepted t lane).table)
  StepsIf false t o lane answer after_t after_o = (answer ≡ Err (Range 0)) × (after_t ≡ t) × (after_o ≡ o)

  -- there is no lane above 7
  abbrev pub Steps : Table → O → ℕ → Result Step Fault → Table → O → Type 0
  Steps t o lane answer after_t after_o = StepsIf (nat_lt lane 8) t o lane answer after_t after_o

  -- a take leaves the table alone
  abbrev pub Takes : O → Option Message → O → Type 0
  Takes o answer after = outlet.Step meaning o request.Take (took answer) after
