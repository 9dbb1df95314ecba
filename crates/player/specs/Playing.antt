-- What a call tells, and what a player holds after it.
use Rattle.std.specs.Prelude.{◌≡◌, ℕ, cond, List, [], Some, None, Ok, Err, Option, Result, nat_lt}
use Rattle.words.specs.declared.node.Node.{Node}
use Rattle.image.specs.Nodes.{image_words}
use Rattle.lanes.specs.declared.lane.Lane.{Lane}
use Rattle.lanes.specs.declared.lane.LaneCall.{LaneCall}
use Rattle.lanes.specs.declared.lane.LaneCall.TheVariants as lane_call
use Rattle.lanes.specs.declared.record.Lanes.{Lanes}
use Rattle.lanes.specs.Lanes.{idle_lane, lane_at}
use Rattle.rows.specs.Rows.{waiting}
use Rattle.outlets.specs.declared.message.Message.{Message}
use Rattle.outlets.specs.Meaning.{Meaning}
use Rattle.table.specs.declared.state.Rows.{Rows}
use Rattle.table.specs.declared.state.Table.{Table}
use Rattle.table.specs.Changes.{rows_at}
use Rattle.reach.specs.declared.line.Line.{Line}
use Rattle.reach.specs.Scenes.{scene_of}
use Rattle.reach.specs.Verdicts.{Verdict}
use Rattle.steps.specs.declared.answer.Step.{Step}
use Rattle.calls.specs.declared.fault.Fault.{Fault}
use Rattle.calls.specs.Calls as calls
use Rattle.player.specs.declared.answer.Answer.{Answer}
use Rattle.script.specs.declared.name.Name.{Name}
use Rattle.script.specs.declared.name.Name.TheVariants as name
use Rattle.script.specs.Calls.{Said, memory, load, write, start, hold, resume, abort, command, check, remove, release, step, take, lane, reach, row}
use Rattle.player.specs.Memory.{blank_memory, until, chain_of}
use Rattle.player.specs.Refusals.{refusal_of}
use Rattle.player.specs.Stages.{Stage}
use Rattle.player.specs.Told.{Told, lines_now, loaded, wrote, accepted, granted, no_permit, stepped, taken, walker, queues, in_reach, out_of_reach, refused, told}

-- ### what is told

-- a refusal that has no chain
abbrev pub refused_plainly : Name → Fault → Told
refused_plainly name fault = refused name (refusal_of fault) []

-- a refusal whose chain, if it has one, stands in the memory
abbrev pub refused_with : Name → Fault → List Line → Told
refused_with name fault lines = refused name (refusal_of fault) (chain_of fault lines)

abbrev pub load_told : Result ℕ Fault → Told
load_told (Ok nodes) = loaded nodes
load_told (Err fault) = refused_plainly name.Load fault

abbrev pub written_told : List ℕ → Result ℕ Fault → Told
written_told image (Ok count) = wrote image
written_told image (Err fault) = refused_plainly name.Write fault

-- the image of the nodes, if a memory of so many words has room for it
abbrev pub write_told : List (Option Node) → ℕ → Told
write_told nodes room = written_told (image_words nodes) (calls.write_told nodes room)

-- a call that is not judged by reach
abbrev pub plain_told : Name → Result (Unit {0}) Fault → Told
plain_told name (Ok done) = accepted name
plain_told name (Err fault) = refused_plainly name fault

-- a call that is judged by reach
abbrev pub judged_told : Name → Result (Unit {0}) Fault → List Line → Told
judged_told name (Ok done) lines = accepted name
judged_told name (Err fault) lines = refused_with name fault lines

abbrev pub check_told : Result ℕ Fault → List Line → Told
check_told (Ok pattern) lines = granted pattern
check_told (Err fault) lines = refused_with name.Check fault lines

abbrev pub step_told : Result Step Fault → Told
step_told (Ok outcome) = stepped outcome
step_told (Err fault) = refused_plainly name.Step fault

-- the lane with a number; one above 7, which no script can name, would be told as idle
abbrev pub lane_told : Lanes Lane → ℕ → Told
lane_told lanes number = walker number (cond (nat_lt number 8) (lane_at lanes number) idle_lane)

abbrev pub rows_told : ℕ → Rows → Told
rows_told block rows = queues block (waiting rows.urgent) (waiting rows.plain)

-- the chain to a place in reach, as far as the memory has it
abbrev pub reach_told : Option ℕ → List Line → Told
reach_told None lines = out_of_reach
reach_told (Some place) lines = in_reach (until place lines)

-- ### what is held then

module _ {O : Type 0} where
  -- the outlet and the chain memory are as they were
  abbrev pub TableOnly : Stage O → Stage O → Type 0
  TableOnly before after = (after.outlet ≡ before.outlet) × (after.memory ≡ before.memory)

  -- hold, resume and abort
  abbrev pub PlaysLane : Name → LaneCall → Stage O → ℕ → Told → Stage O → Type 0
  PlaysLane name call before number told after =
      (answer : Result (Unit {0}) Fault) × calls.CallOnLane call before.table number answer after.table × (told ≡ plain_told name answer) × TableOnly before after

  -- Remove and release use the permit in hand, which is that of the open check, so that they are accepted. Without a permit nothing changes.
  abbrev pub UsesPermit : Name → (Table → ℕ → Result (Unit {0}) Fault → Table → Type 0) → Option ℕ → Stage O → Told → Stage O → Type 0
  UsesPermit name Use None before told after = (told ≡ no_permit name) × (after ≡ before)
  UsesPermit name Use (Some pattern) before told after = Use before.table pattern (Ok tt) after.table × (told ≡ accepted name) × TableOnly before after

module _ {O : Type 0} (meaning : Meaning O) where
  -- what a call tells, and what is held after it
  abbrev pub Plays : Stage O → Said → Told → Stage O → Type 0
  Plays before (memory lines) told after = (told ≡ lines_now lines) × (after ≡ record { table = before.table; outlet = before.outlet; memory = blank_memory lines })
  Plays before (load words) told after = (answer : Result ℕ Fault) × calls.Load before.table words answer after.table × (told ≡ load_told answer) × TableOnly before after
  Plays before (write room) told after = (told ≡ write_told before.table.nodes room) × (after ≡ before)
  Plays before (start number place tick) told after =
      (answer : Result (Unit {0}) Fault) × calls.Start before.table number place tick answer after.table before.memory after.memory
      × (told ≡ judged_told name.Start answer after.memory) × (after.outlet ≡ before.outlet)
  Plays before (hold number) told after = PlaysLane name.Hold lane_call.Hold before number told after
  Plays before (resume number) told after = PlaysLane name.Resume lane_call.Resume before number told after
  Plays before (abort number) told after = PlaysLane name.Abort lane_call.Abort before number told after
  Plays before (command block word) told after =
      (answer : Result (Unit {0}) Fault) × calls.Command before.table block word answer after.table before.memory after.memory
      × (told ≡ judged_told name.Command answer after.memory) × (after.outlet ≡ before.outlet)
  Plays before (check pattern) told after =
      (answer : Result ℕ Fault) × calls.Check before.table pattern answer after.table before.memory after.memory
      × (told ≡ check_told answer after.memory) × (after.outlet ≡ before.outlet)
  Plays before remove told after = UsesPermit name.Remove calls.Remove before.table.check before told after
  Plays before release told after = UsesPermit name.Release calls.Release before.table.check before told after
  Plays before (step number) told after =
      (answer : Result Step Fault) × calls.Steps meaning before.table before.outlet number answer after.table after.outlet
      × (told ≡ step_told answer) × (after.memory ≡ before.memory)
  Plays before take told after =
      (answer : Option Message) × calls.Takes meaning before.outlet answer after.outlet
      × (told ≡ taken answer) × (after.table ≡ before.table) × (after.memory ≡ before.memory)
  Plays before (lane number) told after = (told ≡ lane_told before.table.lanes number) × (after ≡ before)
  Plays before (reach place) told after =
      (answer : Option ℕ) × Verdict (scene_of before.table) (λ p. p ≡ place) answer before.memory after.memory
      × (told ≡ reach_told answer after.memory) × (after.table ≡ before.table) × (after.outlet ≡ before.outlet)
  Plays before (row block) told after = (told ≡ rows_told block (rows_at before.table block)) × (after ≡ before)

  -- where there is no memory left for the answer, the table and the outlet are as they were
  abbrev pub Played : {E : Type 0} → Stage O → Said → Result Answer E → Stage O → Type 0
  Played before said (Ok answer) after = Plays before said (told answer) after
  Played before said (Err none) after = (after.table ≡ before.table) × (after.outlet ≡ before.outlet)

-- what is told at the end, where a permit is still in hand
abbrev pub end_told : Option ℕ → Option Told
end_told None = None
end_told (Some pattern) = Some (accepted name.Release)
