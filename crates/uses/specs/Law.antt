-- What holds after any calls.
use Rattle.std.specs.Prelude.{◌≡◌, ℕ, ◌+◌, ◌<◌, ◌≤◌, true, List, length, Some, None, Ok, Err, Result}
use Rattle.lanes.specs.declared.lane.LaneState.{LaneState}
use Rattle.lanes.specs.declared.lane.LaneState.TheVariants.{Idle, Running, Held}
use Rattle.lanes.specs.Lanes.{lane_at}
use Rattle.rows.specs.declared.plain.PlainRow.{PlainRow}
use Rattle.rows.specs.Rows.{slot, Canonical}
use Rattle.image.specs.Nodes.{image_words, live}
use Rattle.structure.specs.Nodes.{node_at}
use Rattle.outlets.specs.declared.message.Message.{Message}
use Rattle.outlets.specs.Meaning.{Meaning}
use Rattle.table.specs.declared.state.Table.{Table}
use Rattle.table.specs.Tables.{cleared, loaded}
use Rattle.table.specs.Loading.{Loads}
use Rattle.table.specs.Laws.{Sound}
use Rattle.table.specs.Changes.{rows_at, queued}
use Rattle.reach.specs.declared.fault.Fault.TheVariants as reach
use Rattle.reach.specs.declared.line.Line.{Line}
use Rattle.reach.specs.Scenes.{scene_of, Empty, Stands, IsOfPattern}
use Rattle.calls.specs.declared.fault.Fault.{Fault}
use Rattle.calls.specs.declared.fault.Fault.TheVariants.{Below, Bare}
use Rattle.steps.specs.Limits.{limit}
use Rattle.calls.specs.Refusals.{start_refusal, command_refusal, check_refusal, entry_in, may_wait}
use Rattle.calls.specs.Judging.{Astray, Uses, Told}
use Rattle.calls.specs.Calls.{Start, started, Command, Check, HasNode, Remove}
use Rattle.uses.specs.Uses.{Event, Use, sendings, takings}

-- ### (a) the table

pub record Safe (t : Table) : Type 0 where
  -- no lane stands on an empty place
  pub stands : (lane p : ℕ) → Stands (lane_at t.lanes lane).state p → Empty (scene_of t) p → ⊥
  -- no lawful chain ends on one
  pub leads : Astray t → ⊥
  -- no lawful chain ends in the pattern of the open check
  pub spared : (pattern : ℕ) → t.check ≡ Some pattern → Uses t pattern → ⊥
  -- and remove accepts the permit of the open check
  pub removes : (pattern : ℕ) (answer : Result (Unit {0}) Fault) (after : Table) → t.check ≡ Some pattern → Remove t pattern answer after → answer ≡ Ok tt

-- ### (b) refusals for reach

-- a call past its earlier tests is refused for reach exactly where a chain says so, with that chain, and is otherwise accepted
pub record ExactAnswer {X : Type 0} (trial : Table) (Kind : ℕ → Type 0) (ChainSays : Type 0) (answer : Result X Fault) (before after : List Line) : Type 0 where
  pub refused : (place : ℕ) → answer ≡ Err (Below (reach.Reach place)) → ChainSays × Told (scene_of trial) Kind place before after
  pub must : ChainSays → (place : ℕ) × (answer ≡ Err (Below (reach.Reach place)))

pub record Exact (t : Table) : Type 0 where
  pub starts : (lane place tick : ℕ) (answer : Result (Unit {0}) Fault) (after_t : Table) (before after : List Line)
      → Start t lane place tick answer after_t before after → start_refusal t lane place tick (length before) ≡ None
      → ExactAnswer (started t lane place tick) (Empty (scene_of (started t lane place tick))) (Astray (started t lane place tick)) answer before after
      × ((Astray (started t lane place tick) → ⊥) → answer ≡ Ok tt)
  pub commands : (block word : ℕ) (answer : Result (Unit {0}) Fault) (after_t : Table) (before after : List Line)
      → Command t block word answer after_t before after → command_refusal t block word (length before) ≡ None
      → ExactAnswer (queued t block (entry_in word)) (Empty (scene_of (queued t block (entry_in word)))) (Astray (queued t block (entry_in word))) answer before after
      × ((Astray (queued t block (entry_in word)) → ⊥) → answer ≡ Ok tt)
  pub checks : (pattern : ℕ) (answer : Result ℕ Fault) (after_t : Table) (before after : List Line)
      → Check t pattern answer after_t before after → check_refusal t pattern (length before) ≡ None
      → ExactAnswer t (IsOfPattern (scene_of t) pattern) (Uses t pattern) answer before after
      × ((Uses t pattern → ⊥) → HasNode t pattern → answer ≡ Ok pattern)
      × ((Uses t pattern → ⊥) → (HasNode t pattern → ⊥) → answer ≡ Err (Bare pattern))

-- ### (c) the messages: of each, as many were sent as were taken and wait

abbrev pub Balanced : {O : Type 0} → (O → Message → ℕ) → O → List Event → Type 0
Balanced waits o h = (x : Message) → sendings x h ≡ takings x h + waits o x

-- ### what hangs together in every table

-- a lane that is not idle is at a place of the table, and has a tick within its limit
abbrev pub InRange : LaneState → Type 0
InRange Idle = Unit {0}
InRange (Running place tick) = (place < 512) × (tick ≤ limit)
InRange (Held place tick) = (place < 512) × (tick ≤ limit)

-- at most four entries wait, each of which the place may have, and the other slots are blank
pub record Orderly (t : Table) (place : ℕ) (row : PlainRow) : Type 0 where
  pub few : row.count ≤ 4
  pub blank : Canonical row
  pub listed : (k : ℕ) → k < row.count → may_wait (node_at t.nodes place) (slot row k) ≡ true

pub record Whole (t : Table) : Type 0 where
  -- every node is allowed, and none is late, endless or unlisted
  pub sound : Sound t
  -- so that what is written of the table loads into a cleared one as the same nodes
  pub loads : Loads cleared (image_words t.nodes) (Ok (live t.nodes)) (loaded cleared t.nodes) × ((loaded cleared t.nodes).nodes ≡ t.nodes)
  pub lanes : (lane : ℕ) → InRange (lane_at t.lanes lane).state × ((lane_at t.lanes lane).sent ≤ limit)
  pub urgent : (place : ℕ) → Orderly t place (rows_at t place).urgent
  pub plain : (place : ℕ) → Orderly t place (rows_at t place).plain

-- ### the law

pub record Holds {O : Type 0} (waits : O → Message → ℕ) (t : Table) (o : O) (h : List Event) : Type 0 where
  pub safe : Safe t
  pub exact : Exact t
  pub balanced : Balanced waits o h
  pub whole : Whole t

-- it holds at every point of every use
abbrev pub Law : {O : Type 0} → Meaning O → Type 0
Law {O} meaning = (t : Table) (o : O) (h : List Event) → Use meaning t o h → Holds meaning.waits t o h
