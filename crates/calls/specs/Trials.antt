-- What a trial answers: a refusal that comes before it, or how the scene as it would be is judged.
use Rattle.std.specs.Prelude.{◌≡◌, ℕ, List, Some, None, Ok, Err, Option, Result}
use Rattle.lanes.specs.declared.lane.Lane.{Lane}
use Rattle.lanes.specs.declared.lane.LaneState.TheVariants.{Running}
use Rattle.lanes.specs.declared.record.Lanes.{Lanes}
use Rattle.lanes.specs.Lanes.{lane_at, with_lane}
use Rattle.table.specs.declared.state.Table.{Table}
use Rattle.reach.specs.declared.fault.Fault.TheVariants as reach
use Rattle.reach.specs.declared.line.Line.{Line}
use Rattle.reach.specs.Scenes.{Scene, Empty}
use Rattle.reach.specs.Verdicts.{ComesTo}
use Rattle.calls.specs.declared.fault.Fault.{Fault}
use Rattle.calls.specs.declared.fault.Fault.TheVariants.{Range, Memory, Busy, Below, State, Row, Bare, Permit}
use Rattle.calls.specs.Judging.{Told}

-- the refusal, or else what was asked for
abbrev pub unless : {X : Type 0} → Option Fault → X → Result X Fault
unless (Some fault) x = Err fault
unless None x = Ok x

-- the lanes with the lane running from the place and the tick on
abbrev pub running : Lanes Lane → ℕ → ℕ → ℕ → Lanes Lane
running lanes lane place tick = with_lane lanes lane (record { state = Running place tick; sent = (lane_at lanes lane).sent })

-- the lanes with what the lane was, if anything is to be put back
abbrev pub put_back : Lanes Lane → ℕ → Option Lane → Lanes Lane
put_back lanes lane None = lanes
put_back lanes lane (Some before) = with_lane lanes lane before

-- the scene of a table with lanes that are only tried
abbrev pub with_lanes : Table → Lanes Lane → Scene
with_lanes t lanes = record { nodes = t.nodes; rows = t.rows; lanes = lanes }

-- a scene is refused exactly where a lawful chain ends on an empty place of it
abbrev pub Allows : Scene → Result (Unit {0}) Fault → List Line → List Line → Type 0
Allows s (Ok done) before after = (ComesTo s (Empty s) → ⊥) × (after ≡ before)
Allows s (Err (Below (reach.Reach place))) before after = Told s (Empty s) place before after
Allows s (Err (Below (reach.Table fault))) before after = ⊥
Allows s (Err (Range argument)) before after = ⊥
Allows s (Err (Memory needed)) before after = ⊥
Allows s (Err (Busy pattern)) before after = ⊥
Allows s (Err (State lane)) before after = ⊥
Allows s (Err (Row block)) before after = ⊥
Allows s (Err (Bare pattern)) before after = ⊥
Allows s (Err (Permit pattern)) before after = ⊥

-- a place of the kind that a lawful chain ends on is told with the chain, and none exactly where there is none
abbrev pub Tells : Scene → (ℕ → Type 0) → Option ℕ → List Line → List Line → Type 0
Tells s Kind None before after = (ComesTo s Kind → ⊥) × (after ≡ before)
Tells s Kind (Some place) before after = Told s Kind place before after
