-- How a table is judged by reach, and what a refusal for reach leaves.
use Rattle.std.specs.Prelude.{◌≡◌, ℕ, List, ◌++◌, length, drop, Some, None, Ok, Err, Option, Result}
use Rattle.table.specs.declared.state.Table.{Table}
use Rattle.reach.specs.declared.fault.Fault.TheVariants as reach
use Rattle.reach.specs.declared.line.Line.{Line}
use Rattle.reach.specs.Scenes.{Scene, scene_of, Empty, IsOfPattern}
use Rattle.reach.specs.Chains.{Shows}
use Rattle.reach.specs.Verdicts.{ComesTo}
use Rattle.calls.specs.declared.fault.Fault.{Fault}
use Rattle.calls.specs.declared.fault.Fault.TheVariants.{Range, Memory, Busy, Below, State, Row, Bare, Permit}

-- some lawful chain ends on an empty place of the table
abbrev pub Astray : Table → Type 0
Astray t = ComesTo (scene_of t) (Empty (scene_of t))

-- some lawful chain ends in the pattern
abbrev pub Uses : Table → ℕ → Type 0
Uses t pattern = ComesTo (scene_of t) (IsOfPattern (scene_of t) pattern)

-- A refusal for reach tells a place of the kind, and the memory then holds a lawful chain that ends on it, from its first line on; later
-- lines keep what they held. Which chain it is, no rule decides.
abbrev pub Told : Scene → (ℕ → Type 0) → ℕ → List Line → List Line → Type 0
Told s Kind place before after = Kind place × ((c : List Line) × Shows s c place × (after ≡ c ++ drop (length c) before))

-- a refusal that changes nothing, where an earlier test fails; otherwise what is said
abbrev pub Tested : {X : Type 0} → Option Fault → Result X Fault → Table → Table → List Line → List Line → Type 0 → Type 0
Tested (Some fault) answer t after_t before after said = (answer ≡ Err fault) × (after_t ≡ t) × (after ≡ before)
Tested None answer t after_t before after said = said

-- The table as it would be is judged: refused exactly where a lawful chain ends on an empty place there, and otherwise accepted.
abbrev pub Judged : Table → Result (Unit {0}) Fault → Table → Table → List Line → List Line → Type 0
Judged trial (Ok done) t after_t before after = (Astray trial → ⊥) × (after_t ≡ trial) × (after ≡ before)
Judged trial (Err (Below (reach.Reach place))) t after_t before after = Told (scene_of trial) (Empty (scene_of trial)) place before after × (after_t ≡ t)
Judged trial (Err (Below (reach.Table fault))) t after_t before after = ⊥
Judged trial (Err (Range argument)) t after_t before after = ⊥
Judged trial (Err (Memory needed)) t after_t before after = ⊥
Judged trial (Err (Busy pattern)) t after_t before after = ⊥
Judged trial (Err (State lane)) t after_t before after = ⊥
Judged trial (Err (Row block)) t after_t before after = ⊥
Judged trial (Err (Bare pattern)) t after_t before after = ⊥
Judged trial (Err (Permit pattern)) t after_t before after = ⊥
