-- The scene that a view shows, and what its types say of every scene that is shown.
use Rattle.std.specs.Prelude.{ℕ, ◌<◌, ◌≤◌, List, length, slice_index_or}
use Rattle.table.specs.declared.state.Rows.{Rows}
use Rattle.table.specs.Tables.{empty_rows}
use Rattle.reach.specs.declared.view.View.{View}
use Rattle.reach.specs.Scenes.{Scene}

abbrev pub scene_in : View → Scene
scene_in v = record { nodes = v.nodes.now; rows = v.rows.now; lanes = v.lanes.now }

-- each of the two rows has four slots at most
abbrev pub FourSlots : Rows → Type 0
FourSlots rows = (length rows.urgent.entries ≤ 4) × (length rows.plain.entries ≤ 4)

abbrev pub AllFour : List Rows → Type 0
AllFour rows = (p : ℕ) → p < length rows → FourSlots (slice_index_or rows p empty_rows)

-- a scene of 512 places and eight lanes, with four slots to a row
pub record Bounded (s : Scene) : Type 0 where
  pub nodes : length s.nodes ≤ 512
  pub slots : AllFour s.rows
  pub lanes : length s.lanes.lanes.items ≤ 8
