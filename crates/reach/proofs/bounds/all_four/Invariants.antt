use Rattle.std.proofs.Common.{ℕ, ◌<◌, get_or}
use Rattle.table.specs.Tables.{empty_rows}
use Rattle.reach.specs.Views.{FourSlots}
use Rattle.reach.proofs.bounds.all_four.Given as goal

abbrev pub invariant-loop-row : goal.invariant-loop-row
invariant-loop-row l = (p : ℕ) → p < l.row-index → FourSlots (get_or l.rows p empty_rows)
