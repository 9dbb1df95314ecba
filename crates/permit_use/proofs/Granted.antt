-- What a granted check leaves.
use Rattle.std.proofs.Common.{◌≡◌, ℕ, List, length, Some, None, Ok, Option, arith}
use Rattle.table.specs.declared.state.Table.{Table}
use Rattle.table.specs.Changes.{check_changed}
use Rattle.reach.specs.declared.line.Line.{Line}
use Rattle.calls.specs.declared.fault.Fault.{Fault}
use Rattle.calls.specs.Refusals.{check_refusal}
use Rattle.calls.specs.Judging.{Tested}
use Rattle.calls.specs.Calls.{Check, Checked}

module _ (t after_t : Table) (pattern permit : ℕ) (before after : List Line) where
  abbrev Granted : Type 0
  Granted = (permit ≡ pattern) × (after_t ≡ check_changed t (Some pattern))

  granted_by : (refusal : Option Fault) → Tested refusal (Ok permit) t after_t before after (Checked t pattern (Ok permit) after_t before after) → Granted
  granted_by (Some fault) said = let z : ◌≡◌ {A = ℕ} 0 1 = cc said.0 in absurd (omega arith)
  granted_by None said = (said.2, said.3)

  pub granted : Check t pattern (Ok permit) after_t before after → Granted
  granted = granted_by (check_refusal t pattern (length before))
