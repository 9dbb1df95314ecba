-- The permit in hand, told by its pattern.
use Rattle.std.specs.Prelude.{ℕ, Bool, true, false, Some, None, Option, ◌==◌}
use Rattle.words.specs.Format.{mapped}
use Rattle.calls.specs.declared.permit.Permit.{Permit}

abbrev pub pattern_held : Option Permit → Option ℕ
pattern_held permit = mapped (λ (p : Permit). p.pattern) permit

-- the same pattern, or none in both
abbrev pub same_pattern : Option ℕ → Option ℕ → Bool
same_pattern None None = true
same_pattern None (Some pattern) = false
same_pattern (Some held) None = false
same_pattern (Some held) (Some pattern) = held == pattern

-- the permit in hand is that of the open check, and where none is open there is none
abbrev pub of_check : Option Permit → Option ℕ → Bool
of_check permit check = same_pattern (pattern_held permit) check
