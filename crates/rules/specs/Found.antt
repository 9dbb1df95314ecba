-- What is found in a book of rules.
use Rattle.std.specs.Prelude.{◌≡◌, ℕ, Bool, true, false, List, take, slice_index_or}
use Rattle.rules.specs.declared.book.Rule.{Rule}
use Rattle.rules.specs.declared.chain.Line.{Line}
use Rattle.rules.specs.declared.derived.Derived.{Derived}
use Rattle.rules.specs.declared.places.Places.{Places}
use Rattle.rules.specs.Chain.{lines_of, On, Lawful, Derivable, Ends}

-- whether a place is in a set
abbrev pub holds : Places → ℕ → Bool
holds s p = slice_index_or s.marked p false

-- whether a place is marked as found
abbrev pub marks : Derived → ℕ → Bool
marks d = holds d.places

-- the lines that are recorded
abbrev pub recorded : Derived → List Line
recorded d = lines_of d.chain

-- The marked places are the derivable ones, the recorded lines are a lawful chain of the marked places, and a beginning of it ends on each.
pub record Found (count : ℕ) (rule : ℕ → Rule) (d : Derived) : Type 0 where
  pub sound : (p : ℕ) → marks d p ≡ true → Derivable count rule p
  pub complete : (p : ℕ) → Derivable count rule p → marks d p ≡ true
  pub lawful : Lawful count rule (recorded d)
  pub listed : (p : ℕ) → marks d p ≡ true → On (recorded d) p
  pub only : (p : ℕ) → On (recorded d) p → marks d p ≡ true
  pub begun : (p : ℕ) → Derivable count rule p → (n : ℕ) × Ends count rule (take n (recorded d)) p
