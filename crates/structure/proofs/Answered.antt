-- The lowest place by the answers of a closure is the lowest place by what they compute.
use Rattle.std.proofs.Common.{ℕ, ◌<◌, Bool, true, false, Some, None, Option, sym, arith}
use Rattle.std.proofs.lemmas.Bool.{both_ways}
use Rattle.structure.specs.Lowest.{FoundLowest, Yes, LowestBy, Computes}

module _ (A : ℕ → Bool → Type 0) (f : ℕ → Bool) (computes : Computes A f) where
  no : (p : ℕ) → p < 512 → A p false → Yes f p → ⊥
  no p small answer given = both_ways (f p) (sym (computes p small false answer)) given

  pub found_by : (r : Option ℕ) → LowestBy A r → FoundLowest (Yes f) r
  found_by None h = λ q small. no q small (h q small)
  found_by (Some p) h = record { small = h.small; here = sym (computes p h.small true h.here); below = λ q less. no q (omega (arith, less, h.small)) (h.below q less) }
