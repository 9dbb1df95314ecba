-- The lowest of the 512 places that has a property.
use Rattle.std.specs.Prelude.{◌≡◌, ℕ, ◌<◌, Bool, true, false, Some, None, Option}

-- no place has it
abbrev pub Nowhere : (ℕ → Type 0) → Type 0
Nowhere P = (q : ℕ) → q < 512 → P q → ⊥

-- the place has it, and none below
pub record Lowest (P : ℕ → Type 0) (place : ℕ) : Type 0 where
  pub small : place < 512
  pub here : P place
  pub below : (q : ℕ) → q < place → P q → ⊥

abbrev pub FoundLowest : (ℕ → Type 0) → Option ℕ → Type 0
FoundLowest P None = Nowhere P
FoundLowest P (Some place) = Lowest P place

-- the answer to a question about a place is yes
abbrev pub Yes : (ℕ → Bool) → ℕ → Type 0
Yes says p = says p ≡ true

-- ### by the answers of a closure

-- every one of the 512 places was answered by no
abbrev pub NowhereBy : (ℕ → Bool → Type 0) → Type 0
NowhereBy Answers = (q : ℕ) → q < 512 → Answers q false

-- the place was answered by yes, and each below it by no
pub record LowestAnswered (Answers : ℕ → Bool → Type 0) (place : ℕ) : Type 0 where
  pub small : place < 512
  pub here : Answers place true
  pub below : (q : ℕ) → q < place → Answers q false

abbrev pub LowestBy : (ℕ → Bool → Type 0) → Option ℕ → Type 0
LowestBy Answers None = NowhereBy Answers
LowestBy Answers (Some place) = LowestAnswered Answers place

-- whatever is answered for one of the 512 places is what the function gives there
abbrev pub Computes : (ℕ → Bool → Type 0) → (ℕ → Bool) → Type 0
Computes Answers f = (p : ℕ) → p < 512 → (b : Bool) → Answers p b → b ≡ f p
