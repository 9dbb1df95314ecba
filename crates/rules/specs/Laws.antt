-- Laws of the chains and the derivable places of every book of rules.
use Rattle.std.specs.Prelude.{◌≡◌, ℕ, ◌+◌, ◌<◌, Bool, true, cond, ◌⊎◌, List, [], ◌∷◌, length, take}
use Rattle.rules.specs.declared.book.Rule.{Rule}
use Rattle.rules.specs.declared.chain.Line.{Line}
use Rattle.rules.specs.Chain.{line_at, Grounded, Ground, Concludes, Lawful, Derivable, Leads}

-- a set of places is closed under a rule: with the rule's grounds it has its conclusion
abbrev pub Closed : (ℕ → Type 0) → Rule → Type 0
Closed S r = (p : ℕ) → Concludes r p → Grounded S r → S p

-- a set, told by a test, has a place
abbrev pub Has : (ℕ → Bool) → ℕ → Type 0
Has s p = s p ≡ true

-- the lines whose place passes a test
abbrev pub kept : (ℕ → Bool) → List Line → List Line
kept s [] = []
kept s (l ∷ c) = cond (s l.place) (l ∷ kept s c) (kept s c)

-- A set has what a place needs in a chain: the place itself, with each line's place the grounds of its rule, and no other place.
pub record Needs (rule : ℕ → Rule) (c : List Line) (p : ℕ) (s : ℕ → Bool) : Type 0 where
  pub own : Has s p
  pub grounds : (i : ℕ) → i < length c → Has s (line_at c i).place → Grounded (Has s) (rule (line_at c i).rule)
  pub other : (q : ℕ) → Has s q → (q ≡ p) ⊎ ((j : ℕ) × (j < length c) × Has s (line_at c j).place × Ground (rule (line_at c j).rule) q)

-- a set that is closed under every rule of the book has every derivable place
abbrev pub Least : ℕ → (ℕ → Rule) → Type 0
Least count rule = (s : ℕ → Bool) → ((k : ℕ) → k < count → Closed (Has s) (rule k)) → (p : ℕ) → Derivable count rule p → Has s p

-- the derivable places are closed under every rule of the book
abbrev pub Whole : ℕ → (ℕ → Rule) → Type 0
Whole count rule = (k : ℕ) → k < count → Closed (Derivable count rule) (rule k)

-- a beginning of a lawful chain is lawful
abbrev pub Beginnings : ℕ → (ℕ → Rule) → Type 0
Beginnings count rule = (c : List Line) → Lawful count rule c → (n : ℕ) → Lawful count rule (take n c)

-- a lawful chain kept to what one of its lines needs is lawful, ends on that line's place and holds nothing else
abbrev pub Keeping : ℕ → (ℕ → Rule) → Type 0
Keeping count rule =
    (c : List Line) → Lawful count rule c → (i : ℕ) → i < length c
    → (s : ℕ → Bool) → Needs rule (take (i + 1) c) (line_at c i).place s → Leads count rule (kept s (take (i + 1) c)) (line_at c i).place

-- the laws together
pub record Laws (count : ℕ) (rule : ℕ → Rule) : Type 0 where
  pub least : Least count rule
  pub whole : Whole count rule
  pub beginnings : Beginnings count rule
  pub keeping : Keeping count rule
