-- What is answered where lanes can come to a place of some kind, and what the chain memory holds then.
use Rattle.std.specs.Prelude.{◌≡◌, ℕ, List, ◌++◌, length, take, drop, Some, None, Option}
use Rattle.reach.specs.declared.line.Line.{Line}
use Rattle.reach.specs.Scenes.{Scene}
use Rattle.reach.specs.Chains.{Ends, Shows}

-- some lawful chain ends on a place of the kind
abbrev pub ComesTo : Scene → (ℕ → Type 0) → Type 0
ComesTo s Kind = (c : List Line) × (p : ℕ) × Ends s c p × Kind p

-- a memory holds the chain from its first line on, as far as it goes; later lines keep what they held
abbrev pub with_chain : List Line → List Line → List Line
with_chain memory c = take (length memory) c ++ drop (length c) memory

-- The place told is of the kind, and the memory holds a lawful chain that ends on it; which one, no rule decides. Where no lawful chain
-- ends so, none is told, and the memory is unchanged.
abbrev pub Verdict : Scene → (ℕ → Type 0) → Option ℕ → List Line → List Line → Type 0
Verdict s Kind None before after = (ComesTo s Kind → ⊥) × (after ≡ before)
Verdict s Kind (Some p) before after = Kind p × ((c : List Line) × Shows s c p × (after ≡ with_chain before c))
