-- What each step of the work does to a value; no contract of a public function speaks of it.
use Rattle.std.specs.Prelude.{◌≡◌, ℕ, zero, suc, ◌+◌, ◌≤◌, true, false, cond, ◌⊎◌, List, length, replicate, Some, None, Option, nat_lt, slice_set}
use Rattle.rules.specs.declared.book.Rule.{Rule}
use Rattle.rules.specs.declared.chain.Chain.{Chain}
use Rattle.rules.specs.declared.chain.Line.{Line}
use Rattle.rules.specs.declared.derived.Derived.{Derived}
use Rattle.rules.specs.declared.places.Places.{Places}
use Rattle.rules.specs.Chain.{Grounded, Concludes, Lawful, Ends}
use Rattle.rules.specs.Found.{holds, marks}
use Rattle.rules.specs.Laws.{Closed, Has}

-- ### sets of places

-- no place
abbrev pub no_places : Places
no_places = record { marked = replicate 512 false }

-- one place more; there is none of 512 or more
abbrev pub with_place : Places → ℕ → Places
with_place s p = record { marked = slice_set s.marked p true }

-- a ground more, where it is a place
abbrev pub with_ground : Places → Option ℕ → Places
with_ground s None = s
with_ground s (Some p) = with_place s p

-- the grounds of a rule more, where the place that it gave is in the set
abbrev pub with_grounds : Places → ℕ → Rule → Places
with_grounds s p r = cond (holds s p) (with_ground (with_ground s r.first) r.second) s

-- ### chains

-- no line
abbrev pub no_lines : Chain
no_lines = record { lines = replicate 512 (record { rule = 0; place = 0 }); len = 0 }

-- one line more at the end, where there is room
abbrev pub pushed : Chain → Line → Chain
pushed c l = cond (nat_lt c.len 512) (record { lines = slice_set c.lines c.len l; len = c.len + 1 }) c

-- one line more, where a set has its place
abbrev pub kept_line : Places → Chain → Line → Chain
kept_line s c l = cond (holds s l.place) (pushed c l) c

-- the first lines of a chain, the last of which gives a place
pub record Beginning (c front : List Line) (p : ℕ) : Type 0 where
  pub few : length front ≤ 512
  pub ends : (count : ℕ) (rule : ℕ → Rule) → Lawful count rule c → Ends count rule front p

-- ### what is found

-- nothing yet
abbrev pub nothing_found : Derived
nothing_found = record { places = no_places; chain = no_lines }

-- one place more, by the rule with the number k
abbrev pub added : Derived → ℕ → ℕ → Derived
added s k p = record { places = with_place s.places p; chain = pushed s.chain (record { rule = k; place = p }) }

-- the rule gives a new place
abbrev pub Adds : Rule → ℕ → Derived → Derived → Type 0
Adds r k s t = (p : ℕ) × Concludes r p × Grounded (Has (marks s)) r × (marks s p ≡ false) × (t ≡ added s k p)

-- by the rule with the number k nothing is new, and nothing changes, or one place is
abbrev pub Step : Rule → ℕ → Derived → Derived → Type 0
Step r k s t = ((t ≡ s) × Closed (Has (marks s)) r) ⊎ Adds r k s t

-- the rules below n are considered in turn
abbrev pub Swept : (ℕ → Rule) → ℕ → Derived → Derived → Type 0
Swept rule zero s t = t ≡ s
Swept rule (suc n) s t = (m : Derived) × Swept rule n s m × Step (rule n) n m t
