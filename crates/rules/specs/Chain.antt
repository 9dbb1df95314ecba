-- What a lawful chain in a book of rules is, and which places are derivable.
use Rattle.std.specs.Prelude.{◌≡◌, ℕ, ◌+◌, ◌<◌, ◌≤◌, ◌⊎◌, List, length, take, Some, None, Option, ◌≢◌, slice_index_or}
use Rattle.rules.specs.declared.book.Rule.{Rule}
use Rattle.rules.specs.declared.chain.Line.{Line}
use Rattle.rules.specs.declared.chain.Chain.{Chain}

-- the lines of a chain
abbrev pub lines_of : Chain → List Line
lines_of c = take c.len c.lines

-- the line at a position; past the end it says nothing
abbrev pub line_at : List Line → ℕ → Line
line_at c i = slice_index_or c i (record { rule = 0; place = 0 })

-- what stands at a position: a line, or none past the end
abbrev pub Stands : List Line → ℕ → Option Line → Type 0
Stands c i None = length c ≤ i
Stands c i (Some l) = (i < length c) × (l ≡ line_at c i)

-- a place stands on one of the first n lines
abbrev pub Among : List Line → ℕ → ℕ → Type 0
Among c n p = (j : ℕ) × (j < n) × ((line_at c j).place ≡ p)

-- a place stands on some line
abbrev pub On : List Line → ℕ → Type 0
On c p = Among c (length c) p

-- a ground is in a set of places; no ground asks nothing
abbrev pub Met : (ℕ → Type 0) → Option ℕ → Type 0
Met S None = Unit {0}
Met S (Some p) = S p

-- all the grounds of a rule are in a set of places
abbrev pub Grounded : (ℕ → Type 0) → Rule → Type 0
Grounded S r = Met S r.first × Met S r.second

-- a place is a ground of a rule
abbrev pub Ground : Rule → ℕ → Type 0
Ground r p = (r.first ≡ Some p) ⊎ (r.second ≡ Some p)

-- a rule gives a place; there is none of 512 or more
abbrev pub Concludes : Rule → ℕ → Type 0
Concludes r p = (r.conclusion ≡ Some p) × (p < 512)

-- A chain is lawful in a book of `count` rules: each line names a rule of the book and the place that it gives, no place comes twice, and
-- each line's rule has all its grounds on the lines before it.
pub record Lawful (count : ℕ) (rule : ℕ → Rule) (c : List Line) : Type 0 where
  pub named : (i : ℕ) → i < length c → ((line_at c i).rule < count) × Concludes (rule (line_at c i).rule) (line_at c i).place
  pub once : (i j : ℕ) → i < j → j < length c → (line_at c i).place ≢ (line_at c j).place
  pub grounded : (i : ℕ) → i < length c → Grounded (Among c i) (rule (line_at c i).rule)

-- some lawful chain has the place
abbrev pub Derivable : ℕ → (ℕ → Rule) → ℕ → Type 0
Derivable count rule p = (c : List Line) × Lawful count rule c × On c p

-- a lawful chain whose last line gives a place
pub record Ends (count : ℕ) (rule : ℕ → Rule) (c : List Line) (p : ℕ) : Type 0 where
  pub lawful : Lawful count rule c
  pub last : (i : ℕ) × (length c ≡ i + 1) × ((line_at c i).place ≡ p)

-- each line but the last gives a ground of the rule of a later line
abbrev pub Needed : (ℕ → Rule) → List Line → Type 0
Needed rule c = (i : ℕ) → i + 1 < length c → (j : ℕ) × (i < j) × (j < length c) × Ground (rule (line_at c j).rule) (line_at c i).place

-- a lawful chain that ends on a place and holds only what its last line needs
pub record Leads (count : ℕ) (rule : ℕ → Rule) (c : List Line) (p : ℕ) : Type 0 where
  pub ends : Ends count rule c p
  pub needed : Needed rule c
