-- Chains of grounds: lists of lines that show how lanes can come to a place.
use Rattle.std.specs.Prelude.{◌≡◌, ℕ, ◌+◌, ◌<◌, ◌≤◌, ◌⊎◌, List, length, ◌≢◌, slice_index_or}
use Rattle.reach.specs.declared.line.Letter.{Letter}
use Rattle.reach.specs.declared.line.Letter.TheVariants as letter
use Rattle.reach.specs.declared.line.Line.{Line}
use Rattle.reach.specs.Scenes.{Scene, Gives, Backed}

-- the line at a position; past the end it says nothing
abbrev pub line_at : List Line → ℕ → Line
line_at c i = slice_index_or c i (record { place = 0; letter = letter.Lane; first = 0; second = 0 })

-- a place stands on one of the first n lines
abbrev pub Among : List Line → ℕ → ℕ → Type 0
Among c n p = (j : ℕ) × (j < n) × ((line_at c j).place ≡ p)

-- the line's letter and numbers are right for its place, where the earlier places are those of a set
abbrev pub Right : Scene → (ℕ → Type 0) → Line → Type 0
Right s S l = Gives s l.letter l.first l.second l.place × Backed S l.letter l.first l.second

-- A chain is lawful: no place comes twice, each line has one of the 512 places (so END, 4,095, never comes), and each line is right,
-- where earlier means on a line before it.
pub record Lawful (s : Scene) (c : List Line) : Type 0 where
  pub once : (i j : ℕ) → i < j → j < length c → (line_at c i).place ≢ (line_at c j).place
  pub places : (i : ℕ) → i < length c → (line_at c i).place < 512
  pub right : (i : ℕ) → i < length c → Right s (Among c i) (line_at c i)

-- a place is in reach: some lawful chain has it
abbrev pub InReach : Scene → ℕ → Type 0
InReach s p = (c : List Line) × Lawful s c × Among c (length c) p

-- a lawful chain ends on the place of its last line
pub record Ends (s : Scene) (c : List Line) (p : ℕ) : Type 0 where
  pub lawful : Lawful s c
  pub last : (i : ℕ) × (length c ≡ i + 1) × ((line_at c i).place ≡ p)

-- the line names the place as a ground
abbrev pub Names : Letter → ℕ → ℕ → ℕ → Type 0
Names letter.Lane m n p = ⊥
Names letter.Next m n p = m ≡ p
Names letter.Queue m n p = m ≡ p
Names letter.Flow m n p = (m ≡ p) ⊎ (n ≡ p)

-- each line but the last is a ground of a later one
abbrev pub Needed : List Line → Type 0
Needed c = (i : ℕ) → i + 1 < length c → (j : ℕ) × (i < j) × (j < length c) × Names (line_at c j).letter (line_at c j).first (line_at c j).second (line_at c i).place

-- a lawful chain that ends on a place and has only the lines that its last line needs; there are at most 512
pub record Shows (s : Scene) (c : List Line) (p : ℕ) : Type 0 where
  pub ends : Ends s c p
  pub needed : Needed c
  pub few : length c ≤ 512
