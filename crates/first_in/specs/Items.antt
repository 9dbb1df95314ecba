-- What a first-in list holds.
use Rattle.std.specs.Prelude.{◌≡◌, ℕ, List, [], ◌∷◌, ◌++◌, length, take, drop, Some, None, Option}
use Rattle.first_in.specs.declared.list.FirstIn.{FirstIn}

-- the first n of the slots s, read in a ring from the slot `from` on
abbrev pub ring : {T : Type 0} → List T → ℕ → ℕ → List T
ring s from n = take n (drop from s ++ take from s)

-- the items, the oldest first
abbrev pub items : {T : Type 0} → FirstIn T → List T
items q = ring q.slots.now q.head q.len

-- how many items there is room for
abbrev pub room : {T : Type 0} → FirstIn T → ℕ
room q = length q.slots.now

-- the item that came in first
abbrev pub oldest : {T : Type 0} → List T → Option T
oldest [] = None
oldest (x ∷ xs) = Some x

-- nothing was handed out since the slots held `start`: the items stand in front, and each later slot is as it was
pub record Gathered {T : Type 0} (start : List T) (q : FirstIn T) : Type 0 where
  pub front : q.head ≡ 0
  pub long : length q.slots.now ≡ length start
  pub rest : drop q.len q.slots.now ≡ drop q.len start
