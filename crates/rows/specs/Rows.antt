-- What waits in a row, and what each change makes of it.
use Rattle.std.specs.Prelude.{◌≡◌, ℕ, ◌+◌, ◌-◌, ◌≤◌, Bool, cond, List, [], ◌∷◌, map, length, take, replicate, Some, None, Option, ◌==◌, slice_index_or, slice_set}
use Rattle.words.specs.declared.node.Entry.{Entry}
use Rattle.rows.specs.declared.plain.PlainRow.{PlainRow}
use Rattle.rows.specs.Entries.{blank, spent_entry, forgotten_entry}

-- the waiting entries, the oldest first
abbrev pub waiting : PlainRow → List Entry
waiting p = take p.count p.entries

-- what slot k holds
abbrev pub slot : PlainRow → ℕ → Entry
slot p k = slice_index_or p.entries k blank

-- every slot behind the waiting entries is blank
abbrev pub Canonical : PlainRow → Type 0
Canonical p = (k : ℕ) → p.count ≤ k → slot p k ≡ blank

-- rows of one size whose other slots are blank are equal where the same entries wait
abbrev pub ToldByWaiting : Type 0
ToldByWaiting = (p q : PlainRow) → length p.entries ≡ length q.entries → p.count ≤ length p.entries → q.count ≤ length q.entries
    → Canonical p → Canonical q → waiting p ≡ waiting q → p ≡ q

-- the row in which nothing waits
abbrev pub empty_row : PlainRow
empty_row = record { count = 0; entries = replicate 4 blank }

-- four wait
abbrev pub full : PlainRow → Bool
full p = p.count == 4

-- none waits
abbrev pub vacant : PlainRow → Bool
vacant p = p.count == 0

-- the oldest entry, if any waits
abbrev pub first_of : PlainRow → Option Entry
first_of p = cond (vacant p) None (Some (slot p 0))

-- the row with an entry behind the others
abbrev pub joined : PlainRow → Entry → PlainRow
joined p e = record { count = p.count + 1; entries = slice_set p.entries p.count e }

-- the row with one repeat less for the oldest entry
abbrev pub spent : PlainRow → PlainRow
spent p = cond (vacant p) p (record { count = p.count; entries = slice_set p.entries 0 (spent_entry (slot p 0)) })

-- the slots without the first: the others move up, and the last is blank
abbrev pub moved_up : List Entry → List Entry
moved_up es = slice_index_or es 1 blank ∷ slice_index_or es 2 blank ∷ slice_index_or es 3 blank ∷ blank ∷ []

-- the row without the oldest entry
abbrev pub left : PlainRow → PlainRow
left p = cond (vacant p) p (record { count = p.count - 1; entries = moved_up p.entries })

-- the row with no repeats in its orders to the marked places
abbrev pub forgotten : List Bool → PlainRow → PlainRow
forgotten places p = record { count = p.count; entries = map (forgotten_entry places) p.entries }
