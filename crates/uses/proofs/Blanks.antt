-- Blank slots of a row stay blank under each change of it.
use Rattle.std.proofs.Common.{◌≡◌, ℕ, zero, suc, ◌+◌, ◌-◌, ◌<◌, ◌≤◌, false, eqb, ◌≢◌, List, [], ◌∷◌, ◌++◌, length, get_or, drop, set, replicate, refl, ◌∙◌, arith, get_or-set_other, rules}
use Rattle.words.specs.declared.node.Entry.{Entry}
use Rattle.rows.specs.declared.plain.PlainRow.{PlainRow}
use Rattle.rows.specs.Entries.{blank, spent_entry}
use Rattle.rows.specs.Rows.{Canonical, empty_row, joined, spent, left}

-- ### lists

-- four elements without the first, and another behind them
pub four_left : {X : Type 0} (d z : X) (xs : List X) → length xs ≡ 4
    → get_or xs 1 d ∷ get_or xs 2 d ∷ get_or xs 3 d ∷ z ∷ [] ≡ drop 1 xs ++ z ∷ []
four_left d z [] l = absurd (omega arith)
four_left d z (a ∷ []) l = absurd (omega arith)
four_left d z (a ∷ b ∷ []) l = absurd (omega arith)
four_left d z (a ∷ b ∷ c ∷ []) l = absurd (omega arith)
four_left d z (a ∷ b ∷ c ∷ e ∷ []) l = refl
four_left d z (a ∷ b ∷ c ∷ e ∷ g ∷ r) l = absurd (omega arith)

-- a default behind a list changes no read of it
pub get_or_behind : {X : Type 0} (z : X) (xs : List X) (k : ℕ) → get_or (xs ++ z ∷ []) k z ≡ get_or xs k z
get_or_behind z [] zero = refl
get_or_behind z [] (suc k) = refl
get_or_behind z (x ∷ xs) zero = refl
get_or_behind z (x ∷ xs) (suc k) = get_or_behind z xs k

-- what stands one slot further
pub get_or_drop_1 : {X : Type 0} (z : X) (xs : List X) (k : ℕ) → get_or (drop 1 xs) k z ≡ get_or xs (k + 1) z
get_or_drop_1 z [] k = refl
get_or_drop_1 z (x ∷ xs) k = let h : k + 1 ≡ suc k = omega arith in rw h refl

-- ### rows

-- behind blanks too a read gives a blank
blanks : (n k : ℕ) → get_or (replicate n blank) k blank ≡ blank
blanks zero k = refl
blanks (suc n) zero = refl
blanks (suc n) (suc k) = blanks n k

pub canonical_empty : Canonical empty_row
canonical_empty k l = blanks 4 k

abbrev row : ℕ → List Entry → PlainRow
row n xs = record { count = n; entries = xs }

-- a row with a count above 0 is not empty
some_wait : (n : ℕ) → eqb (suc n) 0 ≡ false
some_wait n = search rules

pub canonical_joined : (n : ℕ) (xs : List Entry) (e : Entry) → Canonical (row n xs) → Canonical (joined (row n xs) e)
canonical_joined n xs e h k l =
    let ne : k ≢ n = omega arith in
    get_or-set_other xs n k e blank ne ∙ h k (omega arith)

-- only the first slot is written
unspent : (n : ℕ) (xs : List Entry) → Canonical (row (suc n) xs) → Canonical (row (suc n) (set xs 0 (spent_entry (get_or xs 0 blank))))
unspent n xs h k l = let ne : k ≢ 0 = omega arith in get_or-set_other xs 0 k (spent_entry (get_or xs 0 blank)) blank ne ∙ h k l

pub canonical_spent : (n : ℕ) (xs : List Entry) → Canonical (row n xs) → Canonical (spent (row n xs))
canonical_spent zero xs h = h
canonical_spent (suc n) xs h = simp (some_wait n) (unspent n xs h)

-- what stood one slot further is blank as before
shifted : (n : ℕ) (xs : List Entry) → Canonical (row (suc n) xs) → Canonical (row (suc n - 1) (drop 1 xs ++ blank ∷ []))
shifted n xs h k l = get_or_behind blank (drop 1 xs) k ∙ get_or_drop_1 blank xs k ∙ h (k + 1) (omega arith)

pub canonical_left : (n : ℕ) (xs : List Entry) → length xs ≡ 4 → Canonical (row n xs) → Canonical (left (row n xs))
canonical_left zero xs e h = h
canonical_left (suc n) xs e h = let up = four_left blank blank xs e in simp (some_wait n, up) (shifted n xs h)
