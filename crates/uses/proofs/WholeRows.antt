-- What waits at a place stays orderly under each change of its rows.
use Rattle.std.proofs.Common.{◌≡◌, ℕ, ◌+◌, ◌-◌, ◌<◌, ◌≤◌, Bool, true, false, leb, List, length, get_or, set, Some, None, Option, sym, refl, ap, ◌∙◌, subst, inl, inr, ⊎_elim, arith, length-set}
use lib.ListN.{get_or-map}
use Rattle.std.proofs.lemmas.List.{length-map}
use Rattle.std.proofs.lemmas.Bool.{cases_eq, cond_both, cond-false, eqb-false}
use Rattle.words.specs.declared.node.Entry.{Entry}
use Rattle.words.specs.declared.node.Entry.TheVariants.{Pass, Order}
use Rattle.words.specs.declared.node.Node.{Node}
use Rattle.rows.specs.declared.plain.PlainRow.{PlainRow}
use Rattle.rows.specs.Entries.{blank, repeats_of, with_repeats, spent_entry, is_order_into, forgotten_entry}
use Rattle.rows.specs.Rows.{slot, Canonical, vacant, first_of, empty_row, joined, spent, moved_up, left, forgotten}
use Rattle.rows.proofs.Changes.{canonical_forgotten}
use Rattle.table.specs.declared.state.Rows.{Rows}
use Rattle.table.specs.Tables.{empty_rows, cleaned}
use Rattle.table.specs.Changes.{is_urgent, row_of, with_row, joined_rows}
use Rattle.reach.proofs.Sets.{at_set}
use Rattle.calls.specs.Refusals.{may_wait}
use Rattle.steps.specs.Steps.{oldest_in, before_other, ruling, used_by, used, rows_used_by, rows_used}
use Rattle.uses.proofs.Blanks.{four_left, get_or_behind, get_or_drop_1, canonical_empty, canonical_joined, canonical_spent, canonical_left}

-- ### one row

-- four slots, in which the entries stand first, and each may wait at the node
pub record RowWhole (node : Option Node) (row : PlainRow) : Type 0 where
  pub few : row.count ≤ 4
  pub long : length row.entries ≡ 4
  pub blank : Canonical row
  pub listed : (k : ℕ) → k < row.count → may_wait node (slot row k) ≡ true

module _ (node : Option Node) where
  pub row_empty : RowWhole node empty_row
  row_empty = record { few = omega arith; long = refl; blank = canonical_empty; listed = λ k l. absurd (omega arith) }

  -- whether an entry may wait does not depend on its repeats
  waits_repeats : (n : ℕ) (e : Entry) → may_wait node (with_repeats n e) ≡ may_wait node e
  waits_repeats n (Pass p) = refl
  waits_repeats n (Order o) = refl

  waits_forgotten : (places : List Bool) (e : Entry) → may_wait node (forgotten_entry places e) ≡ may_wait node e
  waits_forgotten places e = cond_both (is_order_into places e) (with_repeats 0 e) e (λ x. may_wait node x ≡ may_wait node e) (λ _. waits_repeats 0 e) (λ _. refl)

  module _ (row : PlainRow) (w : RowWhole node row) where
    pub row_joined : (e : Entry) → row.count < 4 → may_wait node e ≡ true → RowWhole node (joined row e)
    row_joined e room m = record {
      few = omega arith;
      long = length-set row.entries row.count e ∙ w.long;
      blank = canonical_joined row.count row.entries e w.blank;
      listed = λ k l. ⊎_elim
          (λ q. ap (may_wait node) q.1 ∙ m)
          (λ q. ap (may_wait node) q.0 ∙ w.listed k (before k l q.1))
          (at_set row.entries row.count k e blank);
    }
      where
        before : (k : ℕ) → k < row.count + 1 → (k ≡ row.count → length row.entries ≤ row.count) → k < row.count
        before k l past = elim (cases_eq k row.count) [ inl e ↦ absurd (let p = past e in omega (arith, w.long)) | inr ne ↦ omega arith ]

    -- some entry waits
    some_waits : vacant row ≡ false → 0 < row.count
    some_waits some = let ne = eqb-false row.count 0 some in elim (cases_eq row.count 0) [ inl e ↦ absurd (ne e) | inr _ ↦ omega arith ]

    abbrev spent_some : PlainRow
    spent_some = record { count = row.count; entries = set row.entries 0 (spent_entry (slot row 0)) }

    spent_whole : vacant row ≡ false → RowWhole node spent_some
    spent_whole some = record {
      few = w.few;
      long = length-set row.entries 0 (spent_entry (slot row 0)) ∙ w.long;
      blank = subst Canonical (cond-false (vacant row) row spent_some some) (canonical_spent row.count row.entries w.blank);
      listed = λ k l. ⊎_elim
          (λ q. ap (may_wait node) q.1 ∙ waits_repeats (repeats_of (slot row 0) - 1) (slot row 0) ∙ w.listed 0 (some_waits some))
          (λ q. ap (may_wait node) q.0 ∙ w.listed k l)
          (at_set row.entries 0 k (spent_entry (slot row 0)) blank);
    }

    pub row_spent : RowWhole node (spent row)
    row_spent = cond_both (vacant row) row spent_some (RowWhole node) (λ _. w) spent_whole

    abbrev left_some : PlainRow
    left_some = record { count = row.count - 1; entries = moved_up row.entries }

    -- what stood one slot further
    slot_moved : (k : ℕ) → slot left_some k ≡ slot row (k + 1)
    slot_moved k = ap (λ es. get_or es k blank) (four_left blank blank row.entries w.long) ∙ get_or_behind blank _ k ∙ get_or_drop_1 blank row.entries k

    left_whole : vacant row ≡ false → RowWhole node left_some
    left_whole some = record {
      few = omega (arith, w.few);
      long = refl;
      blank = subst Canonical (cond-false (vacant row) row left_some some) (canonical_left row.count row.entries w.long w.blank);
      listed = λ k l. ap (may_wait node) (slot_moved k) ∙ w.listed (k + 1) (omega arith);
    }

    pub row_left : RowWhole node (left row)
    row_left = cond_both (vacant row) row left_some (RowWhole node) (λ _. w) left_whole

    pub row_forgotten : (places : List Bool) → RowWhole node (forgotten places row)
    row_forgotten places = record {
      few = w.few;
      long = length-map row.entries (forgotten_entry places) ∙ w.long;
      blank = canonical_forgotten places row w.blank;
      listed = λ k l. ap (may_wait node) (get_or-map (forgotten_entry places) row.entries k blank) ∙ waits_forgotten places (slot row k) ∙ w.listed k l;
    }

    row_used_by : (o : Option Entry) → RowWhole node (used_by row o)
    row_used_by None = w
    row_used_by (Some e) = cond_both (leb (repeats_of e) 1) (left row) (spent row) (RowWhole node) (λ _. row_left) (λ _. row_spent)

    row_used : RowWhole node (used row)
    row_used = row_used_by (oldest_in row)

  -- ### the entry that rules

  -- it may wait there, if there is one
  abbrev pub May : Option Entry → Type 0
  May None = Unit {0}
  May (Some e) = may_wait node e ≡ true

  oldest_may : (row : PlainRow) → RowWhole node row → May (oldest_in row)
  oldest_may row w =
      cond_both (leb row.count 4) (first_of row) None May
      (λ _. cond_both (vacant row) None (Some (slot row 0)) May (λ _. tt) (λ some. w.listed 0 (some_waits row w some)))
      (λ _. tt)

  before_may : (a b : Option Entry) → May a → May b → May (before_other a b)
  before_may None b f g = g
  before_may (Some e) b f g = f

-- ### both rows of a place

pub record RowsWhole (node : Option Node) (rows : Rows) : Type 0 where
  pub urgent : RowWhole node rows.urgent
  pub plain : RowWhole node rows.plain

module _ (node : Option Node) where
  pub rows_empty : RowsWhole node empty_rows
  rows_empty = record { urgent = row_empty node; plain = row_empty node }

  module _ (rows : Rows) (w : RowsWhole node rows) where
    pub rows_joined_in : (u : Bool) (e : Entry) → (row_of rows u).count < 4 → may_wait node e ≡ true → RowsWhole node (with_row rows u (joined (row_of rows u) e))
    rows_joined_in true e room m = record { urgent = row_joined node rows.urgent w.urgent e room m; plain = w.plain }
    rows_joined_in false e room m = record { urgent = w.urgent; plain = row_joined node rows.plain w.plain e room m }

    pub rows_joined : (e : Entry) → (row_of rows (is_urgent e)).count < 4 → may_wait node e ≡ true → RowsWhole node (joined_rows rows e)
    rows_joined e = rows_joined_in (is_urgent e) e

    rows_used_of : (o : Option Entry) → RowsWhole node (rows_used_by rows o)
    rows_used_of None = record { urgent = w.urgent; plain = row_used node rows.plain w.plain }
    rows_used_of (Some e) = record { urgent = row_used node rows.urgent w.urgent; plain = w.plain }

    pub rows_used_whole : RowsWhole node (rows_used rows)
    rows_used_whole = rows_used_of (oldest_in rows.urgent)

    pub ruling_may : May node (ruling rows)
    ruling_may = before_may node (oldest_in rows.urgent) (oldest_in rows.plain) (oldest_may node rows.urgent w.urgent) (oldest_may node rows.plain w.plain)

    -- orders into marked places lose their repeats
    pub rows_forgotten : (marks : List Bool) → RowsWhole node (cleaned marks rows false)
    rows_forgotten marks = record { urgent = row_forgotten node rows.urgent w.urgent marks; plain = row_forgotten node rows.plain w.plain marks }

-- ### another node at the place

-- at which the same entries may wait
row_at : (a b : Option Node) → ((e : Entry) → may_wait a e ≡ may_wait b e) → (row : PlainRow) → RowWhole a row → RowWhole b row
row_at a b same row w = record { few = w.few; long = w.long; blank = w.blank; listed = λ k l. sym (same (slot row k)) ∙ w.listed k l }

pub rows_whole_at : (a b : Option Node) → ((e : Entry) → may_wait a e ≡ may_wait b e) → (rows : Rows) → RowsWhole a rows → RowsWhole b rows
rows_whole_at a b same rows w = record { urgent = row_at a b same rows.urgent w.urgent; plain = row_at a b same rows.plain w.plain }
