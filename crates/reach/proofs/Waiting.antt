-- Which orders wait in rows after a change of the rows.
use Rattle.std.proofs.Common.{◌≡◌, ℕ, ◌≤◌, Bool, true, false, ◌⊎◌, List, length, Some, None, Option, subst, inl, inr, ⊎_elim, arith}
use lib.ListN.{get_or-map}
use Rattle.std.proofs.lemmas.List.{get_or_past}
use Rattle.std.proofs.lemmas.Bool.{cases_lt}
use Rattle.words.specs.declared.node.Entry.{Entry}
use Rattle.words.specs.declared.node.Entry.TheVariants as entry
use Rattle.words.specs.declared.node.Node.{Node}
use Rattle.rows.specs.declared.plain.PlainRow.{PlainRow}
use Rattle.rows.specs.Entries.{blank, with_repeats, is_order_into, forgotten_entry}
use Rattle.rows.specs.Rows.{slot, joined, forgotten}
use Rattle.table.specs.declared.state.Rows.{Rows}
use Rattle.table.specs.Tables.{empty_rows, fresh, cleaned}
use Rattle.table.specs.Changes.{is_urgent, row_of, with_row, joined_rows}
use Rattle.reach.specs.Scenes.{Aims, Waits, Ordered}
use Rattle.reach.proofs.Sets.{at_set, cond_cases}

module _ (p : ℕ) where
  -- ### an entry joins a row

  -- an order that waits in the row with one entry more waited before, or is that entry
  pub waits_joined : (row : PlainRow) (e : Entry) → Waits (joined row e) p → Waits row p ⊎ Aims e p
  waits_joined row e w =
      let k : ℕ = w.0 in
      elim (at_set row.entries row.count k e blank) [
        | inl new ↦ inr (subst (λ x. Aims x p) new.1 w.2)
        | inr old ↦
            let aims : Aims (slot row k) p = subst (λ x. Aims x p) old.0 w.2 in
            elim (cases_lt k row.count) [
              | inl lt ↦ inl (k, lt, aims)
              | inr ge ↦
                  let here : k ≡ row.count = omega (arith, w.1) in
                  let past : length row.entries ≤ k = omega (arith, old.1 here) in
                  absurd (subst (λ x. Aims x p) (get_or_past row.entries k blank past) aims)
            ]
      ]

  -- the same of the rows, whichever of the two the entry joins
  ordered_with : (rows : Rows) (urgent : Bool) (e : Entry) → Ordered (with_row rows urgent (joined (row_of rows urgent) e)) p → Ordered rows p ⊎ Aims e p
  ordered_with rows true e (inl w) = ⊎_elim (λ a. inl (inl a)) inr (waits_joined rows.urgent e w)
  ordered_with rows true e (inr w) = inl (inr w)
  ordered_with rows false e (inl w) = inl (inl w)
  ordered_with rows false e (inr w) = ⊎_elim (λ a. inl (inr a)) inr (waits_joined rows.plain e w)

  pub ordered_joined : (rows : Rows) (e : Entry) → Ordered (joined_rows rows e) p → Ordered rows p ⊎ Aims e p
  ordered_joined rows e w = ordered_with rows (is_urgent e) e w

  -- ### rows are emptied

  pub ordered_none : Ordered empty_rows p → ⊥
  ordered_none (inl w) = omega (arith, w.1)
  ordered_none (inr w) = omega (arith, w.1)

  -- a place that is loaded has no order waiting that did not wait before
  pub ordered_fresh : (rows : Rows) (new : Option Node) → Ordered (fresh rows new) p → Ordered rows p
  ordered_fresh rows None w = w
  ordered_fresh rows (Some node) w = absurd (ordered_none w)

  -- ### orders lose their repeats

  -- an order without repeats aims at nothing
  aims_none : (e : Entry) → Aims (with_repeats 0 e) p → ⊥
  aims_none (entry.Pass pass) a = a
  aims_none (entry.Order order) a = omega (arith, a.0)

  pub aims_forgotten : (marks : List Bool) (e : Entry) → Aims (forgotten_entry marks e) p → Aims e p
  aims_forgotten marks e a = ⊎_elim (λ b. absurd (aims_none e b)) (λ b. b) (cond_cases (λ x. Aims x p) (is_order_into marks e) (with_repeats 0 e) e a)

  pub waits_forgotten : (marks : List Bool) (row : PlainRow) → Waits (forgotten marks row) p → Waits row p
  waits_forgotten marks row w =
      (w.0, w.1, aims_forgotten marks (slot row w.0) (subst (λ x. Aims x p) (get_or-map (forgotten_entry marks) row.entries w.0 blank) w.2))

  -- an order that waits after a pattern was emptied waited before
  pub ordered_cleaned : (marks : List Bool) (rows : Rows) (mark : Bool) → Ordered (cleaned marks rows mark) p → Ordered rows p
  ordered_cleaned marks rows true w = absurd (ordered_none w)
  ordered_cleaned marks rows false (inl w) = inl (waits_forgotten marks rows.urgent w)
  ordered_cleaned marks rows false (inr w) = inr (waits_forgotten marks rows.plain w)
