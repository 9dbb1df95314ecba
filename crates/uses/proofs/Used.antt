-- The entry that rules at a block waits there, and an order that waits after a visit waited before it.
use Rattle.std.proofs.Common.{◌≡◌, ℕ, zero, suc, ◌+◌, ◌-◌, ◌<◌, leb, List, get_or, set, Some, None, Option, sym, refl, ◌∙◌, subst, inl, inr, ⊎_elim, arith}
use Rattle.std.proofs.lemmas.Bool.{eqb-false, cases_Bool, cond-true, cond-false}
use Rattle.words.specs.declared.node.Entry.{Entry}
use Rattle.words.specs.declared.node.Entry.TheVariants as entry
use Rattle.rows.specs.declared.plain.PlainRow.{PlainRow}
use Rattle.rows.specs.Entries.{blank, repeats_of, spent_entry}
use Rattle.rows.specs.Rows.{slot, vacant, first_of, spent, moved_up, left}
use Rattle.table.specs.declared.state.Rows.{Rows}
use Rattle.reach.specs.Scenes.{Aims, Waits, Ordered}
use Rattle.reach.proofs.Sets.{set_cases, cond_cases}
use Rattle.steps.specs.Steps.{oldest_in, before_other, ruling, used_by, used, rows_used_by, rows_used}
use Rattle.uses.proofs.Outcomes.{none_some}

-- ### the ruling entry

first_waits : (row : PlainRow) (e : Entry) → first_of row ≡ Some e → (0 < row.count) × (slot row 0 ≡ e)
first_waits row e h =
    elim (cases_Bool (vacant row)) [
      | inl y ↦ absurd (none_some e (sym (cond-true (vacant row) None (Some (slot row 0)) y) ∙ h))
      | inr n ↦
          let is : Some (slot row 0) ≡ Some e = sym (cond-false (vacant row) None (Some (slot row 0)) n) ∙ h in
          (omega (arith, eqb-false row.count 0 n), cc)
    ]

oldest_waits : (row : PlainRow) (e : Entry) → oldest_in row ≡ Some e → (0 < row.count) × (slot row 0 ≡ e)
oldest_waits row e h = ⊎_elim (first_waits row e) (λ no. absurd (none_some e no)) (cond_cases (λ o. o ≡ Some e) (leb row.count 4) (first_of row) None h)

module _ (p : ℕ) where
  row_waits : (row : PlainRow) (e : Entry) → oldest_in row ≡ Some e → Aims e p → Waits row p
  row_waits row e h aims = let w = oldest_waits row e h in (0, w.0, subst (λ x. Aims x p) (sym w.1) aims)

  other_waits : (rows : Rows) (first : Option Entry) (e : Entry) → oldest_in rows.urgent ≡ first → before_other first (oldest_in rows.plain) ≡ Some e → Aims e p → Ordered rows p
  other_waits rows None e is h aims = inr (row_waits rows.plain e h aims)
  other_waits rows (Some x) e is h aims = inl (row_waits rows.urgent e (is ∙ h) aims)

  -- where the ruling entry is an order with repeats, it waits
  pub ruling_waits : (rows : Rows) (e : Entry) → ruling rows ≡ Some e → Aims e p → Ordered rows p
  ruling_waits rows e h aims = other_waits rows (oldest_in rows.urgent) e refl h aims

  -- ### what waits after a visit

  -- the slots behind the first, one further up
  moved_up_aims : (es : List Entry) (k : ℕ) → Aims (get_or (moved_up es) k blank) p → Aims (get_or es (k + 1) blank) p
  moved_up_aims es zero aims = aims
  moved_up_aims es (suc zero) aims = aims
  moved_up_aims es (suc (suc zero)) aims = aims
  moved_up_aims es (suc (suc (suc zero))) aims = absurd aims
  moved_up_aims es (suc (suc (suc (suc k)))) aims = absurd aims

  waits_left : (row : PlainRow) → Waits (left row) p → Waits row p
  waits_left row w =
      elim (cond_cases (λ r. Waits r p) (vacant row) row (record { count = row.count - 1; entries = moved_up row.entries }) w) [
        | inl same ↦ same
        | inr less ↦ (less.0 + 1, omega (arith, less.1), moved_up_aims row.entries less.0 less.2)
      ]

  aims_spent : (e : Entry) → Aims (spent_entry e) p → Aims e p
  aims_spent (entry.Pass pass) aims = aims
  aims_spent (entry.Order order) aims = (omega (arith, aims.0), aims.1)

  waits_spent : (row : PlainRow) → Waits (spent row) p → Waits row p
  waits_spent row w =
      elim (cond_cases (λ r. Waits r p) (vacant row) row (record { count = row.count; entries = set row.entries 0 (spent_entry (slot row 0)) }) w) [
        | inl same ↦ same
        | inr less ↦
            elim (set_cases (λ x. Aims x p) row.entries 0 less.0 (spent_entry (slot row 0)) blank less.2) [
              | inl new ↦ (0, omega (arith, less.1), aims_spent (slot row 0) new.1)
              | inr old ↦ (less.0, less.1, old)
            ]
      ]

  waits_used_by : (row : PlainRow) (first : Option Entry) → Waits (used_by row first) p → Waits row p
  waits_used_by row None w = w
  waits_used_by row (Some e) w = ⊎_elim (waits_left row) (waits_spent row) (cond_cases (λ r. Waits r p) (leb (repeats_of e) 1) (left row) (spent row) w)

  waits_used : (row : PlainRow) → Waits (used row) p → Waits row p
  waits_used row w = waits_used_by row (oldest_in row) w

  ordered_used_by : (rows : Rows) (first : Option Entry) → Ordered (rows_used_by rows first) p → Ordered rows p
  ordered_used_by rows (Some e) (inl w) = inl (waits_used rows.urgent w)
  ordered_used_by rows (Some e) (inr w) = inr w
  ordered_used_by rows None (inl w) = inl w
  ordered_used_by rows None (inr w) = inr (waits_used rows.plain w)

  pub ordered_used : (rows : Rows) → Ordered (rows_used rows) p → Ordered rows p
  ordered_used rows w = ordered_used_by rows (oldest_in rows.urgent) w
