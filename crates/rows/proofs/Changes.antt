-- What each change of a row does to the list of waiting entries, and that blank slots stay blank.
use Rattle.std.proofs.Common.{◌≡◌, ℕ, ◌<◌, ◌≤◌, Bool, ◌⊎◌, List, map, length, get_or, sym, ap, ◌∙◌, inl, inr, arith, length-take-le, get_or-take, ext_get_or}
use lib.ListN.{get_or-map}
use Rattle.std.proofs.lemmas.Bool.{cases_lt}
use Rattle.std.proofs.lemmas.List.{take-map}
use Rattle.words.specs.declared.node.Entry.{Entry}
use Rattle.rows.specs.declared.plain.PlainRow.{PlainRow}
use Rattle.rows.specs.Entries.{blank, forgotten_entry}
use Rattle.rows.specs.Rows.{waiting, slot, Canonical, ToldByWaiting, forgotten}

pub waiting_forgotten : (places : List Bool) (p : PlainRow) → waiting (forgotten places p) ≡ map (forgotten_entry places) (waiting p)
waiting_forgotten places p = take-map (forgotten_entry places) p.count p.entries

pub canonical_forgotten : (places : List Bool) (p : PlainRow) → Canonical p → Canonical (forgotten places p)
canonical_forgotten places p h k l =
    get_or-map (forgotten_entry places) p.entries k blank ∙ ap (forgotten_entry places) (h k l)

-- slot k holds an entry that waits in both rows, or a blank in both
same_slot : (p q : PlainRow) (k : ℕ) → p.count ≡ q.count → Canonical p → Canonical q → waiting p ≡ waiting q
    → (k < p.count) ⊎ (p.count ≤ k) → slot p k ≡ slot q k
same_slot p q k n cp cq same (inl lt) =
    let lq : k < q.count = omega arith in
    sym (get_or-take p.count p.entries k blank lt) ∙ ap (λ (es : List Entry). get_or es k blank) same ∙ get_or-take q.count q.entries k blank lq
same_slot p q k n cp cq same (inr le) = let lq : q.count ≤ k = omega arith in cp k le ∙ sym (cq k lq)

pub told_by_waiting : ToldByWaiting
told_by_waiting p q long lp lq cp cq same =
    let n : p.count ≡ q.count = sym (length-take-le p.count p.entries lp) ∙ ap length same ∙ length-take-le q.count q.entries lq in
    let each : (k : ℕ) → slot p k ≡ slot q k = λ k. same_slot p q k n cp cq same (cases_lt k p.count) in
    let all : p.entries ≡ q.entries = ext_get_or blank p.entries q.entries long (λ k h. each k) in
    λ i. record { count = n i; entries = all i }
