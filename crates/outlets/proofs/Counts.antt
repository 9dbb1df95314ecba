-- Which messages are the same, and which stand in a list.
use Rattle.std.proofs.Common.{◌≡◌, ℕ, ◌+◌, ◌<◌, true, ◌&&◌, eqb, List, [], ◌∷◌, length, get_or, sym, refl, ap, ◌∙◌, ⊎_elim, add-one, arith}
use Rattle.std.proofs.lemmas.List.Sums.{sum_by-cons, get_or-le-sum_by}
use Rattle.std.proofs.lemmas.Bool.{and_parts, and_from, eqb-true, eq-eqb, cases_Bool, cond-true, cond-false}
use Rattle.outlets.specs.declared.message.Message.{Message}
use Rattle.outlets.specs.Messages.{same, one, times, blank}

pub same_is : (a b : Message) → same a b ≡ true → a ≡ b
same_is a b h =
    let p = and_parts (eqb a.lane b.lane) (eqb a.event b.event && eqb a.due b.due) h in
    let q = and_parts (eqb a.event b.event) (eqb a.due b.due) p.1 in
    let made : ℕ → ℕ → ℕ → Message = λ l e d. record { lane = l; event = e; due = d } in
    ap (λ l. made l a.event a.due) (eqb-true _ _ p.0) ∙ ap (λ e. made b.lane e a.due) (eqb-true _ _ q.0) ∙ ap (λ d. made b.lane b.event d) (eqb-true _ _ q.1)

pub same_self : (a : Message) → same a a ≡ true
same_self a = and_from _ _ (eq-eqb a.lane a.lane refl) (and_from _ _ (eq-eqb a.event a.event refl) (eq-eqb a.due a.due refl))

-- what stands in a list is counted
pub counted : (ms : List Message) (k : ℕ) → k < length ms → 0 < times (get_or ms k blank) ms
counted ms k l =
    let m = get_or ms k blank in
    let this : one m m ≡ 1 = cond-true _ _ _ (same_self m) in
    omega (arith, get_or-le-sum_by (one m) ms k blank l)

-- what is counted stands in the list
pub found : (x : Message) (ms : List Message) → 0 < times x ms → (k : ℕ) × (k < length ms) × (get_or ms k blank ≡ x)
found x [] p = let none : ⊥ = omega arith in absurd none
found x (m ∷ ms) p =
    ⊎_elim
    (λ e. (0, omega arith, sym (same_is x m e)))
    (λ e.
    let later = found x ms (omega (arith, sum_by-cons (one x) m ms, cond-false {A = ℕ} (same x m) 1 0 e)) in
    (later.0 + 1, omega (arith, later.1), ap (λ k. get_or (m ∷ ms) k blank) (add-one later.0) ∙ later.2))
    (cases_Bool (same x m))
