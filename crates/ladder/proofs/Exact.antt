-- What is derivable in the two books, from the laws of every book.
use Rattle.std.proofs.Common.{◌≡◌, ℕ, zero, suc, ◌-◌, ◌<◌, ◌≤◌, ltb, Some, None, Option, sym, refl, ap, ◌∙◌, subst, inl, inr, arith, MatchOption}
use Rattle.std.proofs.lemmas.Bool.{cases_lt, cond-true, lt-ltb, ltb-true}
use Rattle.rules.specs.declared.chain.Chain.{Chain}
use Rattle.rules.specs.Chain.{lines_of, Grounded, Derivable, Leads}
use Rattle.rules.specs.Laws.{Closed, Has, Laws}
use Rattle.ladder.specs.Books.{knot_rule, ladder_rule}

some_is : (a b : ℕ) → ◌≡◌ {A = Option ℕ} (Some a) (Some b) → a ≡ b
some_is a b e = cc

module _ (laws : Laws 4 knot_rule) where
  small_closed : (k : ℕ) → k < 4 → Closed (Has (λ p. ltb p 3)) (knot_rule k)
  small_closed zero h p con g = lt-ltb p 3 (omega (arith, some_is 0 p con.0))
  small_closed (suc zero) h p con g = lt-ltb p 3 (omega (arith, some_is 1 p con.0))
  small_closed (suc (suc zero)) h p con g = lt-ltb p 3 (omega (arith, some_is 2 p con.0))
  small_closed (suc (suc (suc zero))) h p con g = absurd (omega (arith, ltb-true 3 3 g.0))
  small_closed (suc (suc (suc (suc k)))) h p con g = absurd (omega arith)

  pub only : (p : ℕ) → Derivable 4 knot_rule p → p < 3
  only p d = ltb-true p 3 (laws.least (λ q. ltb q 3) small_closed p d)

  zeroth : Derivable 4 knot_rule 0
  zeroth = laws.whole 0 (omega arith) 0 (refl, omega arith) (tt, tt)

  first : Derivable 4 knot_rule 1
  first = laws.whole 1 (omega arith) 1 (refl, omega arith) (zeroth, tt)

  second : Derivable 4 knot_rule 2
  second = laws.whole 2 (omega arith) 2 (refl, omega arith) (first, zeroth)

  pub each : (p : ℕ) → p < 3 → Derivable 4 knot_rule p
  each zero h = zeroth
  each (suc zero) h = first
  each (suc (suc zero)) h = second
  each (suc (suc (suc p))) h = absurd (omega arith)

module _ (laws : Laws 512 ladder_rule) where
  pub rung : (p : ℕ) → p < 512 → Derivable 512 ladder_rule p
  rung zero h = laws.whole 511 (omega arith) 0 (refl, omega arith) (tt, tt)
  rung (suc p) h =
      let k : ℕ = 510 - p in
      let is : ladder_rule k ≡ record { first = Some p; second = None; conclusion = Some (suc p) } =
      cond-true (ltb k 511) _ _ (lt-ltb k 511 (omega arith)) ∙ ap (λ q. record { first = Some (510 - k); second = None; conclusion = Some q }) (omega arith) ∙ ap (λ q. record { first = Some q; second = None; conclusion = Some (suc p) }) (omega arith) in
      laws.whole k (omega arith) (suc p) (ap (λ r. r.conclusion) is, h) (subst (Grounded (Derivable 512 ladder_rule)) (sym is) (rung p (omega arith), tt))

  -- there is a chain to each place
  abbrev Climbed : ℕ → Type 0 → Option Chain → Type 0
  Climbed p none r = MatchOption r none (λ c. Leads 512 ladder_rule (lines_of c) p)

  pub climbed : (p : ℕ) (r : Option Chain) → Climbed p (Derivable 512 ladder_rule p → ⊥) r → Climbed p (512 ≤ p) r
  climbed p None none = elim (cases_lt p 512) [ inl lt ↦ absurd (none (rung p lt)) | inr ge ↦ ge ]
  climbed p (Some c) leads = leads
