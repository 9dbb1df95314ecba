-- Each lane, each place and each slot of a row has a rule in the book.
use Rattle.std.proofs.Common.{◌≡◌, ℕ, ◌+◌, ◌-◌, ◌*◌, ◌/◌, ◌%◌, ◌<◌, cond, ltb, ap, ◌∙◌, arith}
use Rattle.std.proofs.lemmas.Nat.{div-mul-add, mod-mul-add}
use Rattle.std.proofs.lemmas.Bool.{lt-ltb, le-ltb, ne_eqb, cond-true, cond-false}
use Rattle.reach.specs.declared.source.Source.{Source}
use Rattle.reach.specs.declared.source.Source.TheVariants as source
use Rattle.reach.specs.Book.{rule_count, of_place, source_of}

-- a rule of the book speaks of the source
abbrev pub Numbered : Source → Type 0
Numbered x = (i : ℕ) × (i < rule_count) × (source_of i ≡ x)

pub lane_numbered : (l : ℕ) → l < 8 → Numbered (source.Lane l)
lane_numbered l h = (l, omega arith, cond-true _ _ _ (lt-ltb l 8 h))

module _ (p : ℕ) (small : p < 512) where
  place_numbered : (k : ℕ) → k < 10 → Numbered (of_place p k)
  place_numbered k h =
      let i : ℕ = p * 10 + k + 8 in
      let within : i < rule_count = omega arith in
      let back : i - 8 ≡ p * 10 + k = omega arith in (
        i,
        within,
        cond-false _ _ _ (le-ltb i 8 (omega arith))
            ∙ cond-true _ _ _ (lt-ltb i rule_count within)
            ∙ ap (λ n. of_place (n / 10) (n % 10)) back
            ∙ ap (λ n. of_place n ((p * 10 + k) % 10)) (div-mul-add p 10 k h)
            ∙ ap (of_place p) (mod-mul-add p 10 k h),
      )

  pub next_numbered : Numbered (source.Next p)
  next_numbered = place_numbered 0 (omega arith)

  pub flow_numbered : Numbered (source.Flow p)
  flow_numbered = place_numbered 1 (omega arith)

  -- past the first two come the rows
  row_numbered : (k : ℕ) (x : Source) → 1 < k → k < 10 → cond (ltb k 6) (source.Urgent p (k - 2)) (source.Plain p (k - 6)) ≡ x → Numbered x
  row_numbered k x low high e =
      let n = place_numbered k high in
      (n.0, n.1, n.2 ∙ cond-false _ _ _ (ne_eqb k 0 (λ z. omega arith)) ∙ cond-false _ _ _ (ne_eqb k 1 (λ z. omega arith)) ∙ e)

  pub urgent_numbered : (k : ℕ) → k < 4 → Numbered (source.Urgent p k)
  urgent_numbered k h = row_numbered (k + 2) _ (omega arith) (omega arith) (cond-true _ _ _ (lt-ltb (k + 2) 6 (omega arith)) ∙ ap (source.Urgent p) (omega arith))

  pub plain_numbered : (k : ℕ) → k < 4 → Numbered (source.Plain p k)
  plain_numbered k h = row_numbered (k + 6) _ (omega arith) (omega arith) (cond-false _ _ _ (le-ltb (k + 6) 6 (omega arith)) ∙ ap (source.Plain p) (omega arith))
