-- The value of digits that do not fit 64 bits.
use Rattle.std.proofs.Common.{◌≡◌, ℕ, ◌+◌, ◌*◌, ◌^◌, ◌<◌, ◌≤◌, eqb, List, [], ◌∷◌, length, get_or, drop, Some, None, Option, sym, refl, ap, ◌∙◌, mul-le-mul_left, arith}
use Rattle.std.proofs.lemmas.List.{at_drop_more}
use Rattle.std.proofs.lemmas.Bool.{cond_both}
use Rattle.std.proofs.lemmas.Bool.Decides.{nat_tests}
use Rattle.words.specs.Format.{then}
use Rattle.script.specs.Numbers.{digit_in, value_on, fitting, number_in}

unfit : (n : ℕ) → fitting 64 n ≡ None → 2 ^ 64 ≤ n
unfit n e = grind (arith, nat_tests)

large : (n : ℕ) → 2 ^ 64 ≤ n → fitting 64 n ≡ None
large n h = grind (arith, nat_tests)

-- a value that does not fit is not mended by more digits
too_large : (base value : ℕ) (bytes : List ℕ) → 1 ≤ base → 2 ^ 64 ≤ value → then (value_on base value bytes) (fitting 64) ≡ None
too_large base value [] b h = large value h
too_large base value (byte ∷ bytes) b h =
    let more : (digit : ℕ) → then (value_on base (value * base + digit) bytes) (fitting 64) ≡ None
    = λ digit. too_large base (value * base + digit) bytes b (omega (arith, mul-le-mul_left value b)) in
    elim (digit_in base byte) as (λ o. then (then o (λ digit. value_on base (value * base + digit) bytes)) (fitting 64) ≡ None) [ None ↦ refl | Some digit ↦ more digit ]

none : (base : ℕ) (word : List ℕ) → then (value_on base 0 word) (fitting 64) ≡ None → number_in 64 base word ≡ None
none base word e = cond_both (eqb (length word) 0) None (then (value_on base 0 word) (fitting 64)) (λ o. o ≡ None) (λ _. refl) (λ _. e)

module _ (base value i : ℕ) (word : List ℕ) (more : i < length word) (inv : value_on base value (drop i word) ≡ value_on base 0 word) where
  step : (o : Option ℕ) → digit_in base (get_or word i 0) ≡ o → value_on base 0 word ≡ then o (λ digit. value_on base (value * base + digit) (drop (i + 1) word))
  step o e = sym inv ∙ at_drop_more (value_on base value) word i 0 more ∙ ap (λ o. then o (λ digit. value_on base (value * base + digit) (drop (i + 1) word))) e

  pub no_room : (digit : ℕ) → 1 ≤ base → digit_in base (get_or word i 0) ≡ Some digit → fitting 64 (value * base + digit) ≡ None → number_in 64 base word ≡ None
  no_room digit b e f =
      none base word (ap (λ o. then o (fitting 64)) (step (Some digit) e) ∙ too_large base (value * base + digit) (drop (i + 1) word) b (unfit (value * base + digit) f))
