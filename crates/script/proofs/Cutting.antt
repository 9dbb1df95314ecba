-- The first part of a line, cut off.
use Rattle.std.proofs.Common.{◌≡◌, ℕ, suc, ◌-◌, ◌<◌, Bool, true, false, cond, List, [], ◌∷◌, length, take, drop, sym, refl, ap, ◌∙◌, subst, ⊎_elim, arith, ◌+◌, ◌≤◌, not, ltb, Some, None, unwrap_or, position}
use mathlib.Core.Bool.{beq}
use Rattle.std.proofs.lemmas.List.{take_rest}
use Rattle.std.proofs.lemmas.Bool.{cases_Bool, cond_both, ltb-false}
use Rattle.std.proofs.lemmas.List.Recursion.{is_position_or_len}
use Rattle.std.proofs.lemmas.List.Sums.{prefix_len-le-length}
use Rattle.std.specs.List.{position_or_len}
use Rattle.script.specs.Parts.{blank, apart, lengthened, parts_of, leading}

module _ (byte : ℕ) (line : List ℕ) where
  parts_blank : blank byte ≡ true → parts_of (byte ∷ line) ≡ parts_of line
  parts_blank e = ap (λ b. cond b (parts_of line) (cond (apart line) ((byte ∷ []) ∷ parts_of line) (lengthened byte (parts_of line)))) e

  parts_solid : blank byte ≡ false → parts_of (byte ∷ line) ≡ cond (apart line) ((byte ∷ []) ∷ parts_of line) (lengthened byte (parts_of line))
  parts_solid e = ap (λ b. cond b (parts_of line) (cond (apart line) ((byte ∷ []) ∷ parts_of line) (lengthened byte (parts_of line)))) e

  leading_is : (b blanks : Bool) → blank byte ≡ b → leading blanks (byte ∷ line) ≡ cond (beq b blanks) (suc (leading blanks line)) 0
  leading_is b blanks e = ap (λ b. cond (beq b blanks) (suc (leading blanks line)) 0) e

turned : (b : Bool) (n : ℕ) → cond b (suc n) 0 ≡ cond (not b) 0 (1 + n)
turned true n = omega arith
turned false n = refl

found_or : (n all : ℕ) → n ≤ all → unwrap_or (cond (ltb n all) (Some n) None) all ≡ n
found_or n all few = cond_both (ltb n all) (Some n) None (λ o. unwrap_or o all ≡ n) (λ _. refl) (λ f. omega (arith, ltb-false n all f))

-- as many bytes lead as stand before the first of the other kind
pub leads : (blanks : Bool) (line : List ℕ) → unwrap_or (position (λ byte. not (beq (blank byte) blanks)) line) (length line) ≡ leading blanks line
leads blanks line =
    let test = λ (byte : ℕ). not (beq (blank byte) blanks) in
    let same : leading blanks line ≡ position_or_len test line = is_position_or_len (leading blanks) test refl (λ byte line. turned (beq (blank byte) blanks) (leading blanks line)) line in
    found_or (position_or_len test line) (length line) (prefix_len-le-length _ line) ∙ sym same

-- blanks at the front do not matter
past_blanks : (line : List ℕ) → parts_of (drop (leading true line) line) ≡ parts_of line
past_blanks [] = refl
past_blanks (byte ∷ line) =
    let more = past_blanks line in
    ⊎_elim
    (λ e. ap (λ n. parts_of (drop n (byte ∷ line))) (leading_is byte line true true e) ∙ more ∙ sym (parts_blank byte line e))
    (λ e. ap (λ n. parts_of (drop n (byte ∷ line))) (leading_is byte line false true e))
    (cases_Bool (blank byte))

-- where nothing but blanks is found, there is no part
no_part : (line : List ℕ) → leading false (drop (leading true line) line) ≡ 0 → parts_of line ≡ []
no_part [] h = refl
no_part (byte ∷ line) h =
    let more = no_part line in
    let at : (n : ℕ) → leading true (byte ∷ line) ≡ n → leading false (drop n (byte ∷ line)) ≡ 0 = λ n e. subst (λ n. leading false (drop n (byte ∷ line)) ≡ 0) e h in
    ⊎_elim
    (λ e. parts_blank byte line e ∙ more (at (suc (leading true line)) (leading_is byte line true true e)))
    (λ e. absurd (let z = at 0 (leading_is byte line false true e) in let some = leading_is byte line false false e in omega arith))
    (cases_Bool (blank byte))

abbrev Cut : List ℕ → ℕ → Type 0
Cut line n = parts_of line ≡ take n line ∷ parts_of (drop n line)

cut_more : (byte : ℕ) (line : List ℕ) → blank byte ≡ false → (0 < leading false line → Cut line (leading false line)) → Cut (byte ∷ line) (suc (leading false line))
cut_more byte [] e more = parts_solid byte [] e
cut_more byte (next ∷ line) e more = ⊎_elim
    (λ f. subst (λ n. Cut (byte ∷ next ∷ line) (suc n)) (sym (leading_is next line true false f)) (parts_solid byte (next ∷ line) e ∙ ap (λ b. cond b ((byte ∷ []) ∷ parts_of (next ∷ line)) (lengthened byte (parts_of (next ∷ line)))) f))
    (λ f.
    let some : 0 < leading false (next ∷ line) = omega (arith, leading_is next line false false f) in
    parts_solid byte (next ∷ line) e ∙ ap (λ b. cond b ((byte ∷ []) ∷ parts_of (next ∷ line)) (lengthened byte (parts_of (next ∷ line)))) f ∙ ap (lengthened byte) (more some))
    (cases_Bool (blank next))

-- bytes that are not blank make a part
cut : (line : List ℕ) → 0 < leading false line → Cut line (leading false line)
cut [] h = absurd (omega arith)
cut (byte ∷ line) h =
    let more = cut line in
    ⊎_elim
    (λ e. absurd (let z = leading_is byte line true false e in omega arith))
    (λ e. subst (Cut (byte ∷ line)) (sym (leading_is byte line false false e)) (cut_more byte line e more))
    (cases_Bool (blank byte))

-- as the code cuts a line: the blanks at its front, and then the first part
module _ (whole line : List ℕ) (start end : ℕ) (s : start ≡ leading true whole) (l : line ≡ drop start whole) (e : end ≡ leading false line) where
  pub ended : end ≡ 0 → parts_of whole ≡ []
  ended z = no_part whole (ap (λ n. leading false (drop n whole)) (sym s) ∙ ap (leading false) (sym l) ∙ sym e ∙ z)

  pub cut_off : 0 < end → parts_of whole ≡ take (end - 0) line ∷ parts_of (take (length line - end) (drop end line))
  cut_off some =
      let front : parts_of whole ≡ parts_of line = sym (past_blanks whole) ∙ ap (λ n. parts_of (drop n whole)) (sym s) ∙ ap parts_of (sym l) in
      let first : Cut line end = subst (Cut line) (sym e) (cut line (omega arith)) in
      let all : end - 0 ≡ end = omega arith in
      front ∙ first ∙ ap (λ n. take n line ∷ parts_of (drop end line)) (sym all) ∙ ap (λ r. take (end - 0) line ∷ parts_of r) (sym (take_rest line end))
