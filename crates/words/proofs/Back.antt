-- Reading and writing a word undo each other.
use Rattle.std.proofs.Common.{◌≡◌, ℕ, ◌/◌, ◌%◌, ◌^◌, ◌<◌, Bool, true, false, ◌&&◌, eqb, ltb, Some, None, Option, sym, refl, ap, ◌∙◌, subst, ⊎_elim, arith}
use Rattle.std.proofs.lemmas.Bool.Decides.{nat_tests}
use Rattle.std.proofs.lemmas.Nat.{shr-shr}
use Rattle.std.proofs.lemmas.Bool.{cond_both, cases_Bool, ltb-true, eqb-true, eqb-false, and_parts}
use Rattle.words.specs.declared.node.Exit.{Exit}
use Rattle.words.specs.declared.node.Exit.TheVariants as exit
use Rattle.words.specs.declared.node.Order.{Order}
use Rattle.words.specs.declared.word.Kind.{Kind}
use Rattle.words.specs.declared.word.Kind.TheVariants.{Message, Block, Flow}
use Rattle.words.specs.declared.word.Word.{Word}
use Rattle.words.specs.declared.word.Word.TheVariants as word
use Rattle.words.specs.Format.{read, then, mapped, when, place_in, exit_in, repeats_in, head_in, order_in, pass_in, end_in, bit, written, kind_number, Allowed, AllowedExit, AllowedRepeats}
use Rattle.words.specs.Laws.{ReadsBack, WritesBack}

-- ### what is written is read back

abbrev Back : Word → Type 0
Back x = (read (written x) ≡ Some x) × (written x < 2 ^ 32)

next_back : (e : Exit) → AllowedExit e → Back (word.Next e)
next_back exit.End h = (refl, omega arith)
next_back (exit.Place n) h = (grind (arith, nat_tests), omega arith)

alternative_back : (e : Exit) → AllowedExit e → Back (word.Alternative e)
alternative_back exit.End h = (refl, omega arith)
alternative_back (exit.Place n) h = (grind (arith, nat_tests), omega arith)

head_back : (k : Kind) (p n : ℕ) → p < 256 → n < 512 → Back (word.Head k p n)
head_back Message p n h i = (grind (arith, nat_tests), omega arith)
head_back Block p n h i = (grind (arith, nat_tests), omega arith)
head_back Flow p n h i = (grind (arith, nat_tests), omega arith)

abbrev order : ℕ → Bool → Bool → Exit → Order
order r l u d = record { repeats = r; lasting = l; urgent = u; destination = d }

order_back : (r : ℕ) (l u : Bool) (d : Exit) → AllowedRepeats r → AllowedExit d → Back (word.Order (order r l u d))
order_back r true true exit.End h i = (grind (arith, nat_tests), omega arith)
order_back r true false exit.End h i = (grind (arith, nat_tests), omega arith)
order_back r false true exit.End h i = (grind (arith, nat_tests), omega arith)
order_back r false false exit.End h i = (grind (arith, nat_tests), omega arith)
order_back r true true (exit.Place n) h i = (grind (arith, nat_tests), omega arith)
order_back r true false (exit.Place n) h i = (grind (arith, nat_tests), omega arith)
order_back r false true (exit.Place n) h i = (grind (arith, nat_tests), omega arith)
order_back r false false (exit.Place n) h i = (grind (arith, nat_tests), omega arith)

pass_back : (r : ℕ) (u : Bool) → AllowedRepeats r → Back (word.Pass (record { repeats = r; urgent = u }))
pass_back r true h = (grind (arith, nat_tests), omega arith)
pass_back r false h = (grind (arith, nat_tests), omega arith)

pub reads_back : ReadsBack
reads_back (word.Head k p n) h = head_back k p n h.0 h.1
reads_back (word.Next e) h = next_back e h
reads_back (word.Time t) h = (grind (arith, nat_tests), omega arith)
reads_back (word.Event e) h = (grind (arith, nat_tests), omega arith)
reads_back (word.Alternative e) h = alternative_back e h
reads_back (word.Target n) h = (grind (arith, nat_tests), omega arith)
reads_back (word.Order o) h = order_back o.repeats o.lasting o.urgent o.destination h.0 h.1
reads_back (word.Pass p) h = pass_back p.repeats p.urgent h
reads_back (word.End n) h = (grind (arith, nat_tests), omega arith)

-- ### what is read is what was written

abbrev Sound : ℕ → Option Word → Type 0
Sound w None = Unit {0}
Sound w (Some x) = (written x ≡ w) × Allowed x

-- one of the low bits as a mark
bit_is : (n : ℕ) → n < 2 → bit (eqb n 1) ≡ n
bit_is n h = ⊎_elim (λ t. ap bit t ∙ sym (eqb-true n 1 t)) (λ t. let ne : n ≡ 1 → ⊥ = eqb-false n 1 t in ap bit t ∙ omega arith) (cases_Bool (eqb n 1))

-- what holds of a place and of the end holds of what is read as an exit
by_exit : (w n : ℕ) (P : Option Exit → Type 0) → (w % 2 ^ n < 512 → P (Some (exit.Place (w % 2 ^ n)))) → (w % 2 ^ n ≡ 4095 → P (Some exit.End)) → P None → P (exit_in w n)
by_exit w n P at end none =
    cond_both (ltb (w % 2 ^ n) 512) _ _ P (λ t. at (ltb-true _ _ t))
    (λ _. cond_both (eqb (w % 2 ^ n) 4095) _ _ P (λ t. end (eqb-true _ _ t)) (λ _. none))

by_place : (w n : ℕ) (P : Option ℕ → Type 0) → (w % 2 ^ n < 512 → P (Some (w % 2 ^ n))) → P None → P (place_in w n)
by_place w n P at none = cond_both (ltb (w % 2 ^ n) 512) _ _ P (λ t. at (ltb-true _ _ t)) (λ _. none)

by_repeats : (w : ℕ) (P : Option ℕ → Type 0) → (0 < w / 2 ^ 20 % 2 ^ 8 → P (Some (w / 2 ^ 20 % 2 ^ 8))) → P None → P (repeats_in w)
by_repeats w P at none = cond_both (ltb 0 (w / 2 ^ 20 % 2 ^ 8)) _ _ P (λ t. at (ltb-true _ _ t)) (λ _. none)

next_sound : (w : ℕ) → w / 2 ^ 28 ≡ 2 → Sound w (mapped word.Next (exit_in w 28))
next_sound w e = by_exit w 28 (λ o. Sound w (mapped word.Next o)) (λ h. (omega arith, h)) (λ h. (omega arith, tt)) tt

alternative_sound : (w : ℕ) → w / 2 ^ 28 ≡ 5 → Sound w (mapped word.Alternative (exit_in w 28))
alternative_sound w e = by_exit w 28 (λ o. Sound w (mapped word.Alternative o)) (λ h. (omega arith, h)) (λ h. (omega arith, tt)) tt

target_sound : (w : ℕ) → w / 2 ^ 28 ≡ 6 → Sound w (mapped word.Target (place_in w 28))
target_sound w e = by_place w 28 (λ o. Sound w (mapped word.Target o)) (λ h. (omega arith, h)) tt

end_sound : (w : ℕ) → w / 2 ^ 28 ≡ 15 → Sound w (end_in w)
end_sound w e = cond_both _ (Some (word.End (w % 2 ^ 28))) None (Sound w) (λ t. let h = ltb-true (w % 2 ^ 28) 4096 t in (omega arith, h)) (λ _. tt)

order_sound : (w : ℕ) → w / 2 ^ 28 ≡ 7 → Sound w (order_in w)
order_sound w e =
    let r = w / 2 ^ 20 % 2 ^ 8 in
    let l = w / 2 ^ 19 % 2 ^ 1 in
    let u = w / 2 ^ 18 % 2 ^ 1 in
    let x = order r (eqb l 1) (eqb u 1) in
    let last : bit (eqb l 1) ≡ l = bit_is l (omega arith) in
    let urge : bit (eqb u 1) ≡ u = bit_is u (omega arith) in
    by_repeats w (λ o. Sound w (then o (λ r. then (exit_in w 18) (λ d. Some (word.Order (order r (eqb l 1) (eqb u 1) d))))))
    (λ p. by_exit w 18 (λ o. Sound w (then o (λ d. Some (word.Order (x d)))))
    (λ h. (omega (arith, shr-shr w 18 1, shr-shr w 19 1, shr-shr w 20 8), ((p, omega arith), h)))
    (λ h. (omega (arith, shr-shr w 18 1, shr-shr w 19 1, shr-shr w 20 8), ((p, omega arith), tt)))
    tt)
    tt

pass_sound : (w : ℕ) → w / 2 ^ 28 ≡ 8 → Sound w (pass_in w)
pass_sound w e =
    let r = w / 2 ^ 20 % 2 ^ 8 in
    let u = w / 2 ^ 18 % 2 ^ 1 in
    let urge : bit (eqb u 1) ≡ u = bit_is u (omega arith) in
    by_repeats w (λ o. Sound w (then o (λ r. when (eqb (w / 2 ^ 19 % 2 ^ 1) 0 && eqb (w / 2 ^ 0 % 2 ^ 18) 0) (word.Pass (record { repeats = r; urgent = eqb u 1 })))))
    (λ p. cond_both _ (Some (word.Pass (record { repeats = r; urgent = eqb u 1 }))) None (Sound w)
    (λ t.
    let both = and_parts (eqb (w / 2 ^ 19 % 2 ^ 1) 0) (eqb (w / 2 ^ 0 % 2 ^ 18) 0) t in
    let a = eqb-true (w / 2 ^ 19 % 2 ^ 1) 0 both.0 in
    let b = eqb-true (w / 2 ^ 0 % 2 ^ 18) 0 both.1 in
    (omega (arith, shr-shr w 18 1, shr-shr w 19 1, shr-shr w 20 8), (p, omega arith)))
    (λ _. tt))
    tt

abbrev HeadSound : ℕ → Option Kind → Type 0
HeadSound w o = Sound w (then o (λ k. mapped (word.Head k (w / 2 ^ 16 % 2 ^ 8)) (place_in w 16)))

kind_sound : (w : ℕ) (k : Kind) → w / 2 ^ 28 ≡ 1 → w / 2 ^ 24 % 2 ^ 4 ≡ kind_number k → HeadSound w (Some k)
kind_sound w k e h = by_place w 16 (λ o. Sound w (mapped (word.Head k (w / 2 ^ 16 % 2 ^ 8)) o)) (λ t. (let low : w % 2 ^ 16 % 2 ^ 12 ≡ w % 2 ^ 16 = omega arith in omega (arith, shr-shr w 16 8, shr-shr w 24 4), (omega arith, t))) tt

head_sound : (w : ℕ) → w / 2 ^ 28 ≡ 1 → Sound w (head_in w)
head_sound w e =
    cond_both _ _ _ (HeadSound w) (λ f. kind_sound w Message e (eqb-true _ _ f))
    (λ _. cond_both _ _ _ (HeadSound w) (λ f. kind_sound w Block e (eqb-true _ _ f))
    (λ _. cond_both _ _ _ (HeadSound w) (λ f. kind_sound w Flow e (eqb-true _ _ f)) (λ _. tt)))

sound : (w : ℕ) → Sound w (read w)
sound w =
    cond_both _ _ _ (Sound w) (λ k. head_sound w (eqb-true _ _ k))
    (λ _. cond_both _ _ _ (Sound w) (λ k. next_sound w (eqb-true _ _ k))
    (λ _. cond_both _ (Some (word.Time (w % 2 ^ 28))) _ (Sound w) (λ k. let kind = eqb-true (w / 2 ^ 28) 3 k in (omega arith, omega arith))
    (λ _. cond_both _ (Some (word.Event (w % 2 ^ 28))) _ (Sound w) (λ k. let kind = eqb-true (w / 2 ^ 28) 4 k in (omega arith, omega arith))
    (λ _. cond_both _ _ _ (Sound w) (λ k. alternative_sound w (eqb-true _ _ k))
    (λ _. cond_both _ _ _ (Sound w) (λ k. target_sound w (eqb-true _ _ k))
    (λ _. cond_both _ _ _ (Sound w) (λ k. order_sound w (eqb-true _ _ k))
    (λ _. cond_both _ _ _ (Sound w) (λ k. pass_sound w (eqb-true _ _ k))
    (λ _. cond_both _ _ _ (Sound w) (λ k. end_sound w (eqb-true _ _ k)) (λ _. tt)))))))))

pub writes_back : WritesBack
writes_back w x e = subst (Sound w) e (sound w)
