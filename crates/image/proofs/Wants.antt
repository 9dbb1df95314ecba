-- Readers that take one word after another, and what follows of their faults.
use Rattle.std.proofs.Common.{◌≡◌, ℕ, suc, ◌+◌, ◌<◌, ◌≤◌, Bool, true, false, ◌⊎◌, List, [], ◌∷◌, ◌++◌, length, take, Some, None, Ok, Err, Option, Result, sym, refl, ap, ◌∙◌, subst, inl, inr, ⊎_elim, arith}
use Rattle.words.specs.declared.fault.Fault.{Fault}
use Rattle.words.specs.declared.fault.Fault.TheVariants.{BadWord, Ragged}
use Rattle.words.specs.Faults.{number_of, place_of}

-- a reader goes on with the value of a word
abbrev pub goes : {A B : Type 0} → Option A → (A → List ℕ → ℕ → Result B Fault) → List ℕ → ℕ → Result B Fault
goes None k ws at = Err (BadWord at)
goes (Some x) k ws at = k x ws (at + 1)

-- one word is wanted
abbrev pub wants : {A B : Type 0} → (ℕ → Option A) → (A → List ℕ → ℕ → Result B Fault) → List ℕ → ℕ → Result B Fault
wants f k [] at = Err (Ragged at)
wants f k (w ∷ ws) at = goes (f w) k ws at

-- one more word may come, whose value must not be used already
abbrev pub goes_if : {B : Type 0} → Bool → (List ℕ → ℕ → Result B Fault) → List ℕ → ℕ → Result B Fault
goes_if true k ws at = Err (BadWord at)
goes_if false k ws at = k ws (at + 1)

abbrev pub goes_or : {A B : Type 0} → Option A → (A → Bool) → (A → List ℕ → ℕ → Result B Fault) → B → List ℕ → ℕ → Result B Fault
goes_or None used k y ws at = Ok y
goes_or (Some x) used k y ws at = goes_if (used x) (k x) ws at

abbrev pub may : {A B : Type 0} → (ℕ → Option A) → (A → Bool) → (A → List ℕ → ℕ → Result B Fault) → B → List ℕ → ℕ → Result B Fault
may f used k y [] at = Ok y
may f used k y (w ∷ ws) at = goes_or (f w) used k y ws at

pub refuted : {A : Type 0} {B : Type 0} (e : B) (y : A) → ◌≡◌ {A = Result A B} (Err e) (Ok y) → ⊥
refuted e y h = let z : ◌≡◌ {A = ℕ} 0 1 = cc in omega arith

-- what a refusal of g tells of the words ws, from position at on: the fault is at one of them or right after the last;
-- up to and with that word no other words change it; with other words from there on g reads a whole value
pub record Fails {B : Type 0} (size : B → ℕ) (n : ℕ) (g : List ℕ → ℕ → Result B Fault) (ws : List ℕ) (at : ℕ) (f : Fault) : Type 0 where
  pub index : ℕ
  pub there : place_of f ≡ at + index
  pub within : index ≤ length ws
  pub shut : index < length ws → (more : List ℕ) → g (take (suc index) ws ++ more) at ≡ Err f
  pub mend : (more : List ℕ) × (y : B) × (g (take index ws ++ more) at ≡ Ok y) × (size y ≡ n + length (take index ws ++ more))
  pub tells : ((number_of f ≡ 4) × (index < length ws)) ⊎ ((number_of f ≡ 6) × (index ≡ length ws))

-- what was read depends on its words and on the one after them, if there is one
pub record Stays {B : Type 0} (size : B → ℕ) (n : ℕ) (g : List ℕ → ℕ → Result B Fault) (ws : List ℕ) (at : ℕ) (y : B) : Type 0 where
  pub taken : ℕ
  pub long : size y ≡ n + taken
  pub keeps : taken < length ws → (more : List ℕ) → g (take (suc taken) ws ++ more) at ≡ Ok y

-- n words were read before
pub record Good {B : Type 0} (size : B → ℕ) (n : ℕ) (g : List ℕ → ℕ → Result B Fault) : Type 0 where
  pub fails : (ws : List ℕ) (at : ℕ) (f : Fault) → g ws at ≡ Err f → Fails size n g ws at f
  pub stays : (ws : List ℕ) (at : ℕ) (y : B) → g ws at ≡ Ok y → Stays size n g ws at y
  pub whole : (at : ℕ) → (ws : List ℕ) × (y : B) × (g ws at ≡ Ok y) × (size y ≡ n + length ws)

pub done_good : {B : Type 0} (size : B → ℕ) (n : ℕ) (y : B) → size y ≡ n → Good size n (λ ws at. Ok y)
done_good size n y e = record {
  fails = λ ws at f h. absurd (refuted f y (sym h));
  stays = λ ws at z h. let is : y ≡ z = cc in record { taken = 0; long = omega (arith, ap size is); keeps = λ l more. h };
  whole = λ at. ([], y, refl, omega arith);
}

-- the fault is at the first word or, where there is none, right there
module _ {B : Type 0} (size : B → ℕ) (n : ℕ) (g : List ℕ → ℕ → Result B Fault) (at : ℕ) (whole : (ws : List ℕ) × (y : B) × (g ws at ≡ Ok y) × (size y ≡ n + length ws)) where
  missing : (f : Fault) → place_of f ≡ at → number_of f ≡ 6 → Fails size n g [] at f
  missing f p h = record {
    index = 0;
    there = omega arith;
    within = omega arith;
    shut = λ l more. absurd (omega arith);
    mend = whole;
    tells = inr (h, refl);
  }

  bad : (w : ℕ) (ws : List ℕ) → ((more : List ℕ) → g (w ∷ more) at ≡ Err (BadWord at)) → Fails size n g (w ∷ ws) at (BadWord at)
  bad w ws h = record {
    index = 0;
    there = omega arith;
    within = omega arith;
    shut = λ l more. h more;
    mend = whole;
    tells = inl (refl, omega arith);
  }

-- the fault is later
later : {B : Type 0} (size : B → ℕ) (n : ℕ) (g k : List ℕ → ℕ → Result B Fault) (w : ℕ) (ws : List ℕ) (at : ℕ) (f : Fault)
    → ((more : List ℕ) → g (w ∷ more) at ≡ k more (at + 1)) → Fails size (n + 1) k ws (at + 1) f → Fails size n g (w ∷ ws) at f
later size n g k w ws at f e r = record {
  index = suc r.index;
  there = omega (arith, r.there);
  within = omega (arith, r.within);
  shut = λ l more. e _ ∙ r.shut (omega arith) more;
  mend = (r.mend.0, r.mend.1, e _ ∙ r.mend.2, omega (arith, r.mend.3));
  tells = ⊎_elim (λ p. inl (p.0, omega (arith, p.1))) (λ p. inr (p.0, omega (arith, p.1))) r.tells;
}

stays_later : {B : Type 0} (size : B → ℕ) (n : ℕ) (g k : List ℕ → ℕ → Result B Fault) (w : ℕ) (ws : List ℕ) (at : ℕ) (y : B)
    → ((more : List ℕ) → g (w ∷ more) at ≡ k more (at + 1)) → Stays size (n + 1) k ws (at + 1) y → Stays size n g (w ∷ ws) at y
stays_later size n g k w ws at y e r = record {
  taken = suc r.taken;
  long = omega (arith, r.long);
  keeps = λ l more. e _ ∙ r.keeps (omega arith) more;
}

goes_fails : {A B : Type 0} (size : B → ℕ) (n : ℕ) (f : ℕ → Option A) (k : A → List ℕ → ℕ → Result B Fault) (each : (x : A) → Good size (n + 1) (k x)) (at : ℕ)
    → ((ws : List ℕ) × (y : B) × (wants f k ws at ≡ Ok y) × (size y ≡ n + length ws))
    → (w : ℕ) (ws : List ℕ) (e : Fault) (o : Option A) → f w ≡ o → goes o k ws at ≡ Err e → Fails size n (wants f k) (w ∷ ws) at e
goes_fails size n f k each at whole w ws e None is h =
    let same : BadWord at ≡ e = cc in
    subst (Fails size n (wants f k) (w ∷ ws) at) same (bad size n (wants f k) at whole w ws (λ more. ap (λ o. goes o k more at) is))
goes_fails size n f k each at whole w ws e (Some x) is h =
    later size n (wants f k) (k x) w ws at e (λ more. ap (λ o. goes o k more at) is) ((each x).fails ws (at + 1) e h)

goes_stays : {A B : Type 0} (size : B → ℕ) (n : ℕ) (f : ℕ → Option A) (k : A → List ℕ → ℕ → Result B Fault) (each : (x : A) → Good size (n + 1) (k x)) (at : ℕ)
    → (w : ℕ) (ws : List ℕ) (y : B) (o : Option A) → f w ≡ o → goes o k ws at ≡ Ok y → Stays size n (wants f k) (w ∷ ws) at y
goes_stays size n f k each at w ws y None is h = absurd (refuted (BadWord at) y h)
goes_stays size n f k each at w ws y (Some x) is h =
    stays_later size n (wants f k) (k x) w ws at y (λ more. ap (λ o. goes o k more at) is) ((each x).stays ws (at + 1) y h)

pub wants_good : {A B : Type 0} (size : B → ℕ) (n : ℕ) (f : ℕ → Option A) (k : A → List ℕ → ℕ → Result B Fault) (w : ℕ) (x : A)
    → f w ≡ Some x → ((x : A) → Good size (n + 1) (k x)) → Good size n (wants f k)
wants_good {A} {B} size n f k w x is each = record {
  fails = λ ws at e h. elim ws as (λ ws. wants f k ws at ≡ Err e → Fails size n (wants f k) ws at e) [
    | [] ↦ λ h. let same : Ragged at ≡ e = cc in subst (Fails size n (wants f k) [] at) same (missing size n (wants f k) at (begin at) (Ragged at) refl refl)
    | v ∷ vs ↦ goes_fails size n f k each at (begin at) v vs e (f v) refl
  ] h;
  stays = λ ws at y h. elim ws as (λ ws. wants f k ws at ≡ Ok y → Stays size n (wants f k) ws at y) [
    | [] ↦ λ h. absurd (refuted (Ragged at) y h)
    | v ∷ vs ↦ goes_stays size n f k each at v vs y (f v) refl
  ] h;
  whole = begin;
}
  where
    begin : (at : ℕ) → (ws : List ℕ) × (y : B) × (wants f k ws at ≡ Ok y) × (size y ≡ n + length ws)
    begin at = let r = (each x).whole (at + 1) in (w ∷ r.0, r.1, ap (λ o. goes o k r.0 at) is ∙ r.2, omega (arith, r.3))

module _ {A B : Type 0} (size : B → ℕ) (n : ℕ) (f : ℕ → Option A) (used : A → Bool) (k : A → List ℕ → ℕ → Result B Fault) (y : B) (long : size y ≡ n)
    (each : (x : A) → Good size (n + 1) (k x)) where
  none : (at : ℕ) → (ws : List ℕ) × (z : B) × (may f used k y ws at ≡ Ok z) × (size z ≡ n + length ws)
  none at = ([], y, refl, omega arith)

  used_fails : (at w : ℕ) (ws : List ℕ) (e : Fault) (x : A) → f w ≡ Some x → (b : Bool) → used x ≡ b → goes_if b (k x) ws at ≡ Err e → Fails size n (may f used k y) (w ∷ ws) at e
  used_fails at w ws e x is true u h =
      let same : BadWord at ≡ e = cc in
      subst (Fails size n (may f used k y) (w ∷ ws) at) same
      (bad size n (may f used k y) at (none at) w ws (λ more. ap (λ o. goes_or o used k y more at) is ∙ ap (λ b. goes_if b (k x) more at) u))
  used_fails at w ws e x is false u h =
      later size n (may f used k y) (k x) w ws at e (λ more. ap (λ o. goes_or o used k y more at) is ∙ ap (λ b. goes_if b (k x) more at) u) ((each x).fails ws (at + 1) e h)

  or_fails : (at w : ℕ) (ws : List ℕ) (e : Fault) (o : Option A) → f w ≡ o → goes_or o used k y ws at ≡ Err e → Fails size n (may f used k y) (w ∷ ws) at e
  or_fails at w ws e None is h = absurd (refuted e y (sym h))
  or_fails at w ws e (Some x) is h = used_fails at w ws e x is (used x) refl h

  used_stays : (at w : ℕ) (ws : List ℕ) (z : B) (x : A) → f w ≡ Some x → (b : Bool) → used x ≡ b → goes_if b (k x) ws at ≡ Ok z → Stays size n (may f used k y) (w ∷ ws) at z
  used_stays at w ws z x is true u h = absurd (refuted (BadWord at) z h)
  used_stays at w ws z x is false u h =
      stays_later size n (may f used k y) (k x) w ws at z (λ more. ap (λ o. goes_or o used k y more at) is ∙ ap (λ b. goes_if b (k x) more at) u) ((each x).stays ws (at + 1) z h)

  or_stays : (at w : ℕ) (ws : List ℕ) (z : B) (o : Option A) → f w ≡ o → goes_or o used k y ws at ≡ Ok z → Stays size n (may f used k y) (w ∷ ws) at z
  or_stays at w ws z None is h =
      let same : y ≡ z = cc in
      record { taken = 0; long = omega (arith, ap size same); keeps = λ l more. ap (λ o. goes_or o used k y more at) is ∙ h }
  or_stays at w ws z (Some x) is h = used_stays at w ws z x is (used x) refl h

  pub may_good : Good size n (may f used k y)
  may_good = record {
    fails = λ ws at e h. elim ws as (λ ws. may f used k y ws at ≡ Err e → Fails size n (may f used k y) ws at e) [
      | [] ↦ λ h. absurd (refuted e y (sym h))
      | v ∷ vs ↦ or_fails at v vs e (f v) refl
    ] h;
    stays = λ ws at z h. elim ws as (λ ws. may f used k y ws at ≡ Ok z → Stays size n (may f used k y) ws at z) [
      | [] ↦ λ h. let same : y ≡ z = cc in record { taken = 0; long = omega (arith, ap size same); keeps = λ l more. absurd (omega arith) }
      | v ∷ vs ↦ or_stays at v vs z (f v) refl
    ] h;
    whole = none;
  }

-- ### what was read, where nothing is wrong

goes_ok : {A B : Type 0} (k : A → List ℕ → ℕ → Result B Fault) (ws : List ℕ) (at : ℕ) (y : B) (o : Option A) → goes o k ws at ≡ Ok y → (x : A) × (o ≡ Some x) × (k x ws (at + 1) ≡ Ok y)
goes_ok k ws at y None h = absurd (refuted (BadWord at) y h)
goes_ok k ws at y (Some x) h = (x, refl, h)

pub wants_ok : {A B : Type 0} (f : ℕ → Option A) (k : A → List ℕ → ℕ → Result B Fault) (ws : List ℕ) (at : ℕ) (y : B) → wants f k ws at ≡ Ok y
    → (w : ℕ) × (vs : List ℕ) × (x : A) × (ws ≡ w ∷ vs) × (f w ≡ Some x) × (k x vs (at + 1) ≡ Ok y)
wants_ok f k [] at y h = absurd (refuted (Ragged at) y h)
wants_ok f k (w ∷ ws) at y h = let r = goes_ok k ws at y (f w) h in (w, ws, r.0, refl, r.1, r.2)

if_ok : {B : Type 0} (k : List ℕ → ℕ → Result B Fault) (ws : List ℕ) (at : ℕ) (z : B) (b : Bool) → goes_if b k ws at ≡ Ok z → (b ≡ false) × (k ws (at + 1) ≡ Ok z)
if_ok k ws at z true h = absurd (refuted (BadWord at) z h)
if_ok k ws at z false h = (refl, h)

or_ok : {A B : Type 0} (used : A → Bool) (k : A → List ℕ → ℕ → Result B Fault) (y : B) (ws : List ℕ) (at : ℕ) (z : B) (o : Option A) → goes_or o used k y ws at ≡ Ok z
    → (y ≡ z) ⊎ ((x : A) × (o ≡ Some x) × (used x ≡ false) × (k x ws (at + 1) ≡ Ok z))
or_ok used k y ws at z None h = inl cc
or_ok used k y ws at z (Some x) h = let r = if_ok (k x) ws at z (used x) h in inr (x, refl, r.0, r.1)

pub may_ok : {A B : Type 0} (f : ℕ → Option A) (used : A → Bool) (k : A → List ℕ → ℕ → Result B Fault) (y : B) (ws : List ℕ) (at : ℕ) (z : B) → may f used k y ws at ≡ Ok z
    → (y ≡ z) ⊎ ((w : ℕ) × (vs : List ℕ) × (x : A) × (ws ≡ w ∷ vs) × (f w ≡ Some x) × (used x ≡ false) × (k x vs (at + 1) ≡ Ok z))
may_ok f used k y [] at z h = inl cc
may_ok f used k y (w ∷ ws) at z h = ⊎_elim inl (λ r. inr (w, ws, r.0, refl, r.1, r.2, r.3)) (or_ok used k y ws at z (f w) h)

-- no word at the front that f reads
abbrev pub Closed : {A : Type 0} → (ℕ → Option A) → List ℕ → Type 0
Closed f [] = Unit {0}
Closed f (w ∷ ws) = f w ≡ None

pub may_none : {A B : Type 0} (f : ℕ → Option A) (used : A → Bool) (k : A → List ℕ → ℕ → Result B Fault) (y : B) (ws : List ℕ) (at : ℕ) → Closed f ws → may f used k y ws at ≡ Ok y
may_none f used k y [] at c = refl
may_none f used k y (w ∷ ws) at c = ap (λ o. goes_or o used k y ws at) c

pub may_some : {A B : Type 0} (f : ℕ → Option A) (used : A → Bool) (k : A → List ℕ → ℕ → Result B Fault) (y : B) (w : ℕ) (ws : List ℕ) (at : ℕ) (x : A)
    → f w ≡ Some x → used x ≡ false → may f used k y (w ∷ ws) at ≡ k x ws (at + 1)
may_some f used k y w ws at x is u = ap (λ o. goes_or o used k y ws at) is ∙ ap (λ b. goes_if b (k x) ws at) u

pub wants_some : {A B : Type 0} (f : ℕ → Option A) (k : A → List ℕ → ℕ → Result B Fault) (w : ℕ) (ws : List ℕ) (at : ℕ) (x : A) → f w ≡ Some x → wants f k (w ∷ ws) at ≡ k x ws (at + 1)
wants_some f k w ws at x is = ap (λ o. goes o k ws at) is
