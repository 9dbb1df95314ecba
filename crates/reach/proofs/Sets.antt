-- What stands at a position of a list after a change of the list.
use Rattle.std.proofs.Common.{◌≡◌, ℕ, zero, suc, ◌≤◌, Bool, true, false, cond, ◌⊎◌, List, [], ◌∷◌, length, get_or, set, refl, ap, ◌∙◌, subst, inl, inr, ⊎_elim}
use Rattle.std.proofs.lemmas.List.{get_or-set_same, get_or-set_other, set_past}
use Rattle.std.proofs.lemmas.Bool.{cases_lt, cases_eq}
use Rattle.each.specs.Each.{zipped}

-- ### one element written

-- what was written, if that is its position within the list, or what was there
pub at_set : {X : Type 0} (xs : List X) (i j : ℕ) (v d : X)
    → ((j ≡ i) × (get_or (set xs i v) j d ≡ v)) ⊎ ((get_or (set xs i v) j d ≡ get_or xs j d) × (j ≡ i → length xs ≤ i))
at_set xs i j v d =
    elim (cases_eq j i) [
      | inl e ↦
          elim (cases_lt i (length xs)) [
            | inl lt ↦ inl (e, ap (λ n. get_or (set xs i v) n d) e ∙ get_or-set_same xs i v d lt)
            | inr ge ↦ inr (ap (λ ys. get_or ys j d) (set_past xs i v ge), λ _. ge)
          ]
      | inr ne ↦ inr (get_or-set_other xs i j v d ne, λ e. absurd (ne e))
    ]

-- what holds at j after a write at i holds of what was written, or held before
pub set_cases : {X : Type 0} (P : X → Type 0) (xs : List X) (i j : ℕ) (v d : X) → P (get_or (set xs i v) j d) → ((j ≡ i) × P v) ⊎ P (get_or xs j d)
set_cases P xs i j v d h = ⊎_elim (λ e. inl (e.0, subst P e.1 h)) (λ e. inr (subst P e.0 h)) (at_set xs i j v d)

-- ### each element changed beside its partner

-- what was there, or what is made of it and its partner
pub at_zipped : {X Y : Type 0} (f : X → Y → X) (xs : List X) (ys : List Y) (j : ℕ) (d : X) (e : Y)
    → (get_or (zipped f xs ys) j d ≡ get_or xs j d) ⊎ (get_or (zipped f xs ys) j d ≡ f (get_or xs j d) (get_or ys j e))
at_zipped f [] ys j d e = inl refl
at_zipped f (x ∷ xs) [] j d e = inl refl
at_zipped f (x ∷ xs) (y ∷ ys) zero d e = inr refl
at_zipped f (x ∷ xs) (y ∷ ys) (suc j) d e = at_zipped f xs ys j d e

-- what holds at j after the change held before, or holds of what is made there
pub zipped_cases : {X Y : Type 0} (P : X → Type 0) (f : X → Y → X) (xs : List X) (ys : List Y) (j : ℕ) (d : X) (e : Y)
    → P (get_or (zipped f xs ys) j d) → P (get_or xs j d) ⊎ P (f (get_or xs j d) (get_or ys j e))
zipped_cases P f xs ys j d e h = ⊎_elim (λ q. inl (subst P q h)) (λ q. inr (subst P q h)) (at_zipped f xs ys j d e)

-- where the partner leaves an element as it is, the change does
pub zipped_same : {X Y : Type 0} (f : X → Y → X) (xs : List X) (ys : List Y) (j : ℕ) (d : X) (e : Y)
    → f (get_or xs j d) (get_or ys j e) ≡ get_or xs j d → get_or (zipped f xs ys) j d ≡ get_or xs j d
zipped_same f xs ys j d e h = ⊎_elim (λ q. q) (λ q. q ∙ h) (at_zipped f xs ys j d e)

-- ### a choice

-- what holds of a choice holds of what is chosen
pub cond_cases : {X : Type 0} (P : X → Type 0) (b : Bool) (x y : X) → P (cond b x y) → P x ⊎ P y
cond_cases P true x y h = inl h
cond_cases P false x y h = inr h
