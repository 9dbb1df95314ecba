-- Questions on lists that compute, and what a yes means.
use Rattle.std.proofs.Common.{◌≡◌, ℕ, zero, suc, Bool, true, false, cond, ◌&&◌, ◌||◌, eqb, List, [], ◌∷◌, get_or, Some, None, Option, refl, ap, ⊎_elim, arith}
use Rattle.std.proofs.lemmas.Bool.{and_parts, or_cases, eqb-true, false≢true}

-- ### each element

abbrev pub every : {X : Type 0} → (X → Bool) → List X → Bool
every f [] = true
every f (x ∷ xs) = f x && every f xs

-- what holds of each element, and of the default, holds at each position
pub every_at : {X : Type 0} (f : X → Bool) (xs : List X) (d : X) → f d ≡ true → every f xs ≡ true → (i : ℕ) → f (get_or xs i d) ≡ true
every_at f [] d none all i = none
every_at f (x ∷ xs) d none all zero = (and_parts (f x) (every f xs) all).0
every_at f (x ∷ xs) d none all (suc i) = every_at f xs d none (and_parts (f x) (every f xs) all).1 i

-- ### places in a list

abbrev pub has : List ℕ → ℕ → Bool
has [] p = false
has (q ∷ ps) p = eqb q p || has ps p

pub every_has : (f : ℕ → Bool) (ps : List ℕ) → every f ps ≡ true → (p : ℕ) → has ps p ≡ true → f p ≡ true
every_has f [] all p h = absurd (false≢true h)
every_has f (q ∷ ps) all p h =
    let both = and_parts (f q) (every f ps) all in
    ⊎_elim (λ e. rw (eqb-true q p e) at both.0) (λ e. every_has f ps both.1 p e) (or_cases (eqb q p) (has ps p) h)

-- none, or a place in the list
abbrev pub within : List ℕ → Option ℕ → Bool
within ps None = true
within ps (Some p) = has ps p

pub within_some : (ps : List ℕ) (o : Option ℕ) (p : ℕ) → o ≡ Some p → within ps o ≡ true → has ps p ≡ true
within_some ps o p e h = rw e at h

-- this place
abbrev pub is_place : Option ℕ → ℕ → Bool
is_place None p = false
is_place (Some q) p = eqb q p

pub is_place_some : (o : Option ℕ) (p : ℕ) → is_place o p ≡ true → o ≡ Some p
is_place_some None p h = absurd (false≢true h)
is_place_some (Some q) p h = ap Some (eqb-true q p h)

pub no_some : {X : Type 0} {B : Type 0} (x : X) → ◌≡◌ {A = Option X} None (Some x) → B
no_some x h = let z : ◌≡◌ {A = ℕ} 0 1 = cc in absurd (omega arith)

-- a choice between something and none
pub if_some : {X : Type 0} (b : Bool) (o : Option X) (x : X) → cond b o None ≡ Some x → (b ≡ true) × (o ≡ Some x)
if_some true o x h = (refl, h)
if_some false o x h = no_some x h
