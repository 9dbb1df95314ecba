-- Sets of places, and how many they have.
use Rattle.std.proofs.Common.{◌≡◌, ℕ, zero, suc, ◌+◌, ◌<◌, ◌≤◌, Bool, true, false, cond, ◌⊎◌, List, [], ◌∷◌, length, get_or, set, replicate, Some, None, Option, sym, refl, ap, ◌∙◌, subst, inl, inr, arith}
use Rattle.std.proofs.lemmas.List.{length-set, get_or-set_same, get_or-set_other, get_or-replicate, get_or_past, length-replicate}
use Rattle.std.proofs.lemmas.Bool.{cases_lt, cases_eq, both_ways, true≢false}
use Rattle.rules.specs.declared.places.Places.{Places}
use Rattle.rules.specs.Chain.{Met}
use Rattle.rules.specs.Found.{holds}
use Rattle.rules.specs.Laws.{Has}
use Rattle.rules.specs.Steps.{no_places, with_place, with_ground}

-- how many are true
abbrev pub trues : List Bool → ℕ
trues [] = 0
trues (b ∷ bs) = cond b 1 0 + trues bs

pub trues_le : (m : List Bool) → trues m ≤ length m
trues_le [] = omega arith
trues_le (true ∷ m) = omega (arith, trues_le m)
trues_le (false ∷ m) = omega (arith, trues_le m)

pub trues_set : (m : List Bool) (p : ℕ) → p < length m → get_or m p false ≡ false → trues (set m p true) ≡ trues m + 1
trues_set [] p h e = absurd (omega arith)
trues_set (true ∷ m) zero h e = absurd (true≢false e)
trues_set (false ∷ m) zero h e = omega arith
trues_set (b ∷ m) (suc p) h e = omega (arith, trues_set m p (omega arith) e)

pub trues_none : (n : ℕ) → trues (replicate n false) ≡ 0
trues_none zero = refl
trues_none (suc n) = omega (arith, trues_none n)

-- where a place is not marked there is room for one more
pub room : (m : List Bool) (p : ℕ) → p < length m → get_or m p false ≡ false → trues m < length m
room m p h e = omega (arith, trues_set m p h e, trues_le (set m p true), length-set m p true)

pub none_holds : (p : ℕ) → holds no_places p ≡ false
none_holds p =
    elim (cases_lt p 512) [
      | inl lt ↦ get_or-replicate 512 p false false lt
      | inr ge ↦ get_or_past (replicate 512 false) p false (omega (arith, length-replicate 512 false))
    ]

pub holds_below : (s : Places) (p : ℕ) → Has (holds s) p → p < length s.marked
holds_below s p h =
    elim (cases_lt p (length s.marked)) [
      | inl lt ↦ lt
      | inr ge ↦ absurd (both_ways (holds s p) (get_or_past s.marked p false ge) h)
    ]

pub place_there : (s : Places) (p : ℕ) → p < length s.marked → Has (holds (with_place s p)) p
place_there s p h = get_or-set_same s.marked p true false h

pub place_more : (s : Places) (p q : ℕ) → Has (holds s) q → Has (holds (with_place s p)) q
place_more s p q h =
    elim (cases_eq q p) [
      | inl e ↦ subst (λ r. Has (holds (with_place s r)) q) e (place_there s q (holds_below s q h))
      | inr ne ↦ get_or-set_other s.marked p q true false ne ∙ h
    ]

pub place_cases : (s : Places) (p q : ℕ) → Has (holds (with_place s p)) q → Has (holds s) q ⊎ (q ≡ p)
place_cases s p q h =
    elim (cases_eq q p) [
      | inl e ↦ inr e
      | inr ne ↦ inl (sym (get_or-set_other s.marked p q true false ne) ∙ h)
    ]

pub ground_wide : (s : Places) (o : Option ℕ) → length (with_ground s o).marked ≡ length s.marked
ground_wide s None = refl
ground_wide s (Some p) = length-set s.marked p true

pub ground_more : (s : Places) (o : Option ℕ) (q : ℕ) → Has (holds s) q → Has (holds (with_ground s o)) q
ground_more s None q h = h
ground_more s (Some p) q h = place_more s p q h

pub ground_cases : (s : Places) (o : Option ℕ) (q : ℕ) → Has (holds (with_ground s o)) q → Has (holds s) q ⊎ (o ≡ Some q)
ground_cases s None q h = inl h
ground_cases s (Some p) q h = elim (place_cases s p q h) [ inl old ↦ inl old | inr e ↦ inr (ap Some (sym e)) ]

pub ground_met : (s : Places) (o : Option ℕ) → Met (λ q. q < length s.marked) o → Met (Has (holds (with_ground s o))) o
ground_met s None h = tt
ground_met s (Some p) h = place_there s p h
