-- The lines of a memory up to that of a place.
use Rattle.std.proofs.Common.{◌≡◌, ℕ, suc, ◌+◌, ◌<◌, true, false, cond, not, eqb, ltb, List, [], ◌∷◌, ◌++◌, length, take, position, IfOk, Some, None, Ok, Err, Result, sym, refl, ap, ◌∙◌, subst, le_refl, arith, eq-eqb, ne_eqb}
use Rattle.std.specs.List.{position_or_len}
use Rattle.std.proofs.lemmas.List.{take_all}
use Rattle.std.proofs.lemmas.Bool.{cond_both, ltb-false}
use Rattle.reach.specs.declared.line.Line.{Line}
use Rattle.reach.specs.Chains.{line_at, Ends}
use Rattle.reach.specs.Scenes.{Scene}
use Rattle.player.specs.Memory.{until}

-- the lines up to that of the place: those before the first of the place, and that one
up_to : (place : ℕ) (ls : List Line) → until place ls ≡ take (suc (position_or_len (λ (l : Line). eqb l.place place) ls)) ls
up_to place [] = refl
up_to place (l ∷ ls) =
    let rest = position_or_len (λ (l : Line). eqb l.place place) ls in
    let one : 1 + rest ≡ suc rest = omega arith in
    let more : l ∷ until place ls ≡ l ∷ take (1 + rest) ls = ap (λ ls. l ∷ ls) (up_to place ls ∙ ap (λ n. take n ls) (sym one)) in
    elim (eqb l.place place) as (λ b. cond b (l ∷ []) (l ∷ until place ls) ≡ take (suc (cond (not b) (1 + rest) 0)) (l ∷ ls)) [ true ↦ refl | false ↦ more ]

module _ (place : ℕ) (ls : List Line) where
  pub found : (i : ℕ) → Some i ≡ position (λ (l : Line). eqb l.place place) ls → take (i + 1) ls ≡ until place ls
  found i e =
      let n = position_or_len (λ (l : Line). eqb l.place place) ls in
      cond_both (ltb n (length ls)) (Some n) None (λ o. Some i ≡ o → take (i + 1) ls ≡ until place ls)
      (λ _ is. let same : i + 1 ≡ suc n = grind arith in ap (λ n. take n ls) same ∙ sym (up_to place ls))
      (λ _ is. absurd (grind arith)) e

  -- no line is of the place
  pub through : None ≡ position (λ (l : Line). eqb l.place place) ls → take (length ls) ls ≡ until place ls
  through e =
      let n = position_or_len (λ (l : Line). eqb l.place place) ls in
      cond_both (ltb n (length ls)) (Some n) None (λ o. None ≡ o → take (length ls) ls ≡ until place ls)
      (λ _ is. absurd (grind arith))
      (λ f _. let past = ltb-false n (length ls) f in take_all (length ls) ls (le_refl (length ls)) ∙ sym (take_all (suc n) ls (omega arith)) ∙ sym (up_to place ls)) e

-- ### a chain that ends on the place

last_of : (place : ℕ) (first : Line) (lines rest : List Line) → (line_at (first ∷ lines) (length lines)).place ≡ place
    → ((j : ℕ) → j < length lines → (line_at (first ∷ lines) j).place ≡ place → ⊥)
    → until place ((first ∷ lines) ++ rest) ≡ first ∷ lines
last_of place first [] rest here none =
    ap (λ b. cond b (first ∷ []) (first ∷ until place rest)) (eq-eqb first.place place here)
last_of place first (next ∷ lines) rest here none =
    let more = last_of place next lines rest here (λ j h. none (suc j) (omega arith)) in
    ap (λ b. cond b (first ∷ []) (first ∷ until place ((next ∷ lines) ++ rest))) (ne_eqb first.place place (none 0 (omega arith))) ∙ ap (λ ls. first ∷ ls) more

pub whole_chain : (s : Scene) (c rest : List Line) (place : ℕ) → Ends s c place → until place (c ++ rest) ≡ c
whole_chain s [] rest place e = absurd (omega (arith, e.last.1))
whole_chain s (first ∷ lines) rest place e =
    let at : e.last.0 ≡ length lines = omega (arith, e.last.1) in
    let here : (line_at (first ∷ lines) (length lines)).place ≡ place = subst (λ i. (line_at (first ∷ lines) i).place ≡ place) at e.last.2 in
    last_of place first lines rest here (λ j h same. e.lawful.once j (length lines) h (omega arith) (same ∙ sym here))

pub made_same : {X E : Type 0} (f : X → List Line) (a b : List Line) (r : Result X E) → a ≡ b → IfOk r (λ x. f x ≡ a) → IfOk r (λ x. f x ≡ b)
made_same f a b (Ok x) e m = m ∙ e
made_same f a b (Err y) e m = tt
