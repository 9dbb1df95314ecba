-- One more element is changed.
use Rattle.std.proofs.Common.{◌≡◌, ℕ, ◌+◌, ◌<◌, ◌≤◌, ◌⊎◌, List, [], ◌∷◌, ◌++◌, length, get_or, take, drop, set, sym, refl, ap, ◌∙◌, subst, inl, inr, append_assoc, arith, take-append-drop}
use Rattle.std.proofs.lemmas.List.{take_more_set, drop-set-lt, drop_more, drop_all}
use Rattle.each.specs.Each.{zipped, ChangedEach, Computes}

module _ {X Y : Type 0} (Answers : X → Y → X → Type 0) where
  -- what is answered for the elements of one number stands first
  one_more : (xs : List X) (ys : List Y) (ws : List X) (i : ℕ) (x : X) (y : Y) (z : X) → i < length xs → i < length ys → x ≡ get_or xs i x → y ≡ get_or ys i y
      → Answers x y z → ChangedEach Answers (drop (i + 1) xs) (drop (i + 1) ys) ws → ChangedEach Answers (drop i xs) (drop i ys) (z ∷ ws)
  one_more xs ys ws i x y z a b is has answer rest =
      let first : drop i xs ≡ x ∷ drop (i + 1) xs = drop_more xs i x a ∙ ap (λ v. v ∷ drop (i + 1) xs) (sym is) in
      let second : drop i ys ≡ y ∷ drop (i + 1) ys = drop_more ys i y b ∙ ap (λ v. v ∷ drop (i + 1) ys) (sym has) in
      subst (λ l. ChangedEach Answers l (drop i ys) (z ∷ ws)) (sym first) (subst (λ l. ChangedEach Answers (x ∷ drop (i + 1) xs) l (z ∷ ws)) (sym second) (answer, rest))

  unchanged_none : (xs : List X) → ChangedEach Answers xs [] xs
  unchanged_none [] = refl
  unchanged_none (x ∷ xs) = refl

  module _ (olds : List X) (marks : List Y) where
    -- what makes a change of the elements from a number on makes one of all
    abbrev pub Part : List X → ℕ → Type 0
    Part xs i = (ws : List X) → ChangedEach Answers (drop i xs) (drop i marks) ws → ChangedEach Answers olds marks (take i xs ++ ws)

    pub part_more : (xs : List X) (i : ℕ) (x : X) (y : Y) (z : X) → i < length xs → i < length marks → x ≡ get_or xs i x → y ≡ get_or marks i y → Answers x y z → Part xs i → Part (set xs i z) (i + 1)
    part_more xs i x y z a b is has answer before ws h =
        let rest : ChangedEach Answers (drop (i + 1) xs) (drop (i + 1) marks) ws =
        subst (λ l. ChangedEach Answers l (drop (i + 1) marks) ws) (drop-set-lt (i + 1) xs i z (omega arith)) h in
        let front : take (i + 1) (set xs i z) ++ ws ≡ take i xs ++ (z ∷ ws) = ap (λ l. l ++ ws) (take_more_set xs i z a) ∙ append_assoc (take i xs) (z ∷ []) ws in
        subst (ChangedEach Answers olds marks) (sym front) (before (z ∷ ws) (one_more xs marks ws i x y z a b is has answer rest))

    pub part_all : (xs : List X) (i : ℕ) → (length xs ≤ i) ⊎ (length marks ≤ i) → Part xs i → ChangedEach Answers olds marks xs
    part_all xs i (inl h) before =
        subst (ChangedEach Answers olds marks) (take-append-drop i xs)
        (before (drop i xs) (subst (λ l. ChangedEach Answers l (drop i marks) l) (sym (drop_all i xs h)) refl))
    part_all xs i (inr h) before =
        subst (ChangedEach Answers olds marks) (take-append-drop i xs)
        (before (drop i xs) (subst (λ l. ChangedEach Answers (drop i xs) l (drop i xs)) (sym (drop_all i marks h)) (unchanged_none (drop i xs))))

  pub zipped_by : (f : X → Y → X) → Computes Answers f → (xs : List X) (ys : List Y) (zs : List X) → ChangedEach Answers xs ys zs → zs ≡ zipped f xs ys
  zipped_by f computes [] ys zs h = h
  zipped_by f computes (x ∷ xs) [] zs h = h
  zipped_by f computes (x ∷ xs) (y ∷ ys) [] h = absurd h
  zipped_by f computes (x ∷ xs) (y ∷ ys) (z ∷ zs) h = ap (λ v. v ∷ zs) (computes x y z h.0) ∙ ap (λ l. f x y ∷ l) (zipped_by f computes xs ys zs h.1)
