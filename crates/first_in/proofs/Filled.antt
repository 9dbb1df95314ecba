-- Slots that are filled from the front, as far as there is room.
use Rattle.std.proofs.Common.{◌≡◌, ℕ, ◌+◌, ◌<◌, min, Bool, cond, ltb, List, [], ◌∷◌, ◌++◌, map, length, get_or, take, drop, sym, refl, ap, ◌∙◌, subst, ⊎_elim, arith, take-append-drop, length-take}
use Rattle.std.proofs.lemmas.List.{take_more, take_all, take-append-le}
use Rattle.std.proofs.lemmas.Bool.{cases_lt, lt-ltb, le-ltb, cond-true, cond-false}
use Rattle.std.specs.List.{AllZip}

module _ {A B : Type 0} (R : A → B → Type 0) where
  zip_push : (xs : List A) (ys : List B) (x : A) (y : B) → AllZip R xs ys → R x y → AllZip R (xs ++ x ∷ []) (ys ++ y ∷ [])
  zip_push [] [] x y h r = (r, tt)
  zip_push [] (b ∷ ys) x y h r = absurd h
  zip_push (a ∷ xs) [] x y h r = absurd h
  zip_push (a ∷ xs) (b ∷ ys) x y h r = (h.0, zip_push xs ys x y h.1 r)

  zip_length : (xs : List A) (ys : List B) → AllZip R xs ys → length ys ≡ length xs
  zip_length [] [] h = omega arith
  zip_length [] (b ∷ ys) h = absurd h
  zip_length (a ∷ xs) [] h = absurd h
  zip_length (a ∷ xs) (b ∷ ys) h = omega (arith, zip_length xs ys h.1)

  module _ (xs : List A) (size : ℕ) where
    pub zip_long : (i : ℕ) (ys : List B) → AllZip R (take (min i size) xs) ys → length ys ≡ min (min i size) (length xs)
    zip_long i ys h = zip_length (take (min i size) xs) ys h ∙ length-take (min i size) xs

    -- one item more, where there is room
    pub filled_more : (i : ℕ) (r : Bool) (ys zs : List B) (x : A) (y : B) → i < length xs → x ≡ get_or xs i x
        → AllZip R (take (min i size) xs) ys → R x y → r ≡ ltb (length ys) size → zs ≡ cond r (ys ++ y ∷ []) ys
        → AllZip R (take (min (i + 1) size) xs) zs
    filled_more i r ys zs x y il is h gives answer joins =
        let long = zip_long i ys h in
        ⊎_elim
        (λ l.
        let m : min i size ≡ i = omega arith in
        let n : min (i + 1) size ≡ i + 1 = omega arith in
        let put : zs ≡ ys ++ y ∷ [] = joins ∙ cond-true r _ _ (answer ∙ lt-ltb _ _ (omega arith)) in
        let more : take (min (i + 1) size) xs ≡ take (min i size) xs ++ x ∷ [] =
        ap (λ k. take k xs) n ∙ take_more xs i x il ∙ ap (λ z. take i xs ++ z ∷ []) (sym is) ∙ ap (λ k. take k xs ++ x ∷ []) (sym m) in
        rw (more, put) (zip_push (take (min i size) xs) ys x y h gives))
        (λ l.
        let same : min (i + 1) size ≡ min i size = omega arith in
        let full : zs ≡ ys = joins ∙ cond-false r _ _ (answer ∙ le-ltb _ _ (omega arith)) in
        rw (same, full) h)
        (cases_lt i size)

    -- what the first n slots hold in the end
    pub filled_first : (i n : ℕ) (ys start final : List B) → length xs ≡ i → n ≡ length ys → AllZip R (take (min i size) xs) ys
        → final ≡ ys ++ drop n start → AllZip R (take n xs) (take n final)
    filled_first i n ys start final e many h is =
        let k : n ≡ min i size = omega (arith, zip_long i ys h) in
        let front : take n final ≡ ys =
        ap (take n) is ∙ take-append-le n ys (drop n start) (omega arith) ∙ take_all n ys (omega arith) in
        rw front (subst (λ m. AllZip R (take m xs) ys) (sym k) h)

module _ {A B : Type 0} {R : A → B → Type 0} (f : A → B) (gives : (x : A) (y : B) → R x y → y ≡ f x) where
  zip_map : (xs : List A) (ys : List B) → AllZip R xs ys → ys ≡ map f xs
  zip_map [] [] h = refl
  zip_map [] (y ∷ ys) h = absurd h
  zip_map (x ∷ xs) [] h = absurd h
  zip_map (x ∷ xs) (y ∷ ys) h = let same = gives x y h.0 in let rest = zip_map xs ys h.1 in cc

  -- what the slots hold in the end, where each item gives one
  pub filled_map : (xs : List A) (start final : List B) (n : ℕ) → AllZip R (take n xs) (take n final) → drop n final ≡ drop n start
      → final ≡ map f (take n xs) ++ drop n start
  filled_map xs start final n each behind =
      let front = zip_map (take n xs) (take n final) each in
      sym (take-append-drop n final) ∙ ap (λ t. t ++ drop n final) front ∙ ap (λ t. map f (take n xs) ++ t) behind
