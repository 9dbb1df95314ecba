-- What waits once room was made for one more.
use Rattle.std.proofs.Common.{◌≡◌, ℕ, ◌+◌, ◌-◌, ◌≤◌, Bool, cond, ltb, List, [], ◌∷◌, ◌++◌, length, drop, sym, ap, ◌∙◌, ⊎_elim, arith, length-drop}
use lib.Seq.{drop-append-le}
use Rattle.std.proofs.lemmas.List.{length_push, nil_from_length}
use Rattle.std.proofs.lemmas.Bool.{cases_lt, lt-ltb, le-ltb, cond-true, cond-false}
use Rattle.first_in_uses.specs.declared.waiting.Call.{Call}
use Rattle.first_in_uses.specs.Waiting.{newest}

module _ (n : ℕ) (xs ys zs : List Call) (x : Call) (r : Bool) where
  pub waits_newest : length xs ≤ n → ys ≡ cond (ltb (length xs) n) xs (drop 1 xs) → r ≡ ltb (length ys) n → zs ≡ cond r (ys ++ x ∷ []) ys → zs ≡ newest n (xs ++ x ∷ [])
  waits_newest within made answer joins =
      let long : length (xs ++ x ∷ []) ≡ length xs + 1 = length_push xs x in
      let at : ℕ → List Call = λ k. drop k (xs ++ x ∷ []) in
      ⊎_elim
      (λ l.
      let same : ys ≡ xs = made ∙ cond-true _ _ _ (lt-ltb _ _ l) in
      let none : length (xs ++ x ∷ []) - n ≡ 0 = omega arith in
      joins ∙ cond-true r _ _ (answer ∙ lt-ltb _ _ (omega (arith, ap length same))) ∙ ap (λ t. t ++ x ∷ []) same ∙ sym (ap at none))
      (λ l.
      let less : ys ≡ drop 1 xs = made ∙ cond-false _ _ _ (le-ltb _ _ l) in
      let one : length (xs ++ x ∷ []) - n ≡ 1 = omega arith in
      ⊎_elim
      (λ p.
      joins ∙ cond-true r _ _ (answer ∙ lt-ltb _ _ (omega (arith, ap length less, length-drop 1 xs))) ∙ ap (λ t. t ++ x ∷ []) less ∙ sym (ap at one ∙ drop-append-le 1 xs (x ∷ []) (omega arith)))
      (λ p.
      let nil : xs ≡ [] = nil_from_length xs (omega arith) in
      joins ∙ cond-false r _ _ (answer ∙ le-ltb _ _ (omega arith)) ∙ less ∙ ap (drop 1) nil ∙ sym (ap at one ∙ ap (λ t. drop 1 (t ++ x ∷ [])) nil))
      (cases_lt 0 n))
      (cases_lt (length xs) n)
