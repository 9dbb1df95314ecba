-- A memory that is filled from the front, as far as there is room.
use Rattle.std.proofs.Common.{◌≡◌, ℕ, min, List, ◌++◌, map, length, take, drop, sym, ap, ◌∙◌, ⊎_elim, arith}
use Rattle.std.proofs.lemmas.List.{take_all, drop_all, take-map, length-map}
use Rattle.std.proofs.lemmas.Bool.{cases_lt}

-- no later item fits, and the memory keeps what stands behind the items
pub filled_whole : {A B : Type 0} (f : A → B) (xs : List A) (start final : List B) (n : ℕ) → n ≡ min (length xs) (length start)
    → final ≡ map f (take n xs) ++ drop n start → final ≡ take (length start) (map f xs) ++ drop (length (map f xs)) start
filled_whole f xs start final n many is =
    let long : length (map f xs) ≡ length xs = length-map xs f in
    ⊎_elim
    (λ l.
    let front : map f (take n xs) ≡ take (length start) (map f xs) =
    ap (map f) (take_all n xs (omega arith)) ∙ sym (take_all (length start) (map f xs) (omega arith)) in
    is ∙ ap (λ t. t ++ drop n start) front ∙ ap (λ k. take (length start) (map f xs) ++ drop k start) (omega arith))
    (λ l.
    let front : map f (take n xs) ≡ take (length start) (map f xs) =
    sym (take-map f n xs) ∙ ap (λ k. take k (map f xs)) (omega arith) in
    let rest : drop n start ≡ drop (length (map f xs)) start =
    drop_all n start (omega arith) ∙ sym (drop_all (length (map f xs)) start (omega arith)) in
    is ∙ ap (λ t. t ++ drop n start) front ∙ ap (λ t. take (length start) (map f xs) ++ t) rest)
    (cases_lt (length xs) (length start))
