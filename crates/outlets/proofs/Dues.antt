-- The message that is due first, and what waits once it has left.
use Rattle.std.proofs.Common.{◌≡◌, ℕ, ◌+◌, ◌-◌, ◌<◌, ◌≤◌, min, List, length, get_or, take, set, Some, sum_by, sym, ap, ◌∙◌, subst, ⊎_elim, arith, length-set, length-take}
use lib.Seq.{take-set-lt}
use Rattle.std.specs.Cmp.{IsStrictWeakOrder}
use Rattle.std.proofs.lemmas.List.Sums.{sum_by-set, sum_by_more}
use Rattle.std.proofs.lemmas.List.{take-take, take_all, get_or-take, get_or-set_same, get_or-set_other}
use Rattle.std.proofs.lemmas.Bool.{cases_eq, cases_lt}
use Rattle.std.proofs.lemmas.Bool.Decides.{nat_tests}
use Rattle.std.specs.List.{IsFirstBest}
use Rattle.outlets.specs.declared.message.Message.{Message}
use Rattle.outlets.specs.Messages.{times, blank}
use Rattle.outlets.specs.Due.{before, Earliest}
use Rattle.outlets.proofs.Counts.{counted, found}

pub ranks_before : IsStrictWeakOrder before
ranks_before = record {
  one_way = λ x y h. grind (arith, nat_tests);
  chain = λ x y z h k. grind (arith, nat_tests);
}

-- the last of the first n moved to the place of the one at b
pub swapped_out : {X : Type 0} (f : X → ℕ) (s : List X) (n b : ℕ) (d : X) → b < n → n ≤ length s → sum_by f (take n s) ≡ sum_by f (take (n - 1) (set s b (get_or s (n - 1) d))) + f (get_or s b d)
swapped_out f s n b d bn ns =
    let last = get_or s (n - 1) d in
    let xs = take n s in
    let lx : length xs ≡ n = simp length-take (omega arith) in
    let bx : b < length xs = omega arith in
    let sets : sum_by f (set xs b last) + f (get_or xs b d) ≡ sum_by f xs + f last = sum_by-set f xs b last d bx in
    let at_b : get_or xs b d ≡ get_or s b d = get_or-take n s b d bn in
    let ly : length (set xs b last) ≡ n = length-set xs b last ∙ lx in
    let cut : sum_by f (take ((n - 1) + 1) (set xs b last)) ≡ sum_by f (take (n - 1) (set xs b last)) + f (get_or (set xs b last) (n - 1) d) = sum_by_more f (set xs b last) (n - 1) d (omega arith) in
    let whole : take ((n - 1) + 1) (set xs b last) ≡ set xs b last = take_all ((n - 1) + 1) (set xs b last) (omega arith) in
    let end : get_or (set xs b last) (n - 1) d ≡ last =
    ⊎_elim
    (λ e. ap (λ i. get_or (set xs b last) i d) e ∙ get_or-set_same xs b last d bx)
    (λ ne. get_or-set_other xs b (n - 1) last d ne ∙ get_or-take n s (n - 1) d (omega arith))
    (cases_eq (n - 1) b) in
    let same : take (n - 1) (set s b last) ≡ take (n - 1) (set xs b last) =
    sym (ap (take (n - 1)) (sym (take-set-lt n s b last bn)) ∙ take-take (n - 1) n (set s b last) (omega arith)) in
    omega (arith, ap (sum_by f) whole, ap f end, ap f at_b, ap (sum_by f) same)

-- past the end of s there is nothing to take
pub cut_take : {X : Type 0} (s : List X) (len n : ℕ) → n ≡ min len (length s) → take len s ≡ take n s
cut_take s len n e =
    ⊎_elim
    (λ l. ap (λ k. take k s) (omega arith))
    (λ l. take_all len s l ∙ sym (take_all n s (omega arith)))
    (cases_lt len (length s))

-- the first best of the first n is the one that is due first
pub earliest_best : (s : List Message) (n b : ℕ) → n ≤ length s → IsFirstBest before s n b → Earliest (λ x. times x (take n s)) (Some (get_or s b blank))
earliest_best s n b ns best =
    let ms = take n s in
    let long : length ms ≡ n = simp length-take (omega arith) in
    let here : get_or ms b blank ≡ get_or s b blank = get_or-take n s b blank best.0 in (
      subst (λ (m : Message). 0 < times m ms) here (counted ms b (omega (arith, best.0))),
      λ x p.
          let f = found x ms p in
          let kn : f.0 < n = omega (arith, f.1) in
          ap (λ y. before y (get_or s b blank)) (sym f.2 ∙ get_or-take n s f.0 blank kn) ∙ best.1 f.0 blank kn,
    )
