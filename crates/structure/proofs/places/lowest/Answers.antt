use Rattle.std.proofs.Common.{ℕ, ◌<◌, ◌≤◌, Bool, true, false, Some, None, Option, of_calls, arith, MatchOption}
use Rattle.std.proofs.lemmas.Iterator.{first_from_Range}
use Rattle.structure.specs.Lowest.{LowestBy}
use Rattle.structure.proofs.Answered.{found_by}
use Rattle.structure.proofs.places.lowest.Goals as goal

by_places : (A : ℕ → Bool → Type 0) (r : Option ℕ) → MatchOption r ((k : ℕ) → 0 ≤ k → k < 512 → A k false) (λ i. (0 ≤ i) × (i < 512) × A i true × ((k : ℕ) → 0 ≤ k → k < i → A k false)) → LowestBy A r
by_places A None h = λ q l. h q (omega arith) l
by_places A (Some p) h = record { small = h.1; here = h.2; below = λ q l. h.3 q (omega arith) l }

pub returns : goal.returns
returns g c =
    let A : ℕ → Bool → Type 0 = goal.F-post g c.args.says in
    let r = c.find.result in
    let lowest : LowestBy A r =
    by_places A r (first_from_Range _ _ _ r (λ p. A p true) (λ p. A p false) c.find.ensures.ran (λ x q k. search of_calls) (λ x q k. search of_calls)) in
    record { answered = lowest; found = λ f computes. found_by A f computes r lowest }
