-- Where a call is refused for reach, and where it is accepted.
use Rattle.std.proofs.Common.{◌≡◌, ℕ, List, length, None, Ok, Err, Option, Result, refl, ap, subst, arith}
use Rattle.table.specs.declared.state.Table.{Table}
use Rattle.table.specs.Changes.{queued}
use Rattle.reach.specs.declared.fault.Fault.TheVariants as reach
use Rattle.reach.specs.declared.line.Line.{Line}
use Rattle.reach.specs.Scenes.{Scene, scene_of, Empty, IsOfPattern}
use Rattle.reach.specs.Verdicts.{ComesTo}
use Rattle.calls.specs.declared.fault.Fault.{Fault}
use Rattle.calls.specs.declared.fault.Fault.TheVariants.{Range, Memory, Busy, Below, State, Row, Bare, Permit}
use Rattle.calls.specs.Refusals.{start_refusal, command_refusal, check_refusal, entry_in}
use Rattle.calls.specs.Judging.{Astray, Uses, Told, Tested, Judged}
use Rattle.calls.specs.Calls.{HasNode, started, Checked}
use Rattle.uses.specs.Law.{ExactAnswer, Exact}

-- past its tests a call does what is said
past : {X : Type 0} (refusal : Option Fault) (answer : Result X Fault) (t n : Table) (before after : List Line) (Said : Type 0) → refusal ≡ None → Tested refusal answer t n before after Said → Said
past refusal answer t n before after Said none h = subst (λ r. Tested r answer t n before after Said) none h

-- the chain that is told ends on a place of the kind
told_comes : (s : Scene) (Kind : ℕ → Type 0) (place : ℕ) (before after : List Line) → Told s Kind place before after → ComesTo s Kind
told_comes s Kind place before after h = (h.1.0, place, h.1.1.ends, h.0)

-- ### an answer that refuses for reach, and any other

module _ {X : Type 0} (trial : Table) (Kind : ℕ → Type 0) (before after : List Line) where
  refuses : (place : ℕ) → Told (scene_of trial) Kind place before after → ExactAnswer {X = X} trial Kind (ComesTo (scene_of trial) Kind) (Err (Below (reach.Reach place))) before after
  refuses place told = record {
    refused = λ q e. (told_comes (scene_of trial) Kind place before after told, subst (λ p. Told (scene_of trial) Kind p before after) (same_place q e) told);
    must = λ says. (place, refl);
  }
    where
      same_place : (q : ℕ) → ◌≡◌ {A = Result X Fault} (Err (Below (reach.Reach place))) (Err (Below (reach.Reach q))) → place ≡ q
      same_place q e = cc

  spares : (answer : Result X Fault) → ((place : ℕ) → answer ≡ Err (Below (reach.Reach place)) → ⊥) → (ComesTo (scene_of trial) Kind → ⊥) → ExactAnswer trial Kind (ComesTo (scene_of trial) Kind) answer before after
  spares answer other none = record { refused = λ q e. absurd (other q e); must = λ says. absurd (none says) }

ok_err : {X : Type 0} (x : X) (fault : Fault) → ◌≡◌ {A = Result X Fault} (Ok x) (Err fault) → ⊥
ok_err x fault e = let z : ◌≡◌ {A = ℕ} 0 1 = cc in omega arith

bare_reach : {X : Type 0} (pattern place : ℕ) → ◌≡◌ {A = Result X Fault} (Err (Bare pattern)) (Err (Below (reach.Reach place))) → ⊥
bare_reach pattern place e = let z : ◌≡◌ {A = ℕ} 0 1 = cc in omega arith

-- ### start and command

module _ (trial t n : Table) (before after : List Line) where
  judged_exact : (answer : Result (Unit {0}) Fault) → Judged trial answer t n before after
      → ExactAnswer trial (Empty (scene_of trial)) (Astray trial) answer before after × ((Astray trial → ⊥) → answer ≡ Ok tt)
  judged_exact (Ok done) h = (spares trial (Empty (scene_of trial)) before after (Ok done) (λ q e. ok_err done (Below (reach.Reach q)) e) h.0, λ none. refl)
  judged_exact (Err (Below (reach.Reach place))) h = (
    refuses trial (Empty (scene_of trial)) before after place h.0,
    λ none. absurd (none (told_comes (scene_of trial) (Empty (scene_of trial)) place before after h.0)),
  )
  judged_exact (Err (Below (reach.Table fault))) h = absurd h
  judged_exact (Err (Range argument)) h = absurd h
  judged_exact (Err (Memory needed)) h = absurd h
  judged_exact (Err (Busy pattern)) h = absurd h
  judged_exact (Err (State lane)) h = absurd h
  judged_exact (Err (Row block)) h = absurd h
  judged_exact (Err (Bare pattern)) h = absurd h
  judged_exact (Err (Permit pattern)) h = absurd h

-- ### check

module _ (t : Table) (pattern : ℕ) (n : Table) (before after : List Line) where
  abbrev Kind : ℕ → Type 0
  Kind = IsOfPattern (scene_of t) pattern

  checked_exact : (answer : Result ℕ Fault) → Checked t pattern answer n before after
      → ExactAnswer t Kind (Uses t pattern) answer before after
      × ((Uses t pattern → ⊥) → HasNode t pattern → answer ≡ Ok pattern)
      × ((Uses t pattern → ⊥) → (HasNode t pattern → ⊥) → answer ≡ Err (Bare pattern))
  checked_exact (Ok permit) h = (
    spares t Kind before after (Ok permit) (λ q e. ok_err permit (Below (reach.Reach q)) e) h.0,
    (λ none node. ap Ok h.2),
    (λ none bare. absurd (bare h.1)),
  )
  checked_exact (Err (Below (reach.Reach place))) h =
      let uses : Uses t pattern = told_comes (scene_of t) Kind place before after h.0 in
      (refuses t Kind before after place h.0, (λ none node. absurd (none uses)), (λ none bare. absurd (none uses)))
  checked_exact (Err (Bare other)) h = (
    spares t Kind before after (Err (Bare other)) (bare_reach other) h.0,
    (λ none node. absurd (h.1 node)),
    (λ none bare. ap (λ x. Err (Bare x)) h.2),
  )
  checked_exact (Err (Below (reach.Table fault))) h = absurd h
  checked_exact (Err (Range argument)) h = absurd h
  checked_exact (Err (Memory needed)) h = absurd h
  checked_exact (Err (Busy other)) h = absurd h
  checked_exact (Err (State lane)) h = absurd h
  checked_exact (Err (Row block)) h = absurd h
  checked_exact (Err (Permit other)) h = absurd h

-- ### the three calls that are judged by reach

pub exact : (t : Table) → Exact t
exact t = record {
  starts = λ lane place tick answer n before after h none.
      judged_exact (started t lane place tick) t n before after answer (past (start_refusal t lane place tick (length before)) answer t n before after _ none h);
  commands = λ block word answer n before after h none.
      judged_exact (queued t block (entry_in word)) t n before after answer (past (command_refusal t block word (length before)) answer t n before after _ none h);
  checks = λ pattern answer n before after h none.
      checked_exact t pattern n before after answer (past (check_refusal t pattern (length before)) answer t n before after _ none h);
}
