-- No lawful chain ends on an empty place, nor in the pattern of the open check: every call keeps it so.
use Rattle.std.proofs.Common.{◌≡◌, ℕ, List, Some, None, Option, Result, sym, refl, ap, ◌∙◌, subst}
use Rattle.std.proofs.lemmas.Bool.{eq-eqb}
use Rattle.lanes.specs.declared.lane.Lane.{Lane}
use Rattle.lanes.specs.declared.lane.LaneCall.{LaneCall}
use Rattle.lanes.specs.Lanes.{idle_lane}
use Rattle.image.proofs.Run.{only_accepted}
use Rattle.outlets.specs.declared.message.Message.{Message}
use Rattle.outlets.specs.Meaning.{Meaning}
use Rattle.table.specs.declared.state.Table.{Table}
use Rattle.table.specs.Tables.{cleared, loaded}
use Rattle.table.specs.Changes.{queued}
use Rattle.reach.specs.declared.line.Letter.TheVariants as letter
use Rattle.reach.specs.declared.line.Line.{Line}
use Rattle.reach.specs.Scenes.{scene_of, Empty, IsOfPattern, Stands}
use Rattle.reach.specs.Chains.{InReach}
use Rattle.reach.specs.Verdicts.{ComesTo}
use Rattle.reach.specs.Laws.{Closed}
use Rattle.reach.proofs.Induction.{reach_in, reach_ended, ended_reach}
use Rattle.steps.specs.declared.answer.Step.{Step}
use Rattle.calls.specs.declared.fault.Fault.{Fault}
use Rattle.calls.specs.Refusals.{entry_in}
use Rattle.calls.specs.Judging.{Astray, Uses}
use Rattle.steps.specs.Steps.{stepped}
use Rattle.calls.specs.Calls.{Load, Start, started, CallOnLane, Command, Check, is_open, permit_told, removed, Remove, Release, Steps}
use Rattle.uses.specs.Law.{Safe}
use Rattle.uses.proofs.Outcomes.{none_some, load_keeps, start_keeps, command_keeps, call_keeps, check_keeps, remove_keeps, release_keeps, steps_keeps}
use Rattle.uses.proofs.Wholes.{all_same}
use Rattle.uses.proofs.Calm.{Calm, lane_reach, Stays, call_calm}
use Rattle.uses.proofs.Stepping.{Placed, step_calm}
use Rattle.uses.proofs.Loading.{apart_of, loaded_calm, removed_calm}

pub record KeptSafe (t : Table) : Type 0 where
  pub live : Astray t → ⊥
  pub spared : (pattern : ℕ) → t.check ≡ Some pattern → Uses t pattern → ⊥

-- ### by places in reach

module _ (t : Table) where
  -- a place in reach has a lawful chain that ends on it
  comes : (Kind : ℕ → Type 0) (p : ℕ) → InReach (scene_of t) p → Kind p → ComesTo (scene_of t) Kind
  comes Kind p r k = let d = reach_ended (scene_of t) p r in (d.0, p, d.1, k)

  live_at : KeptSafe t → (p : ℕ) → InReach (scene_of t) p → Empty (scene_of t) p → ⊥
  live_at s p r e = s.live (comes (Empty (scene_of t)) p r e)

  spared_at : KeptSafe t → (pattern : ℕ) → t.check ≡ Some pattern → (p : ℕ) → InReach (scene_of t) p → IsOfPattern (scene_of t) pattern p → ⊥
  spared_at s pattern c p r e = s.spared pattern c (comes (IsOfPattern (scene_of t) pattern) p r e)

-- a place that a chain of n ends on was in reach in t
was_reach : (t n : Table) → Calm t n → (Kind : ℕ → Type 0) (c : ComesTo (scene_of n) Kind) → InReach (scene_of t) c.1
was_reach t n calm Kind c = calm.within c.1 (ended_reach (scene_of n) c.0 c.1 c.2)

pub calm_safe : (t n : Table) → Calm t n → KeptSafe t → KeptSafe n
calm_safe t n calm s = record {
  live = λ c. let was = was_reach t n calm (Empty (scene_of n)) c in live_at t s c.1 was (calm.empty c.1 was c.3);
  spared = λ k e c. let was = was_reach t n calm (IsOfPattern (scene_of n) k) c in spared_at t s k (calm.check k e) c.1 was (calm.pattern k c.1 was c.3);
}

-- ### what holds

pub safe_of : (t : Table) → Placed t → KeptSafe t → Safe t
safe_of t placed s = record {
  stands = λ l p h e. live_at t s p (lane_reach t l p (placed l p h) h) e;
  leads = s.live;
  spared = s.spared;
  removes = λ pattern answer after c h. h.0 ∙ ap (λ o. permit_told (is_open o pattern) pattern) c ∙ ap (λ b. permit_told b pattern) (eq-eqb pattern pattern refl);
}

-- ### the cleared table: nothing is in reach

cleared_closed : Closed (scene_of cleared) (λ p. ⊥)
cleared_closed letter.Lane m n p small g b = subst (λ (x : Lane). Stands x.state p) (all_same 8 m idle_lane) g.0
cleared_closed letter.Next m n p small g b = b
cleared_closed letter.Queue m n p small g b = b
cleared_closed letter.Flow m n p small g b = b.0

pub cleared_safe : KeptSafe cleared
cleared_safe = record {
  live = λ c. reach_in (scene_of cleared) (λ p. ⊥) cleared_closed c.1 (ended_reach (scene_of cleared) c.0 c.1 c.2);
  spared = λ k e. absurd (none_some k e);
}

-- ### load

pub load_safe : (t : Table) (words : List ℕ) (answer : Result ℕ Fault) (n : Table) → Load t words answer n → KeptSafe t → KeptSafe n
load_safe t words answer n h s =
    load_keeps KeptSafe t s words n
    (λ image read welcome.
    let new = image.places in
    calm_safe t (loaded t new) (loaded_calm t new (apart_of t new (only_accepted words image read).proper.count welcome.apart (live_at t s))) s) answer h

-- ### start and command: the table is judged, and no check is open

shut_safe : (n : Table) → n.check ≡ None → (Astray n → ⊥) → KeptSafe n
shut_safe n shut live = record { live = live; spared = λ k c. absurd (none_some k (sym shut ∙ c)) }

pub start_safe : (t : Table) (lane place tick : ℕ) (answer : Result (Unit {0}) Fault) (n : Table) (before after : List Line) → Start t lane place tick answer n before after → KeptSafe t → KeptSafe n
start_safe t lane place tick answer n before after h s =
    start_keeps KeptSafe t s lane place tick answer n before after (λ passed. shut_safe (started t lane place tick) passed.shut) h

pub command_safe : (t : Table) (block word : ℕ) (answer : Result (Unit {0}) Fault) (n : Table) (before after : List Line) → Command t block word answer n before after → KeptSafe t → KeptSafe n
command_safe t block word answer n before after h s =
    command_keeps KeptSafe t s block word answer n before after (λ passed. shut_safe (queued t block (entry_in word)) passed.shut) h

-- ### hold, resume, abort and step

pub call_safe : (call : LaneCall) → Stays call → (t : Table) (l : ℕ) (answer : Result (Unit {0}) Fault) (n : Table) → CallOnLane call t l answer n → KeptSafe t → KeptSafe n
call_safe call stays t l answer n h s = call_keeps KeptSafe t s call l answer n (calm_safe t _ (call_calm call stays t l) s) h

module _ {O : Type 0} (meaning : Meaning O) where
  pub step_safe : (t : Table) (o : O) (l : ℕ) (answer : Result Step Fault) (n : Table) (o' : O) → Steps meaning t o l answer n o' → Placed t → KeptSafe t → KeptSafe n
  step_safe t o l answer n o' h placed s =
      steps_keeps KeptSafe t s meaning l (λ accepted. calm_safe t (stepped accepted t l).table (step_calm accepted t l placed) s) o answer n o' h

-- ### check, remove and release

some_is : (a b : ℕ) → ◌≡◌ {A = Option ℕ} (Some a) (Some b) → a ≡ b
some_is a b e = cc

pub check_safe : (t : Table) (pattern : ℕ) (answer : Result ℕ Fault) (n : Table) (before after : List Line) → Check t pattern answer n before after → KeptSafe t → KeptSafe n
check_safe t pattern answer n before after h s =
    check_keeps KeptSafe t s pattern answer n before after
    (λ unused. record { live = s.live; spared = λ k e c. unused (subst (Uses t) (sym (some_is pattern k e)) c) }) h

pub remove_safe : (t : Table) (pattern : ℕ) (answer : Result (Unit {0}) Fault) (n : Table) → Remove t pattern answer n → KeptSafe t → KeptSafe n
remove_safe t pattern answer n h s =
    remove_keeps KeptSafe t s pattern answer n (λ c. calm_safe t (removed t pattern) (removed_calm t pattern (spared_at t s pattern c)) s) h

pub release_safe : (t : Table) (pattern : ℕ) (answer : Result (Unit {0}) Fault) (n : Table) → Release t pattern answer n → KeptSafe t → KeptSafe n
release_safe t pattern answer n h s = release_keeps KeptSafe t s pattern answer n (record { live = s.live; spared = λ k e. absurd (none_some k e) }) h
