-- The answers of steps and takes at an outlet, computed, and that no other answer is allowed.
use Rattle.std.proofs.Common.{◌≡◌, ℕ, ◌+◌, ◌<◌, Bool, true, false, cond, eqb, ltb, leb, List, [], ◌∷◌, ◌++◌, length, Some, None, Ok, Err, Option, Result, sym, refl, ap, ◌∙◌, subst, inl, inr, arith}
use Rattle.std.proofs.lemmas.List.{length_push}
use Rattle.std.proofs.lemmas.List.Sums.{sum_by-cons, sum_by_push}
use Rattle.std.proofs.lemmas.Bool.{ltb-true, leb-true, eqb-true, cases_Bool, cond-true, cond-false}
use Rattle.words.specs.declared.node.Body.{Body}
use Rattle.words.specs.declared.node.Body.TheVariants as body
use Rattle.words.specs.declared.node.Node.{Node}
use Rattle.lanes.specs.declared.lane.LaneState.{LaneState}
use Rattle.lanes.specs.declared.lane.LaneState.TheVariants as lane
use Rattle.lanes.specs.Lanes.{lane_at}
use Rattle.structure.specs.Nodes.{node_at}
use Rattle.outlets.specs.declared.message.Message.{Message}
use Rattle.outlets.specs.Messages.{same, one}
use Rattle.outlets.specs.Meaning.{NoChange}
use Rattle.outlets.proofs.Counts.{same_is, same_self}
use Rattle.table.specs.declared.state.Table.{Table}
use Rattle.steps.specs.declared.answer.Step.{Step}
use Rattle.calls.specs.declared.fault.Fault.{Fault}
use Rattle.calls.specs.declared.fault.Fault.TheVariants.{Range}
use Rattle.steps.specs.Steps.{stepped, offer_of, may_send, on_body, on_place, on_state, body_offer, place_offer, state_offer}
use Rattle.steps.specs.Walking.{Offers}
use Rattle.calls.specs.Calls.{StepsIf, Steps, Takes}
use Rattle.cases.specs.Plays.{Box, total, meaning}
use Rattle.cases.proofs.Checks.{no_some}
use Rattle.cases.proofs.Answered.{Outcome}

-- two outlets that cannot be told apart by their numbers
abbrev pub Same : Box → Box → Type 0
Same o left = NoChange meaning o left

-- ### a step

-- whether the outlet accepts
abbrev pub accepts : Box → Bool
accepts o = ltb (total o) o.capacity

-- the outlet after an offer, if there is one, which it accepts or not
abbrev pub offered : Bool → Box → Option Message → Box
offered accepted o None = o
offered true o (Some m) = record { messages = o.messages ++ (m ∷ []); capacity = o.capacity }
offered false o (Some m) = o

-- a refused offer finds the outlet full, not over its capacity
abbrev pub offer_sure : Bool → Box → Option Message → Bool
offer_sure accepted o None = true
offer_sure true o (Some m) = ltb (total o) o.capacity
offer_sure false o (Some m) = eqb (total o) o.capacity

abbrev pub box_if : Bool → Table → Box → ℕ → Box
box_if true t o l = offered (accepts o) o (offer_of t l)
box_if false t o l = o

abbrev pub step_if : Bool → Table → Box → ℕ → Outcome (Result Step Fault)
step_if true t o l = record {
  said = Ok (stepped (accepts o) t l).answer;
  table = (stepped (accepts o) t l).table;
  sure = offer_sure (accepts o) o (offer_of t l);
}
step_if false t o l = record { said = Err (Range 0); table = t; sure = true }

abbrev pub step_out : Table → Box → ℕ → Outcome (Result Step Fault)
step_out t o l = step_if (ltb l 8) t o l

abbrev pub step_box : Table → Box → ℕ → Box
step_box t o l = box_if (ltb l 8) t o l

offers_is : (accepted : Bool) (o : Box) (m : Option Message) → offer_sure accepted o m ≡ true → Offers meaning m o accepted (offered accepted o m)
offers_is accepted o None h = refl
offers_is true o (Some m) h =
    (ltb-true (total o) o.capacity h, record { each = λ x. sum_by_push (one x) o.messages m; all = length_push o.messages m; fixed = refl })
offers_is false o (Some m) h = (eqb-true (total o) o.capacity h, record { each = λ x. refl; all = refl; fixed = refl })

module _ (t : Table) (o : Box) (l : ℕ) where
  step_if_is : (small : Bool) → (step_if small t o l).sure ≡ true → StepsIf meaning small t o l (step_if small t o l).said (step_if small t o l).table (box_if small t o l)
  step_if_is true h = (accepts o, offers_is (accepts o) o (offer_of t l) h, refl, refl)
  step_if_is false h = (refl, refl, refl)

  pub step_is : (step_out t o l).sure ≡ true → Steps meaning t o l (step_out t o l).said (step_out t o l).table (step_box t o l)
  step_is h = step_if_is (ltb l 8) h

-- ### no other step

-- a step that offers nothing does not ask whether the outlet accepts
module _ (t : Table) (l : ℕ) (a b : Bool) where
  send_alike : {X : Type 0} (send : Bool) (m : Message) (x y z : X) → cond send (Some m) None ≡ None → cond send (cond a x y) z ≡ cond send (cond b x y) z
  send_alike true m x y z e = no_some m (sym e)
  send_alike false m x y z e = refl

  body_alike : (p tick : ℕ) (node : Node) (x : Body) → body_offer t l tick x ≡ None → on_body a t l p tick node x ≡ on_body b t l p tick node x
  body_alike p tick node (body.Message next offset event) e = send_alike (may_send t l tick) _ _ _ _ e
  body_alike p tick node (body.Block next period alternatives) e = refl
  body_alike p tick node (body.Flow next offset target order) e = refl

  place_alike : (p tick : ℕ) (node : Option Node) → place_offer t l tick node ≡ None → on_place a t l p tick node ≡ on_place b t l p tick node
  place_alike p tick None e = refl
  place_alike p tick (Some node) e = body_alike p tick node node.body e

  state_alike : (state : LaneState) → state_offer t l state ≡ None → on_state a t l state ≡ on_state b t l state
  state_alike lane.Idle e = refl
  state_alike (lane.Running p tick) e = place_alike p tick (node_at t.nodes p) e
  state_alike (lane.Held p tick) e = refl

-- what an offer can come to at an outlet that has the same numbers
module _ (o left after : Box) (alike : Same o left) where
  same_after : Same left after → Same o after
  same_after c = record { each = λ x. c.each x ∙ alike.each x; all = c.all ∙ alike.all; fixed = c.fixed ∙ alike.fixed }

  offer_only : (accepts_it accepted : Bool) (m : Message) → offer_sure accepts_it o (Some m) ≡ true → Offers meaning (Some m) left accepted after
      → (accepted ≡ accepts_it) × Same (offered accepts_it o (Some m)) after
  offer_only true true m h s = (
    refl,
    record {
      each = λ x. s.1.each x ∙ ap (λ n. n + one x m) (alike.each x) ∙ sym (sum_by_push (one x) o.messages m);
      all = s.1.all ∙ ap (λ n. n + 1) alike.all ∙ sym (length_push o.messages m);
      fixed = s.1.fixed ∙ alike.fixed;
    },
  )
  offer_only true false m h s = absurd (omega (arith, ltb-true (total o) o.capacity h, s.0, alike.all, alike.fixed))
  offer_only false true m h s = absurd (omega (arith, eqb-true (total o) o.capacity h, s.0, alike.all, alike.fixed))
  offer_only false false m h s = (refl, same_after s.1)

module _ (t : Table) (o left : Box) (l : ℕ) (alike : Same o left) (other : Result Step Fault) (then : Table) (after : Box) where
  offers_only : (m : Option Message) (accepted : Bool) → offer_of t l ≡ m → offer_sure (accepts o) o m ≡ true → Offers meaning m left accepted after
      → (stepped accepted t l ≡ stepped (accepts o) t l) × Same (offered (accepts o) o m) after
  offers_only None accepted e h s =
      (state_alike t l accepted (accepts o) (lane_at t.lanes l).state e, subst (Same o) (sym s) alike)
  offers_only (Some m) accepted e h s =
      let only = offer_only o left after alike (accepts o) accepted m h s in
      (ap (λ b. stepped b t l) only.0, only.1)

  step_if_only : (small : Bool) → (step_if small t o l).sure ≡ true → StepsIf meaning small t left l other then after
      → (other ≡ (step_if small t o l).said) × ((step_if small t o l).table ≡ then) × Same (box_if small t o l) after
  step_if_only true h s =
      let only = offers_only (offer_of t l) s.0 refl h s.1 in
      (s.2 ∙ ap (λ r. Ok r.answer) only.0, sym (s.3 ∙ ap (λ r. r.table) only.0), only.1)
  step_if_only false h s = (s.0, sym s.1, subst (Same o) (sym s.2) alike)

  pub step_only : (step_out t o l).sure ≡ true → Steps meaning t left l other then after
      → (other ≡ (step_out t o l).said) × ((step_out t o l).table ≡ then) × Same (step_box t o l) after
  step_only h s = step_if_only (ltb l 8) h s

-- ### a take

abbrev pub first_in : List Message → Option Message
first_in [] = None
first_in (m ∷ ms) = Some m

abbrev pub behind_first : List Message → List Message
behind_first [] = []
behind_first (m ∷ ms) = ms

abbrev pub take_box : Box → Box
take_box o = record { messages = behind_first o.messages; capacity = o.capacity }

-- which of several messages is handed out, the meaning of outlets leaves open
abbrev pub take_sure : Box → Bool
take_sure o = leb (total o) 1

takes_is : (ms : List Message) (n : ℕ)
    → Takes meaning (record { messages = ms; capacity = n }) (first_in ms) (record { messages = behind_first ms; capacity = n })
takes_is [] n = (refl, record { each = λ x. refl; all = refl; fixed = refl })
takes_is (m ∷ ms) n = record { each = λ x. omega (arith, sum_by-cons (one x) m ms); all = omega arith; fixed = refl }

pub take_is : (o : Box) → Takes meaning o (first_in o.messages) (take_box o)
take_is o = takes_is o.messages o.capacity

one_itself : (m : Message) → one m m ≡ 1
one_itself m = cond-true (same m m) 1 0 (same_self m)

one_is : (a b : Message) → 0 < one a b → a ≡ b
one_is a b h = elim (cases_Bool (same a b)) [ inl e ↦ same_is a b e | inr e ↦ absurd (omega (arith, cond-false {A = ℕ} (same a b) 1 0 e)) ]

module _ (left after : Box) where
  takes_only : (ms : List Message) (n : ℕ) (other : Option Message) → Same (record { messages = ms; capacity = n }) left → leb (length ms) 1 ≡ true
      → Takes meaning left other after → (other ≡ first_in ms) × Same (record { messages = behind_first ms; capacity = n }) after
  takes_only [] n None alike h s = (refl, same_after _ left after alike s.1)
  takes_only [] n (Some m) alike h s = absurd (omega (arith, s.all, alike.all))
  takes_only (m ∷ []) n None alike h s = absurd (omega (arith, s.0, alike.all))
  takes_only (m ∷ []) n (Some x) alike h s =
      let e : x ≡ m = one_is x m (omega (arith, s.each x, alike.each x, one_itself x)) in (
        ap Some e,
        record {
          each = λ y. omega (arith, s.each y, alike.each y, ap (one y) e);
          all = omega (arith, s.all, alike.all);
          fixed = sym s.fixed ∙ alike.fixed;
        },
      )
  takes_only (m ∷ (k ∷ ms)) n other alike h s = absurd (omega (arith, leb-true (length (m ∷ (k ∷ ms))) 1 h))

pub take_only : (o left after : Box) (other : Option Message) → Same o left → take_sure o ≡ true → Takes meaning left other after
    → (other ≡ first_in o.messages) × Same (take_box o) after
take_only o left after other alike h s = takes_only left after o.messages o.capacity other alike h s
