-- What the calls come to for each message: as many were sent as were taken and wait.
use Rattle.std.proofs.Common.{◌≡◌, ℕ, Bool, true, false, cond, ltb, List, [], ◌∷◌, Some, None, Option, Result, sym, refl, ap, ◌∙◌, subst, inl, inr, arith}
use Rattle.std.proofs.lemmas.Bool.{cases_Bool, cond-true, cond-false}
use Rattle.words.specs.declared.node.Body.{Body}
use Rattle.words.specs.declared.node.Body.TheVariants as body
use Rattle.words.specs.declared.node.Node.{Node}
use Rattle.lanes.specs.declared.lane.LaneState.{LaneState}
use Rattle.lanes.specs.declared.lane.LaneState.TheVariants as lane
use Rattle.lanes.specs.Lanes.{lane_at}
use Rattle.structure.specs.Nodes.{node_at}
use Rattle.outlets.specs.declared.message.Message.{Message}
use Rattle.outlets.specs.Meaning.{Meaning}
use Rattle.outlets.specs.declared.request.Request.TheVariants as request
use Rattle.outlets.specs.Replies.{offered, took}
use Rattle.outlets.proofs.Steps.{step_balance as step_moved}
use Rattle.table.specs.declared.state.Table.{Table}
use Rattle.steps.specs.declared.answer.Step.{Step}
use Rattle.steps.specs.declared.answer.Step.TheVariants as came
use Rattle.calls.specs.declared.fault.Fault.{Fault}
use Rattle.steps.specs.Steps.{Stepped, stopped, may_send, on_message, on_body, on_place, on_state, stepped, body_offer, place_offer, state_offer, offer_of}
use Rattle.steps.specs.Walking.{Offers}
use Rattle.calls.specs.Calls.{StepsIf, Steps, Takes}
use Rattle.uses.specs.Uses.{Event, quiet, answer_event, step_event, take_event, Use}
use Rattle.uses.specs.Uses.Use.{clear, load, start, hold, resume, abort, command, check, remove, release, step, take}
use Rattle.uses.specs.Law.{Balanced}
use Rattle.uses.proofs.Outcomes.{none_some}

-- ### a step that offers a message answers "sent" where it is accepted, and "waits" where it is refused

abbrev said : Bool → Step
said accepted = cond accepted came.Sent came.Waits

accepted_said : (accepted : Bool) (go stay : Table) → (cond {A = Stepped} accepted (record { answer = came.Sent; table = go }) (record { answer = came.Waits; table = stay })).answer ≡ said accepted
accepted_said true go stay = refl
accepted_said false go stay = refl

message_said : (accepted : Bool) (t : Table) (l tick next : ℕ) (offer m : Message) → cond (may_send t l tick) (Some offer) None ≡ Some m → (on_message accepted t l tick next).answer ≡ said accepted
message_said accepted t l tick next offer m h =
    elim (cases_Bool (may_send t l tick)) [
      | inl y ↦ ap (λ (x : Stepped). x.answer) (cond-true (may_send t l tick) _ (stopped t l came.Range) y) ∙ accepted_said accepted _ t
      | inr n ↦ absurd (none_some m (sym (cond-false (may_send t l tick) (Some offer) None n) ∙ h))
    ]

body_said : (accepted : Bool) (t : Table) (l p tick : ℕ) (node : Node) (x : Body) (m : Message) → body_offer t l tick x ≡ Some m → (on_body accepted t l p tick node x).answer ≡ said accepted
body_said accepted t l p tick node (body.Message next offset event) m h = message_said accepted t l tick next _ m h
body_said accepted t l p tick node (body.Block next period alternatives) m h = absurd (none_some m h)
body_said accepted t l p tick node (body.Flow next offset target order) m h = absurd (none_some m h)

place_said : (accepted : Bool) (t : Table) (l p tick : ℕ) (node : Option Node) (m : Message) → place_offer t l tick node ≡ Some m → (on_place accepted t l p tick node).answer ≡ said accepted
place_said accepted t l p tick None m h = absurd (none_some m h)
place_said accepted t l p tick (Some node) m h = body_said accepted t l p tick node node.body m h

state_said : (accepted : Bool) (t : Table) (l : ℕ) (s : LaneState) (m : Message) → state_offer t l s ≡ Some m → (on_state accepted t l s).answer ≡ said accepted
state_said accepted t l lane.Idle m h = absurd (none_some m h)
state_said accepted t l (lane.Running p tick) m h = place_said accepted t l p tick (node_at t.nodes p) m h
state_said accepted t l (lane.Held p tick) m h = absurd (none_some m h)

offer_said : (accepted : Bool) (t : Table) (l : ℕ) (m : Message) → offer_of t l ≡ Some m → (stepped accepted t l).answer ≡ said accepted
offer_said accepted t l m h = state_said accepted t l (lane_at t.lanes l).state m h

-- a step that offers nothing sends nothing
nothing_sent : (answer : Step) → answer_event None answer ≡ quiet
nothing_sent came.Idle = refl
nothing_sent came.Held = refl
nothing_sent came.Range = refl
nothing_sent came.Sent = refl
nothing_sent came.Waits = refl
nothing_sent came.Queued = refl
nothing_sent came.Lost = refl
nothing_sent (came.Took place) = refl
nothing_sent came.Ended = refl

-- ### the balance

module _ {O : Type 0} (meaning : Meaning O) where
  vacant_balance : (o : O) → ((x : Message) → meaning.waits o x ≡ 0) → Balanced meaning.waits o []
  vacant_balance o none x = omega (arith, none x)

  take_balance : (o n : O) (answer : Option Message) (h : List Event) → Takes meaning o answer n → Balanced meaning.waits o h → Balanced meaning.waits n (take_event answer ∷ h)
  take_balance o n None h s b x = omega (arith, step_moved meaning o n request.Take (took None) s x, b x)
  take_balance o n (Some m) h s b x = omega (arith, step_moved meaning o n request.Take (took (Some m)) s x, b x)

  -- by what was offered, and whether it was accepted
  offer_balance : (offer : Option Message) (accepted : Bool) (answer : Step) → ((m : Message) → offer ≡ Some m → answer ≡ said accepted)
      → (o n : O) (h : List Event) → Offers meaning offer o accepted n → Balanced meaning.waits o h → Balanced meaning.waits n (answer_event offer answer ∷ h)
  offer_balance None accepted answer tells o n h s b =
      subst (λ e. Balanced meaning.waits n (e ∷ h)) (sym (nothing_sent answer)) (subst (λ x. Balanced meaning.waits x h) (sym s) b)
  offer_balance (Some m) true answer tells o n h s b =
      subst (λ a. Balanced meaning.waits n (answer_event (Some m) a ∷ h)) (sym (tells m refl))
      (λ x. omega (arith, step_moved meaning o n (request.Offer m) (offered true) s x, b x))
  offer_balance (Some m) false answer tells o n h s b =
      subst (λ a. Balanced meaning.waits n (answer_event (Some m) a ∷ h)) (sym (tells m refl))
      (λ x. omega (arith, step_moved meaning o n (request.Offer m) (offered false) s x, b x))

  steps_balance : (exists : Bool) (t : Table) (o : O) (l : ℕ) (answer : Result Step Fault) (t' : Table) (n : O) (h : List Event)
      → StepsIf meaning exists t o l answer t' n → Balanced meaning.waits o h → Balanced meaning.waits n (step_event t l answer ∷ h)
  steps_balance true t o l answer t' n h s b =
      subst (λ a. Balanced meaning.waits n (step_event t l a ∷ h)) (sym s.2)
      (offer_balance (offer_of t l) s.0 (stepped s.0 t l).answer (offer_said s.0 t l) o n h s.1 b)
  steps_balance false t o l answer t' n h s b =
      subst (λ a. Balanced meaning.waits n (step_event t l a ∷ h)) (sym s.0) (subst (λ x. Balanced meaning.waits x h) (sym s.2) b)

  step_balance : (t : Table) (o : O) (l : ℕ) (answer : Result Step Fault) (t' : Table) (n : O) (h : List Event)
      → Steps meaning t o l answer t' n → Balanced meaning.waits o h → Balanced meaning.waits n (step_event t l answer ∷ h)
  step_balance t o l answer t' n h s b = steps_balance (ltb l 8) t o l answer t' n h s b

  pub use_balanced : (t : Table) (o : O) (h : List Event) → Use meaning t o h → Balanced meaning.waits o h
  use_balanced t o h (clear vacant) = vacant_balance o vacant
  use_balanced t o h (load words answer t' u c) = use_balanced _ _ _ u
  use_balanced t o h (start lane place tick answer t' before after u c) = use_balanced _ _ _ u
  use_balanced t o h (hold lane answer t' u c) = use_balanced _ _ _ u
  use_balanced t o h (resume lane answer t' u c) = use_balanced _ _ _ u
  use_balanced t o h (abort lane answer t' u c) = use_balanced _ _ _ u
  use_balanced t o h (command block word answer t' before after u c) = use_balanced _ _ _ u
  use_balanced t o h (check pattern answer t' before after u c) = use_balanced _ _ _ u
  use_balanced t o h (remove pattern answer t' u c) = use_balanced _ _ _ u
  use_balanced t o h (release pattern answer t' u c) = use_balanced _ _ _ u
  use_balanced t o h (step lane answer t' o' u c) = step_balance _ _ lane answer t o _ c (use_balanced _ _ _ u)
  use_balanced t o h (take answer o' u c) = take_balance _ o answer _ c (use_balanced _ _ _ u)
