-- What a step comes to is what its answer means.
use Rattle.std.proofs.Common.{◌≡◌, ℕ, ◌+◌, Bool, true, false, cond, leb, Some, None, Option, sym, refl, subst, inl, inr}
use Rattle.words.specs.declared.node.Body.{Body}
use Rattle.words.specs.declared.node.Body.TheVariants as body
use Rattle.words.specs.declared.node.Exit.{Exit}
use Rattle.words.specs.declared.node.Exit.TheVariants.{End, Place}
use Rattle.words.specs.declared.node.Node.{Node}
use Rattle.words.specs.declared.node.Order.{Order}
use Rattle.lanes.specs.declared.lane.LaneState.{LaneState}
use Rattle.lanes.specs.declared.lane.LaneState.TheVariants as lane
use Rattle.lanes.specs.Lanes.{lane_at}
use Rattle.structure.specs.Nodes.{node_at}
use Rattle.outlets.specs.declared.message.Message.{Message}
use Rattle.outlets.specs.Meaning.{Meaning}
use Rattle.table.specs.declared.state.Table.{Table}
use Rattle.table.specs.Changes.{rows_at}
use Rattle.steps.specs.Limits.{limit}
use Rattle.steps.specs.Steps.{Stepped, stepped, may_send, on_message, takes_order, on_flow, ruling, way, leaving, on_block, on_body, on_place, on_state}
use Rattle.steps.specs.declared.answer.Step.{Step}
use Rattle.steps.specs.Walking.{LaneSteps}
use Rattle.steps.specs.Answers.{On, OnMessage, OnFlow, OnBlock, Leaves, Means, Says}

module _ (t : Table) (l : ℕ) where
  abbrev Meant : Stepped → Type 0
  Meant s = Means t l s.answer s.table

  -- both ways of a test
  by_test : (b : Bool) (x y : Stepped) → (b ≡ true → Meant x) → (b ≡ false → Meant y) → Meant (cond b x y)
  by_test true x y f g = f refl
  by_test false x y f g = g refl

  message_meant : (accepted : Bool) (tick next : ℕ) → OnMessage t l tick next → Meant (on_message accepted t l tick next)
  message_meant true tick next on = by_test (may_send t l tick) _ _ (λ may. (tick, next, on, may, refl)) (λ may. (inl (tick, next, on, may), refl))
  message_meant false tick next on = by_test (may_send t l tick) _ _ (λ may. ((tick, next, on, may), refl)) (λ may. (inl (tick, next, on, may), refl))

  flow_meant : (tick next target : ℕ) (order : Order) → OnFlow t l tick next target order → Meant (on_flow t l tick next target order)
  flow_meant tick next target order on =
      by_test (takes_order t target order) _ _ (λ takes. (tick, next, target, order, on, takes, refl)) (λ lost. (tick, next, target, order, on, lost, refl))

  module _ (p tick : ℕ) (node : Node) (next : Exit) (period : ℕ) (on : OnBlock t l p tick node next period) (in_time : leb (tick + period) limit ≡ true) where
    abbrev left_by : (exit : Exit) → way (ruling (rows_at t p)) next ≡ exit → Leaves t l exit
    left_by exit leads = record { place = p; tick = tick; node = node; next = next; period = period; on = on; in_time = in_time; leads = leads }

    leaving_meant : (exit : Exit) (is : way (ruling (rows_at t p)) next ≡ exit) → Meant (leaving t l p (tick + period) node next (ruling (rows_at t p)))
    leaving_meant End is = simp is (inl (left_by End is, refl))
    leaving_meant (Place q) is = simp is (left_by (Place q) is, refl)

  block_meant : (p tick : ℕ) (node : Node) (next : Exit) (period : ℕ) → OnBlock t l p tick node next period → Meant (on_block t l p tick node next period)
  block_meant p tick node next period on =
      by_test (leb (tick + period) limit) _ _
      (λ in_time. leaving_meant p tick node next period on in_time (way (ruling (rows_at t p)) next) refl)
      (λ late. (inr (p, tick, node, next, period, on, late), refl))

  body_meant : (accepted : Bool) (p tick : ℕ) (node : Node) (b : Body) → On t l p tick node → node.body ≡ b → Meant (on_body accepted t l p tick node b)
  body_meant accepted p tick node (body.Message next offset event) on is = message_meant accepted tick next (p, node, offset, event, on, is)
  body_meant accepted p tick node (body.Block next period alternatives) on is = block_meant p tick node next period (alternatives, on, is)
  body_meant accepted p tick node (body.Flow next offset target order) on is = flow_meant tick next target order (p, node, offset, on, is)

  place_meant : (accepted : Bool) (p tick : ℕ) (o : Option Node) → (lane_at t.lanes l).state ≡ lane.Running p tick → node_at t.nodes p ≡ o → Meant (on_place accepted t l p tick o)
  place_meant accepted p tick None running is = inr ((p, tick, running, is), refl)
  place_meant accepted p tick (Some node) running is = body_meant accepted p tick node node.body (record { running = running; live = is }) refl

  state_meant : (accepted : Bool) (s : LaneState) → (lane_at t.lanes l).state ≡ s → Meant (on_state accepted t l s)
  state_meant accepted lane.Idle is = (is, refl)
  state_meant accepted (lane.Running p tick) is = place_meant accepted p tick (node_at t.nodes p) is refl
  state_meant accepted (lane.Held p tick) is = ((p, tick, is), refl)

  pub meant : (accepted : Bool) → Meant (stepped accepted t l)
  meant accepted = state_meant accepted (lane_at t.lanes l).state refl

-- so does every step of a lane
pub says : {O : Type 0} (meaning : Meaning O) (b : Bool) (t : Table) (o : O) (l : ℕ) (r : Option Step) (after_t : Table) (after_o : O)
    → LaneSteps meaning b t o l r after_t after_o → Says t l r after_t
says meaning true t o l (Some answer) after_t after_o (accepted, offered, told, after) =
    subst (λ (a : Step). Means t l a after_t) (sym told) (subst (λ (u : Table). Means t l (stepped accepted t l).answer u) (sym after) (meant t l accepted))
says meaning true t o l None after_t after_o none = absurd none
says meaning false t o l (Some answer) after_t after_o none = absurd none
says meaning false t o l None after_t after_o (same, kept) = same
