-- A step keeps what hangs together.
use Rattle.std.proofs.Common.{◌≡◌, ℕ, ◌+◌, ◌<◌, ◌≤◌, Bool, true, ◌&&◌, ltb, leb, Some, None, Option, Result, sym, refl, ap, ◌∙◌, subst, inl, inr, arith}
use Rattle.std.proofs.ByRecursion.{All-get_or}
use Rattle.std.proofs.lemmas.Bool.{and_parts, cases_Bool, cond_both, leb-true, ltb-true, not_from_false, false≢true}
use Rattle.words.specs.declared.node.Body.{Body}
use Rattle.words.specs.declared.node.Body.TheVariants as body
use Rattle.words.specs.declared.node.Entry.{Entry}
use Rattle.words.specs.declared.node.Entry.TheVariants as entry
use Rattle.words.specs.declared.node.Exit.{Exit}
use Rattle.words.specs.declared.node.Exit.TheVariants.{End, Place}
use Rattle.words.specs.declared.node.Node.{Node}
use Rattle.words.specs.declared.node.Order.{Order}
use Rattle.words.specs.Format.{AllowedExit}
use Rattle.lanes.specs.declared.lane.LaneState.{LaneState}
use Rattle.lanes.specs.declared.lane.LaneState.TheVariants as lane
use Rattle.lanes.specs.Lanes.{lane_at}
use Rattle.image.specs.Nodes.{AllowedPlace, AllowedNode, AllowedBody}
use Rattle.structure.specs.Nodes.{node_at, lists}
use Rattle.structure.specs.Structure.{misses, node_unlisted, body_unlisted}
use Rattle.outlets.specs.declared.message.Message.{Message}
use Rattle.outlets.specs.Meaning.{Meaning}
use Rattle.table.specs.declared.state.Table.{Table}
use Rattle.table.specs.Changes.{rows_at, state_changed, node_changed, queued}
use Rattle.reach.specs.Book.{is_block}
use Rattle.steps.specs.declared.answer.Step.{Step}
use Rattle.calls.specs.declared.fault.Fault.{Fault}
use Rattle.steps.specs.Limits.{limit}
use Rattle.steps.specs.Steps.{Stepped, may_send, on_message, takes_order, on_flow, ruling, rows_used, way, node_after, arrived, leaving, on_block, on_body, on_place, on_state, stepped}
use Rattle.calls.specs.Calls.{Steps}
use Rattle.uses.specs.Law.{InRange}
use Rattle.uses.proofs.Outcomes.{steps_keeps}
use Rattle.uses.proofs.Turning.{Alike, alike_self, turned_alike, turned_allowed, listed_allowed}
use Rattle.uses.proofs.WholeRows.{May, ruling_may, rows_used_whole}
use Rattle.uses.proofs.Wholes.{KeptWhole, state_changed_whole, lane_changed_whole, queued_whole, node_changed_whole, rows_changed_whole}

abbrev StepWhole : Stepped → Type 0
StepWhole s = KeptWhole s.table

-- ### what is known of a node of the table

module _ (t : Table) (k : KeptWhole t) (p : ℕ) (small : p < 512) (node : Node) (here : node_at t.nodes p ≡ Some node) where
  node_allowed : AllowedNode node
  node_allowed = subst AllowedPlace here (All-get_or AllowedPlace t.nodes p None (omega (arith, k.sound.proper.count)) k.sound.proper.each)

  -- a live target of a flow lists the order's destination
  flow_listed : (next offset target : ℕ) (order : Order) → node.body ≡ body.Flow next offset target order → misses (node_at t.nodes target) order.destination ≡ true → ⊥
  flow_listed next offset target order is m =
      k.sound.flawless.listing p small (ap (node_unlisted t.nodes) here ∙ ap (body_unlisted t.nodes) is ∙ m)

block_listed : (o : Option Node) (d : Exit) → (misses o d ≡ true → ⊥) → is_block o ≡ true → lists o d ≡ true
block_listed None d m b = absurd (false≢true b)
block_listed (Some node) d m b = elim (cases_Bool (lists (Some node) d)) [ inl y ↦ y | inr n ↦ absurd (m (not_from_false _ n)) ]

stopped_whole : (t : Table) → KeptWhole t → (l : ℕ) → KeptWhole (state_changed t l lane.Idle)
stopped_whole t k l = state_changed_whole t k l lane.Idle tt

-- ### on a message

module _ (accepted : Bool) (t : Table) (k : KeptWhole t) (l tick : ℕ) (early : tick ≤ limit) where
  message_whole : (next : ℕ) → next < 512 → StepWhole (on_message accepted t l tick next)
  message_whole next small =
      cond_both (may_send t l tick) _ _ StepWhole
      (λ y. let few : (lane_at t.lanes l).sent < limit = ltb-true (lane_at t.lanes l).sent limit (and_parts _ _ y).0 in
      cond_both accepted _ _ StepWhole (λ _. lane_changed_whole t k l _ ((small, early), omega arith)) (λ _. k))
      (λ _. stopped_whole t k l)

  -- ### on a flow

  flow_whole : (next target : ℕ) (order : Order) → next < 512 → (misses (node_at t.nodes target) order.destination ≡ true → ⊥)
      → StepWhole (on_flow t l tick next target order)
  flow_whole next target order small listed =
      cond_both (takes_order t target order) _ _ StepWhole
      (λ y. let parts = and_parts (is_block (node_at t.nodes target)) _ y in
      state_changed_whole (queued t target (entry.Order order))
      (queued_whole t k target (entry.Order order) (ltb-true _ 4 parts.1) (block_listed (node_at t.nodes target) order.destination listed parts.0))
      l (lane.Running next tick) (small, early))
      (λ _. state_changed_whole t k l (lane.Running next tick) (small, early))

-- ### on a block

arrived_whole : (e : Exit) (tick : ℕ) → AllowedExit e → tick ≤ limit → InRange (arrived e tick)
arrived_whole End tick a early = tt
arrived_whole (Place p) tick a early = (a, early)

module _ (node : Node) (allowed : AllowedNode node) where
  -- an allowed node like this one
  abbrev Follows : Node → Type 0
  Follows other = AllowedNode other × Alike (Some node) (Some other)

  same_follows : Follows node
  same_follows = (allowed, alike_self (Some node))

  after_follows : (rules : Option Entry) → May (Some node) rules → Follows (node_after node rules)
  after_follows None m = same_follows
  after_follows (Some (entry.Pass pass)) m = same_follows
  after_follows (Some (entry.Order order)) m =
      cond_both (ltb 0 order.repeats && order.lasting) _ _ Follows
      (λ _. (turned_allowed node.pattern node.body order.destination allowed m, turned_alike node.pattern node.body order.destination allowed.1 m))
      (λ _. same_follows)

  way_allowed : (rules : Option Entry) (next : Exit) → May (Some node) rules → AllowedExit next → AllowedExit (way rules next)
  way_allowed None next m a = a
  way_allowed (Some (entry.Pass pass)) next m a = a
  way_allowed (Some (entry.Order order)) next m a =
      cond_both (ltb 0 order.repeats) _ _ AllowedExit (λ _. listed_allowed node.body order.destination allowed.1 m) (λ _. a)

module _ (t : Table) (k : KeptWhole t) (l p : ℕ) (node : Node) (here : node_at t.nodes p ≡ Some node) (allowed : AllowedNode node) where
  leaving_whole : (later : ℕ) (next : Exit) (rules : Option Entry) → later ≤ limit → AllowedExit next → May (Some node) rules → StepWhole (leaving t l p later node next rules)
  leaving_whole later next rules early a m =
      let other = node_after node rules in
      let follows = after_follows node allowed rules m in
      let changed = node_changed_whole t k p other follows.0 (subst (λ o. Alike o (Some other)) (sym here) follows.1) in
      let served = rows_changed_whole (node_changed t p other) changed p (rows_used (rows_at t p)) (rows_used_whole _ (rows_at t p) (changed.rows p)) in
      state_changed_whole _ served l (arrived (way rules next) later) (arrived_whole (way rules next) later (way_allowed node allowed rules next m a) early)

  block_whole : (tick period : ℕ) (next : Exit) → AllowedExit next → StepWhole (on_block t l p tick node next period)
  block_whole tick period next a =
      cond_both (leb (tick + period) limit) _ _ StepWhole
      (λ y. leaving_whole (tick + period) next (ruling (rows_at t p)) (leb-true (tick + period) limit y) a
      (subst (λ o. May o (ruling (rows_at t p))) here (ruling_may (node_at t.nodes p) (rows_at t p) (k.rows p))))
      (λ _. stopped_whole t k l)

-- ### a step

module _ (accepted : Bool) (t : Table) (l : ℕ) (k : KeptWhole t) where
  module _ (p tick : ℕ) (small : p < 512) (early : tick ≤ limit) where
    body_whole : (node : Node) → node_at t.nodes p ≡ Some node → (b : Body) → node.body ≡ b → AllowedBody b → StepWhole (on_body accepted t l p tick node b)
    body_whole node here (body.Message next offset event) is a = message_whole accepted t k l tick early next a.0
    body_whole node here (body.Block next period alternatives) is a = block_whole t k l p node here (node_allowed t k p small node here) tick period next a.0
    body_whole node here (body.Flow next offset target order) is a =
        flow_whole accepted t k l tick early next target order a.0 (flow_listed t k p small node here next offset target order is)

    place_whole : (o : Option Node) → node_at t.nodes p ≡ o → StepWhole (on_place accepted t l p tick o)
    place_whole None here = stopped_whole t k l
    place_whole (Some node) here = body_whole node here node.body refl (node_allowed t k p small node here).1

  state_whole : (s : LaneState) → InRange s → StepWhole (on_state accepted t l s)
  state_whole lane.Idle r = k
  state_whole (lane.Running p tick) r = place_whole p tick r.0 r.1 (node_at t.nodes p) refl
  state_whole (lane.Held p tick) r = k

  pub stepped_whole : KeptWhole (stepped accepted t l).table
  stepped_whole = state_whole (lane_at t.lanes l).state (k.lanes l).0

module _ {O : Type 0} (meaning : Meaning O) where
  pub steps_whole : (t : Table) (o : O) (l : ℕ) (answer : Result Step Fault) (t' : Table) (o' : O) → Steps meaning t o l answer t' o' → KeptWhole t → KeptWhole t'
  steps_whole t o l answer t' o' h k = steps_keeps KeptWhole t k meaning l (λ accepted. stepped_whole accepted t l k) o answer t' o' h
