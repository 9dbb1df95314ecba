-- A step brings nothing new into reach: the lane goes where a ground leads already, and what a block or a row has then, a ground gave before.
use Rattle.std.proofs.Common.{◌≡◌, ℕ, ◌+◌, ◌<◌, Bool, true, ◌&&◌, eqb, ltb, leb, ◌⊎◌, set, Some, None, Option, sym, refl, ap, ◌∙◌, subst, ⊎_elim}
use lib.Seq.{set-get_or}
use Rattle.std.proofs.lemmas.Bool.{ltb-true, cond_both, and_parts, false≢true}
use Rattle.words.specs.declared.node.Body.{Body}
use Rattle.words.specs.declared.node.Body.TheVariants as body
use Rattle.words.specs.declared.node.Entry.{Entry}
use Rattle.words.specs.declared.node.Entry.TheVariants as entry
use Rattle.words.specs.declared.node.Exit.{Exit}
use Rattle.words.specs.declared.node.Exit.TheVariants.{End, Place}
use Rattle.words.specs.declared.node.Node.{Node}
use Rattle.words.specs.declared.node.Order.{Order}
use Rattle.lanes.specs.declared.lane.LaneState.{LaneState}
use Rattle.lanes.specs.declared.lane.LaneState.TheVariants.{Idle, Running, Held}
use Rattle.lanes.specs.Lanes.{lane_at}
use Rattle.structure.specs.Nodes.{node_at}
use Rattle.table.specs.declared.state.Rows.{Rows}
use Rattle.table.specs.declared.state.Table.{Table}
use Rattle.table.specs.Tables.{empty_rows, in_pattern}
use Rattle.table.specs.Changes.{lane_changed, state_changed, node_changed, rows_changed, row_of, rows_at, queued}
use Rattle.reach.specs.declared.line.Letter.TheVariants as letter
use Rattle.reach.specs.Scenes.{scene_of, Stands, BodyNext, Next, BodyBlock, Block, Ordered, BodyFlow, Flow}
use Rattle.reach.specs.Chains.{InReach}
use Rattle.reach.specs.Laws.{Within, Fewer}
use Rattle.reach.specs.Book.{body_is_block, is_block}
use Rattle.reach.proofs.Sets.{set_cases}
use Rattle.reach.proofs.Within.{fewer, moved, joined, turned_within}
use Rattle.steps.specs.Limits.{limit, has_room}
use Rattle.steps.specs.Steps.{Stepped, stepped, on_state, on_place, on_body, on_message, on_flow, on_block, leaving, may_send, takes_order, ruling, rows_used, way, node_after, arrived}
use Rattle.uses.proofs.Outcomes.{none_some}
use Rattle.uses.proofs.Used.{ruling_waits, ordered_used}
use Rattle.uses.proofs.Calm.{Calm, calm_nodes, calm_same, calm_idle, lane_reach, next_reach, queue_reach, flow_reach}

-- every lane that is not idle is at a place of the table
abbrev pub Placed : Table → Type 0
Placed t = (l p : ℕ) → Stands (lane_at t.lanes l).state p → p < 512

abbrev StepCalm : Table → Stepped → Type 0
StepCalm t s = Calm t s.table

-- ### a block after a visit

module _ (p : ℕ) (rows : Rows) where
  -- an order with repeats that rules at the block leads to a place in reach
  order_reach : (n : Table) → InReach (scene_of n) p → Block (node_at n.nodes p) → rows_at n p ≡ rows → (order : Order) → ruling rows ≡ Some (entry.Order order)
      → ltb 0 order.repeats ≡ true → (q : ℕ) → q < 512 → order.destination ≡ Place q → InReach (scene_of n) q
  order_reach n here block wait order rules some q small e =
      queue_reach n p q small here block (subst (λ r. Ordered r q) (sym wait) (ruling_waits q rows (entry.Order order) rules (ltb-true 0 order.repeats some, e)))

  -- the block as it was
  same_within : (n : Table) (node : Node) → node_at n.nodes p ≡ Some node → Within (scene_of (node_changed n p node)) (scene_of n)
  same_within n node is =
      let nodes : set n.nodes p (Some node) ≡ n.nodes = ap (set n.nodes p) (sym is) ∙ set-get_or n.nodes p None in
      subst (λ x. Within (scene_of (record { nodes = x; rows = n.rows; lanes = n.lanes; check = n.check })) (scene_of n)) (sym nodes) (λ q r. r)

  after_within : (n : Table) (node : Node) → node_at n.nodes p ≡ Some node → Block (Some node) → rows_at n p ≡ rows → (rules : Option Entry) → ruling rows ≡ rules
      → Within (scene_of (node_changed n p (node_after node rules))) (scene_of n)
  after_within n node is block wait None rules = same_within n node is
  after_within n node is block wait (Some (entry.Pass pass)) rules = same_within n node is
  after_within n node is block wait (Some (entry.Order order)) rules =
      cond_both (ltb 0 order.repeats && order.lasting) _ _ (λ x. Within (scene_of (node_changed n p x)) (scene_of n))
      (λ y. turned_within n p node order.destination is
      (λ q small e here. order_reach n here (subst Block (sym is) block) wait order rules (and_parts (ltb 0 order.repeats) order.lasting y).0 q small e))
      (λ _. same_within n node is)

after_pattern : (node : Node) (rules : Option Entry) → (node_after node rules).pattern ≡ node.pattern
after_pattern node None = refl
after_pattern node (Some (entry.Pass pass)) = refl
after_pattern node (Some (entry.Order order)) = cond_both (ltb 0 order.repeats && order.lasting) _ _ (λ (x : Node). x.pattern ≡ node.pattern) (λ _. refl) (λ _. refl)

-- the rows of a place after a visit
used_fewer : (n : Table) (p : ℕ) → Fewer (scene_of (rows_changed n p (rows_used (rows_at n p)))) (scene_of n)
used_fewer n p letter.Lane m k q g = g
used_fewer n p letter.Next m k q g = g
used_fewer n p letter.Queue m k q g = (
  g.0,
  ⊎_elim (λ new. subst (λ x. Ordered (rows_at n x) q) (sym new.0) (ordered_used q (rows_at n p) new.1)) (λ old. old)
      (set_cases (λ r. Ordered r q) n.rows p m (rows_used (rows_at n p)) empty_rows g.1),
  g.2,
)
used_fewer n p letter.Flow m k q g = g

-- ### a step from a place

arrived_at : (exit : Exit) (tick q : ℕ) → Stands (arrived exit tick) q → exit ≡ Place q
arrived_at End tick q h = absurd h
arrived_at (Place p) tick q h = ap Place h

live_block : (node : Option Node) → is_block node ≡ true → Block node
live_block None y = absurd (false≢true y)
live_block (Some node) y = blocks node.body y
  where
    blocks : (x : Body) → body_is_block x ≡ true → BodyBlock x
    blocks (body.Message next offset event) h = absurd (false≢true h)
    blocks (body.Block next period alternatives) h = tt
    blocks (body.Flow next offset target order) h = absurd (false≢true h)

module _ (t : Table) (l p tick : ℕ) (small : p < 512) (at : (lane_at t.lanes l).state ≡ Running p tick) (node : Node) (is : node_at t.nodes p ≡ Some node) where
  -- the lane's place is in reach while it is there
  here : (n : Table) → n.lanes ≡ t.lanes → InReach (scene_of n) p
  here n same = lane_reach n l p small (subst (λ s. Stands s p) (sym (ap (λ x. (lane_at x l).state) same ∙ at)) refl)

  -- ### on a message or a flow: to the next

  onward : (n : Table) → n.lanes ≡ t.lanes → n.nodes ≡ t.nodes → (next : ℕ) → ((q : ℕ) → next ≡ q → Next (Some node) q)
      → (later sent : ℕ) → Within (scene_of (lane_changed n l (record { state = Running next later; sent = sent }))) (scene_of n)
  onward n lanes nodes next leads later sent =
      moved n l (record { state = Running next later; sent = sent })
      (λ q fits e. next_reach n p q fits (here n lanes) (subst (λ o. Next o q) (sym (ap (λ x. node_at x p) nodes ∙ is)) (leads q e)))

  message_calm : (accepted : Bool) (next : ℕ) → ((q : ℕ) → next ≡ q → Next (Some node) q) → Calm t (on_message accepted t l tick next).table
  message_calm accepted next leads =
      let sent : ℕ = (lane_at t.lanes l).sent in
      let go : Table = lane_changed t l (record { state = Running next tick; sent = sent + 1 }) in
      cond_both (may_send t l tick) _ _ (StepCalm t)
      (λ _. cond_both accepted _ _ (StepCalm t)
      (λ _. calm_nodes t go refl refl (onward t refl refl next leads tick (sent + 1))) (λ _. calm_same t))
      (λ _. calm_idle t l)

  flow_calm : (next target : ℕ) (order : Order) → ((q : ℕ) → next ≡ q → Next (Some node) q) → ((q : ℕ) → order.destination ≡ Place q → Flow (Some node) target q)
      → Calm t (on_flow t l tick next target order).table
  flow_calm next target order leads flows =
      let sent : ℕ = (lane_at t.lanes l).sent in
      let full : Table = queued t target (entry.Order order) in
      let go : Table → Table = λ n. state_changed n l (Running next tick) in
      cond_both (takes_order t target order) _ _ (StepCalm t)
      (λ y.
      let block : Block (node_at t.nodes target) = live_block (node_at t.nodes target) (and_parts (is_block (node_at t.nodes target)) (has_room (row_of (rows_at t target) order.urgent)) y).0 in
      calm_nodes t (go full) refl refl (λ q r.
      joined t target (entry.Order order)
      (λ d fits aims there. flow_reach t p target d fits (here t refl) there (subst (λ o. Flow o target d) (sym is) (flows d aims.1)) block) q
      (onward full refl refl next leads tick sent q r)))
      (λ _. calm_nodes t (go t) refl refl (onward t refl refl next leads tick sent))

  -- ### on a block: by the way that the ruling entry says

  module _ (next : Exit) (leads : (q : ℕ) → next ≡ Place q → Next (Some node) q) (block : Block (Some node)) where
    next_there : (q : ℕ) → q < 512 → next ≡ Place q → InReach (scene_of t) q
    next_there q fits e = next_reach t p q fits (here t refl) (subst (λ o. Next o q) (sym is) (leads q e))

    way_there : (rules : Option Entry) → ruling (rows_at t p) ≡ rules → (q : ℕ) → q < 512 → way rules next ≡ Place q → InReach (scene_of t) q
    way_there None rules q fits e = next_there q fits e
    way_there (Some (entry.Pass pass)) rules q fits e = next_there q fits e
    way_there (Some (entry.Order order)) rules q fits e =
        cond_both (ltb 0 order.repeats) _ _ (λ (x : Exit). x ≡ Place q → InReach (scene_of t) q)
        (λ y. order_reach p (rows_at t p) t (here t refl) (subst Block (sym is) block) refl order rules y q fits)
        (λ _. next_there q fits) e

    leaving_calm : (later : ℕ) → Calm t (leaving t l p later node next (ruling (rows_at t p))).table
    leaving_calm later =
        let rules : Option Entry = ruling (rows_at t p) in
        let after : Node = node_after node rules in
        let gone : Table = state_changed t l (arrived (way rules next) later) in
        let was : (P : Option Node → Type 0) (m : ℕ) → P (node_at (set t.nodes p (Some after)) m) → ((m ≡ p) × P (Some after)) ⊎ P (node_at t.nodes m) =
        λ P m h. set_cases P t.nodes p m (Some after) None h in
        record {
          within = λ q r.
              moved t l _ (λ d fits h. way_there rules refl d fits (arrived_at (way rules next) later d h)) q
              (after_within p (rows_at t p) gone node is block refl rules refl q
              (fewer (scene_of (node_changed gone p after)) _ (used_fewer (node_changed gone p after) p) q r));
          empty = λ m r h. ⊎_elim (λ new. absurd (none_some after (sym new.1))) (λ old. old) (was (λ o. o ≡ None) m h);
          pattern = λ k m r h.
              ⊎_elim
              (λ new. ap (λ x. in_pattern k (node_at t.nodes x)) new.0 ∙ ap (in_pattern k) is ∙ ap (λ x. eqb x k) (sym (after_pattern node rules)) ∙ new.1)
              (λ old. old) (was (λ o. in_pattern k o ≡ true) m h);
          check = λ k h. h;
        }

    block_calm : (period : ℕ) → Calm t (on_block t l p tick node next period).table
    block_calm period =
        cond_both (leb (tick + period) limit) _ _ (StepCalm t)
        (λ _. leaving_calm (tick + period)) (λ _. calm_idle t l)

  body_calm : (accepted : Bool) (x : Body) → node.body ≡ x → Calm t (on_body accepted t l p tick node x).table
  body_calm accepted (body.Message next offset event) e = message_calm accepted next (λ q h. subst (λ x. BodyNext x q) (sym e) h)
  body_calm accepted (body.Block next period alternatives) e = block_calm next (λ q h. subst (λ x. BodyNext x q) (sym e) h) (subst BodyBlock (sym e) tt) period
  body_calm accepted (body.Flow next offset target order) e =
      flow_calm next target order (λ q h. subst (λ x. BodyNext x q) (sym e) h) (λ q h. subst (λ x. BodyFlow x target q) (sym e) (refl, h))

-- ### a step

place_calm : (accepted : Bool) (t : Table) (l p tick : ℕ) → p < 512 → (lane_at t.lanes l).state ≡ Running p tick → (node : Option Node) → node_at t.nodes p ≡ node
    → Calm t (on_place accepted t l p tick node).table
place_calm accepted t l p tick small at None is = calm_idle t l
place_calm accepted t l p tick small at (Some node) is = body_calm t l p tick small at node is accepted node.body refl

state_calm : (accepted : Bool) (t : Table) (l : ℕ) → Placed t → (s : LaneState) → (lane_at t.lanes l).state ≡ s → Calm t (on_state accepted t l s).table
state_calm accepted t l placed Idle at = calm_same t
state_calm accepted t l placed (Running p tick) at = place_calm accepted t l p tick (placed l p (subst (λ s. Stands s p) (sym at) refl)) at (node_at t.nodes p) refl
state_calm accepted t l placed (Held p tick) at = calm_same t

pub step_calm : (accepted : Bool) (t : Table) (l : ℕ) → Placed t → Calm t (stepped accepted t l).table
step_calm accepted t l placed = state_calm accepted t l placed (lane_at t.lanes l).state refl
