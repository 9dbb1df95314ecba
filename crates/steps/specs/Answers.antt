-- What each answer of a step says: where the lane was, and what has become of the table.
use Rattle.std.specs.Prelude.{◌≡◌, ℕ, ◌+◌, true, false, leb, ◌⊎◌, Some, None, Option, nat_le}
use Rattle.words.specs.declared.node.Body.TheVariants as body
use Rattle.words.specs.declared.node.Alternatives.{Alternatives}
use Rattle.words.specs.declared.node.Entry.TheVariants as entry
use Rattle.words.specs.declared.node.Exit.{Exit}
use Rattle.words.specs.declared.node.Exit.TheVariants.{End, Place}
use Rattle.words.specs.declared.node.Node.{Node}
use Rattle.words.specs.declared.node.Order.{Order}
use Rattle.lanes.specs.declared.lane.LaneState.TheVariants as lane
use Rattle.lanes.specs.Lanes.{lane_at}
use Rattle.structure.specs.Nodes.{node_at}
use Rattle.table.specs.declared.state.Table.{Table}
use Rattle.table.specs.Changes.{lane_changed, state_changed, node_changed, rows_changed, rows_at, queued}
use Rattle.steps.specs.declared.answer.Step.{Step}
use Rattle.steps.specs.declared.answer.Step.TheVariants.{Idle, Held, Range, Sent, Waits, Queued, Lost, Took, Ended}
use Rattle.steps.specs.Limits.{limit}
use Rattle.steps.specs.Steps.{may_send, takes_order, ruling, rows_used, way, node_after}

-- the lane is running at a place, at a tick, and the place has the node
pub record On (t : Table) (l p tick : ℕ) (node : Node) : Type 0 where
  pub running : (lane_at t.lanes l).state ≡ lane.Running p tick
  pub live : node_at t.nodes p ≡ Some node

-- the lane is on a message with this next, which may or may not be sent at the tick
abbrev pub OnMessage : Table → ℕ → ℕ → ℕ → Type 0
OnMessage t l tick next = (p : ℕ) × (node : Node) × (offset : ℕ) × (event : ℕ) × On t l p tick node × (node.body ≡ body.Message next offset event)

-- the lane is on a flow with this next, target and order
abbrev pub OnFlow : Table → ℕ → ℕ → ℕ → ℕ → Order → Type 0
OnFlow t l tick next target order = (p : ℕ) × (node : Node) × (offset : ℕ) × On t l p tick node × (node.body ≡ body.Flow next offset target order)

-- the lane is on a block at p with this next and period
abbrev pub OnBlock : Table → ℕ → ℕ → ℕ → Node → Exit → ℕ → Type 0
OnBlock t l p tick node next period = (alternatives : Alternatives) × On t l p tick node × (node.body ≡ body.Block next period alternatives)

-- the lane leaves the block: the ruling entry is used, a lasting order changes the block, and the period is over
pub record Leaves (t : Table) (l : ℕ) (exit : Exit) : Type 0 where
  pub place : ℕ
  pub tick : ℕ
  pub node : Node
  pub next : Exit
  pub period : ℕ
  pub on : OnBlock t l place tick node next period
  pub in_time : leb (tick + period) limit ≡ true
  pub leads : way (ruling (rows_at t place)) next ≡ exit

-- the block and its rows after the visit
abbrev pub visited : (t : Table) (p : ℕ) (node : Node) → Table
visited t p node = rows_changed (node_changed t p (node_after node (ruling (rows_at t p)))) p (rows_used (rows_at t p))

abbrev pub Means : Table → ℕ → Step → Table → Type 0
Means t l Idle after = ((lane_at t.lanes l).state ≡ lane.Idle) × (after ≡ t)
Means t l Held after = ((p : ℕ) × (tick : ℕ) × ((lane_at t.lanes l).state ≡ lane.Held p tick)) × (after ≡ t)
Means t l Range after =
    (((tick : ℕ) × (next : ℕ) × OnMessage t l tick next × (may_send t l tick ≡ false))
    ⊎ ((p : ℕ) × (tick : ℕ) × (node : Node) × (next : Exit) × (period : ℕ) × OnBlock t l p tick node next period × (nat_le (tick + period) limit ≡ false)))
    × (after ≡ state_changed t l lane.Idle)
Means t l Sent after =
    (tick : ℕ) × (next : ℕ) × OnMessage t l tick next × (may_send t l tick ≡ true)
    × (after ≡ lane_changed t l (record { state = lane.Running next tick; sent = (lane_at t.lanes l).sent + 1 }))
Means t l Waits after = ((tick : ℕ) × (next : ℕ) × OnMessage t l tick next × (may_send t l tick ≡ true)) × (after ≡ t)
Means t l Queued after =
    (tick : ℕ) × (next : ℕ) × (target : ℕ) × (order : Order) × OnFlow t l tick next target order × (takes_order t target order ≡ true)
    × (after ≡ state_changed (queued t target (entry.Order order)) l (lane.Running next tick))
Means t l Lost after =
    (tick : ℕ) × (next : ℕ) × (target : ℕ) × (order : Order) × OnFlow t l tick next target order × (takes_order t target order ≡ false)
    × (after ≡ state_changed t l (lane.Running next tick))
Means t l (Took q) after =
    (left : Leaves t l (Place q)) × (after ≡ state_changed (visited t left.place left.node) l (lane.Running q (left.tick + left.period)))
Means t l Ended after =
    ((left : Leaves t l End) × (after ≡ state_changed (visited t left.place left.node) l lane.Idle))
    ⊎ (((p : ℕ) × (tick : ℕ) × ((lane_at t.lanes l).state ≡ lane.Running p tick) × (node_at t.nodes p ≡ None)) × (after ≡ state_changed t l lane.Idle))

-- where there is no such lane, nothing changes
abbrev pub Says : Table → ℕ → Option Step → Table → Type 0
Says t l (Some answer) after = Means t l answer after
Says t l None after = after ≡ t
