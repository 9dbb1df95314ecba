-- What a step of a lane answers, what it makes of the table, and what it offers to the outlet.
use Rattle.std.specs.Prelude.{ℕ, ◌+◌, Bool, cond, ◌&&◌, Some, None, Option, nat_le, nat_lt}
use Rattle.words.specs.declared.node.Body.{Body}
use Rattle.words.specs.declared.node.Body.TheVariants as body
use Rattle.words.specs.declared.node.Entry.{Entry}
use Rattle.words.specs.declared.node.Entry.TheVariants as entry
use Rattle.words.specs.declared.node.Exit.{Exit}
use Rattle.words.specs.declared.node.Exit.TheVariants.{End, Place}
use Rattle.words.specs.declared.node.Node.{Node}
use Rattle.words.specs.declared.node.Order.{Order}
use Rattle.lanes.specs.declared.lane.LaneState.{LaneState}
use Rattle.lanes.specs.declared.lane.LaneState.TheVariants as lane
use Rattle.lanes.specs.Lanes.{lane_at}
use Rattle.rows.specs.declared.plain.PlainRow.{PlainRow}
use Rattle.rows.specs.Entries.{repeats_of}
use Rattle.rows.specs.Rows.{first_of, spent, left}
use Rattle.structure.specs.Nodes.{node_at}
use Rattle.table.specs.declared.state.Rows.{Rows}
use Rattle.table.specs.declared.state.Table.{Table}
use Rattle.table.specs.Changes.{lane_changed, state_changed, node_changed, rows_changed, row_of, rows_at, queued, turned}
use Rattle.reach.specs.Book.{is_block}
use Rattle.outlets.specs.declared.message.Message.{Message}
use Rattle.steps.specs.declared.answer.Step.{Step}
use Rattle.steps.specs.declared.answer.Step.TheVariants.{Idle, Held, Range, Sent, Waits, Queued, Lost, Took, Ended}
use Rattle.steps.specs.Limits.{limit, has_room}

-- the answer, and the table after it
pub record Stepped : Type 0 where
  pub answer : Step
  pub table : Table

-- the lane becomes idle
abbrev pub stopped : Table → ℕ → Step → Stepped
stopped t l answer = record { answer = answer; table = state_changed t l lane.Idle }

-- nothing changes
abbrev pub stayed : Table → Step → Stepped
stayed t answer = record { answer = answer; table = t }

-- ### on a message

-- With the count at its limit the lane becomes idle, and nothing is offered. (Nor is anything with the tick past its limit, where no use leads to.)
abbrev pub may_send : Table → ℕ → ℕ → Bool
may_send t l tick = nat_lt (lane_at t.lanes l).sent limit && nat_le tick limit

-- where the outlet accepts, the count rises and the lane goes to the next; where it refuses, nothing changes
abbrev pub on_message : Bool → Table → ℕ → ℕ → ℕ → Stepped
on_message accepted t l tick next =
    cond (may_send t l tick)
    (cond accepted
    (record { answer = Sent; table = lane_changed t l (record { state = lane.Running next tick; sent = (lane_at t.lanes l).sent + 1 }) })
    (stayed t Waits))
    (stopped t l Range)

-- ### on a flow

-- the target is a live block whose row has room
abbrev pub takes_order : Table → ℕ → Order → Bool
takes_order t target order = is_block (node_at t.nodes target) && has_room (row_of (rows_at t target) order.urgent)

-- the order joins the target's row, or is lost; either way the lane goes to the next
abbrev pub on_flow : Table → ℕ → ℕ → ℕ → ℕ → Order → Stepped
on_flow t l tick next target order =
    cond (takes_order t target order)
    (record { answer = Queued; table = state_changed (queued t target (entry.Order order)) l (lane.Running next tick) })
    (record { answer = Lost; table = state_changed t l (lane.Running next tick) })

-- ### on a block

-- the oldest entry of a row; a row of more than four, where no use leads to, is read as empty
abbrev pub oldest_in : PlainRow → Option Entry
oldest_in row = cond (nat_le row.count 4) (first_of row) None

-- the first urgent entry rules, or else the first plain one
abbrev pub before_other : Option Entry → Option Entry → Option Entry
before_other (Some e) other = Some e
before_other None other = other

abbrev pub ruling : Rows → Option Entry
ruling rows = before_other (oldest_in rows.urgent) (oldest_in rows.plain)

-- an entry with 0 repeats leaves the row; any other loses a repeat, and leaves at 0
abbrev pub used_by : PlainRow → Option Entry → PlainRow
used_by row None = row
used_by row (Some e) = cond (nat_le (repeats_of e) 1) (left row) (spent row)

abbrev pub used : PlainRow → PlainRow
used row = used_by row (oldest_in row)

abbrev pub rows_used_by : Rows → Option Entry → Rows
rows_used_by rows (Some e) = record { urgent = used rows.urgent; plain = rows.plain }
rows_used_by rows None = record { urgent = rows.urgent; plain = used rows.plain }

abbrev pub rows_used : Rows → Rows
rows_used rows = rows_used_by rows (oldest_in rows.urgent)

-- an order that has repeats leads to its destination, every other case to the next
abbrev pub way : Option Entry → Exit → Exit
way None next = next
way (Some (entry.Pass pass)) next = next
way (Some (entry.Order order)) next = cond (nat_lt 0 order.repeats) order.destination next

-- a lasting order that has repeats makes its destination the next
abbrev pub node_after : Node → Option Entry → Node
node_after node None = node
node_after node (Some (entry.Pass pass)) = node
node_after node (Some (entry.Order order)) = cond (nat_lt 0 order.repeats && order.lasting) (turned node order.destination) node

-- at END the lane is idle
abbrev pub arrived : Exit → ℕ → LaneState
arrived End tick = lane.Idle
arrived (Place p) tick = lane.Running p tick

abbrev pub left_for : Exit → Step
left_for End = Ended
left_for (Place p) = Took p

-- the lane leaves the block at p by the way that the ruling entry says
abbrev pub leaving : Table → ℕ → ℕ → ℕ → Node → Exit → Option Entry → Stepped
leaving t l p later node next rules = record {
  answer = left_for (way rules next);
  table = state_changed (rows_changed (node_changed t p (node_after node rules)) p (rows_used (rows_at t p))) l (arrived (way rules next) later);
}

-- where the tick with the period would pass its limit, the lane becomes idle
abbrev pub on_block : Table → ℕ → ℕ → ℕ → Node → Exit → ℕ → Stepped
on_block t l p tick node next period = cond (nat_le (tick + period) limit) (leaving t l p (tick + period) node next (ruling (rows_at t p))) (stopped t l Range)

-- ### a step

abbrev pub on_body : Bool → Table → ℕ → ℕ → ℕ → Node → Body → Stepped
on_body accepted t l p tick node (body.Message next offset event) = on_message accepted t l tick next
on_body accepted t l p tick node (body.Block next period alternatives) = on_block t l p tick node next period
on_body accepted t l p tick node (body.Flow next offset target order) = on_flow t l tick next target order

-- a lane on an empty place, where no use leads to, has come to the end
abbrev pub on_place : Bool → Table → ℕ → ℕ → ℕ → Option Node → Stepped
on_place accepted t l p tick None = stopped t l Ended
on_place accepted t l p tick (Some node) = on_body accepted t l p tick node node.body

abbrev pub on_state : Bool → Table → ℕ → LaneState → Stepped
on_state accepted t l lane.Idle = stayed t Idle
on_state accepted t l (lane.Running p tick) = on_place accepted t l p tick (node_at t.nodes p)
on_state accepted t l (lane.Held p tick) = stayed t Held

-- a step of a lane, by whether the outlet accepts what it is offered
abbrev pub stepped : Bool → Table → ℕ → Stepped
stepped accepted t l = on_state accepted t l (lane_at t.lanes l).state

-- ### what a step offers: on a message, the lane, the event and the due tick, which is the tick plus the offset

abbrev pub body_offer : Table → ℕ → ℕ → Body → Option Message
body_offer t l tick (body.Message next offset event) = cond (may_send t l tick) (Some (record { lane = l; event = event; due = tick + offset })) None
body_offer t l tick (body.Block next period alternatives) = None
body_offer t l tick (body.Flow next offset target order) = None

abbrev pub place_offer : Table → ℕ → ℕ → Option Node → Option Message
place_offer t l tick None = None
place_offer t l tick (Some node) = body_offer t l tick node.body

abbrev pub state_offer : Table → ℕ → LaneState → Option Message
state_offer t l lane.Idle = None
state_offer t l (lane.Running p tick) = place_offer t l tick (node_at t.nodes p)
state_offer t l (lane.Held p tick) = None

abbrev pub offer_of : Table → ℕ → Option Message
offer_of t l = state_offer t l (lane_at t.lanes l).state
