-- What decides where lanes can come to, and the four grounds by which a place is come to.
use Rattle.std.specs.Prelude.{◌≡◌, ℕ, ◌<◌, true, ◌⊎◌, List, Some, None, Option, slice_index_or}
use Rattle.words.specs.declared.node.Body.{Body}
use Rattle.words.specs.declared.node.Body.TheVariants as body
use Rattle.words.specs.declared.node.Entry.{Entry}
use Rattle.words.specs.declared.node.Entry.TheVariants as entry
use Rattle.words.specs.declared.node.Exit.TheVariants.{Place}
use Rattle.words.specs.declared.node.Node.{Node}
use Rattle.lanes.specs.declared.lane.Lane.{Lane}
use Rattle.lanes.specs.declared.lane.LaneState.{LaneState}
use Rattle.lanes.specs.declared.lane.LaneState.TheVariants.{Idle, Running, Held}
use Rattle.lanes.specs.declared.record.Lanes.{Lanes}
use Rattle.lanes.specs.Lanes.{lane_at}
use Rattle.rows.specs.declared.plain.PlainRow.{PlainRow}
use Rattle.rows.specs.Rows.{slot}
use Rattle.structure.specs.Nodes.{node_at}
use Rattle.table.specs.declared.state.Rows.{Rows}
use Rattle.table.specs.declared.state.Table.{Table}
use Rattle.table.specs.Tables.{empty_rows, in_pattern}
use Rattle.reach.specs.declared.line.Letter.{Letter}
use Rattle.reach.specs.declared.line.Letter.TheVariants as letter

-- nodes, rows and lanes, side by side: those of a table, or with other lanes that are only tried
pub record Scene : Type 0 where
  pub nodes : List (Option Node)
  pub rows : List Rows
  pub lanes : Lanes Lane

abbrev pub scene_of : Table → Scene
scene_of t = record { nodes = t.nodes; rows = t.rows; lanes = t.lanes }

-- ### what stands where

-- the node at a place, if it is live
abbrev pub node_in : Scene → ℕ → Option Node
node_in s p = node_at s.nodes p

-- the rows of a place; nothing waits past the places
abbrev pub rows_in : Scene → ℕ → Rows
rows_in s p = slice_index_or s.rows p empty_rows

-- a lane by its number; one past the last is idle
abbrev pub lane_in : Scene → ℕ → Lane
lane_in s l = lane_at s.lanes l

-- the place has no node
abbrev pub Empty : Scene → ℕ → Type 0
Empty s p = node_in s p ≡ None

-- the place is live with the pattern number
abbrev pub IsOfPattern : Scene → ℕ → ℕ → Type 0
IsOfPattern s pattern p = in_pattern pattern (node_in s p) ≡ true

-- ### the four grounds

-- the lane is running or held, and at the place
abbrev pub Stands : LaneState → ℕ → Type 0
Stands Idle p = ⊥
Stands (Running at tick) p = at ≡ p
Stands (Held at tick) p = at ≡ p

-- the place is the next of a body, or of the node
abbrev pub BodyNext : Body → ℕ → Type 0
BodyNext (body.Message next offset event) p = next ≡ p
BodyNext (body.Block next period alternatives) p = next ≡ Place p
BodyNext (body.Flow next offset target order) p = next ≡ p

abbrev pub Next : Option Node → ℕ → Type 0
Next None p = ⊥
Next (Some node) p = BodyNext node.body p

abbrev pub BodyBlock : Body → Type 0
BodyBlock (body.Message next offset event) = ⊥
BodyBlock (body.Block next period alternatives) = Unit {0}
BodyBlock (body.Flow next offset target order) = ⊥

-- the place is live with a block
abbrev pub Block : Option Node → Type 0
Block None = ⊥
Block (Some node) = BodyBlock node.body

-- the entry is an order with repeats above 0 to the place
abbrev pub Aims : Entry → ℕ → Type 0
Aims (entry.Pass pass) p = ⊥
Aims (entry.Order order) p = (0 < order.repeats) × (order.destination ≡ Place p)

-- such an order waits in the row, or in one of the rows
abbrev pub Waits : PlainRow → ℕ → Type 0
Waits row p = (k : ℕ) × (k < row.count) × Aims (slot row k) p

abbrev pub Ordered : Rows → ℕ → Type 0
Ordered rows p = Waits rows.urgent p ⊎ Waits rows.plain p

abbrev pub BodyFlow : Body → ℕ → ℕ → Type 0
BodyFlow (body.Message next offset event) b p = ⊥
BodyFlow (body.Block next period alternatives) b p = ⊥
BodyFlow (body.Flow next offset target order) b p = (target ≡ b) × (order.destination ≡ Place p)

-- the node is a flow to the target b, whose order has the place as its destination
abbrev pub Flow : Option Node → ℕ → ℕ → Type 0
Flow None b p = ⊥
Flow (Some node) b p = BodyFlow node.body b p

-- A letter and two numbers are a ground for a place, if the places that they name are come to; an unused number is 0.
-- L: lane m is there. N: it is the next of m. Q: an order to it waits at the block m. F: the flow m orders the block n to it.
abbrev pub Gives : Scene → Letter → ℕ → ℕ → ℕ → Type 0
Gives s letter.Lane m n p = Stands (lane_in s m).state p × (n ≡ 0)
Gives s letter.Next m n p = Next (node_in s m) p × (n ≡ 0)
Gives s letter.Queue m n p = Block (node_in s m) × Ordered (rows_in s m) p × (n ≡ 0)
Gives s letter.Flow m n p = Flow (node_in s m) n p × Block (node_in s n)

-- the places that a letter and its numbers name are in a set
abbrev pub Backed : (ℕ → Type 0) → Letter → ℕ → ℕ → Type 0
Backed S letter.Lane m n = Unit {0}
Backed S letter.Next m n = S m
Backed S letter.Queue m n = S m
Backed S letter.Flow m n = S m × S n
