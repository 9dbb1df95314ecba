-- What a call changes in a table: one lane, one node, the rows of one place, the open check.
use Rattle.std.specs.Prelude.{ℕ, Bool, true, false, cond, Some, Option, slice_index_or, slice_set}
use Rattle.words.specs.declared.node.Alternatives.{Alternatives}
use Rattle.words.specs.declared.node.Alternatives.TheVariants as ways
use Rattle.words.specs.declared.node.Body.{Body}
use Rattle.words.specs.declared.node.Body.TheVariants.{Message, Block, Flow}
use Rattle.words.specs.declared.node.Entry.{Entry}
use Rattle.words.specs.declared.node.Entry.TheVariants as entry
use Rattle.words.specs.declared.node.Exit.{Exit}
use Rattle.words.specs.declared.node.Node.{Node}
use Rattle.words.specs.Exits.{same}
use Rattle.lanes.specs.declared.lane.Lane.{Lane}
use Rattle.lanes.specs.declared.lane.LaneState.{LaneState}
use Rattle.lanes.specs.Lanes.{lane_at, with_lane}
use Rattle.rows.specs.declared.plain.PlainRow.{PlainRow}
use Rattle.rows.specs.Rows.{joined}
use Rattle.table.specs.declared.state.Rows.{Rows}
use Rattle.table.specs.declared.state.Table.{Table}
use Rattle.table.specs.Tables.{empty_rows}

-- ### one part of a table changed

-- another lane at a number
abbrev pub lane_changed : Table → ℕ → Lane → Table
lane_changed t l lane = record { nodes = t.nodes; rows = t.rows; lanes = with_lane t.lanes l lane; check = t.check }

-- another state for a lane; its count stays
abbrev pub state_changed : Table → ℕ → LaneState → Table
state_changed t l state = lane_changed t l (record { state = state; sent = (lane_at t.lanes l).sent })

-- another node at a place
abbrev pub node_changed : Table → ℕ → Node → Table
node_changed t p node = record { nodes = slice_set t.nodes p (Some node); rows = t.rows; lanes = t.lanes; check = t.check }

-- other rows at a place
abbrev pub rows_changed : Table → ℕ → Rows → Table
rows_changed t p rows = record { nodes = t.nodes; rows = slice_set t.rows p rows; lanes = t.lanes; check = t.check }

-- another check open, or none
abbrev pub check_changed : Table → Option ℕ → Table
check_changed t check = record { nodes = t.nodes; rows = t.rows; lanes = t.lanes; check = check }

-- ### an entry joins a row

abbrev pub is_urgent : Entry → Bool
is_urgent (entry.Pass pass) = pass.urgent
is_urgent (entry.Order order) = order.urgent

-- the row that the urgent mark names
abbrev pub row_of : Rows → Bool → PlainRow
row_of rows true = rows.urgent
row_of rows false = rows.plain

abbrev pub with_row : Rows → Bool → PlainRow → Rows
with_row rows true row = record { urgent = row; plain = rows.plain }
with_row rows false row = record { urgent = rows.urgent; plain = row }

-- the entry stands at the end of the row that its urgent mark names
abbrev pub joined_rows : Rows → Entry → Rows
joined_rows rows e = with_row rows (is_urgent e) (joined (row_of rows (is_urgent e)) e)

-- the rows of a place; nothing waits past the places
abbrev pub rows_at : Table → ℕ → Rows
rows_at t p = slice_index_or t.rows p empty_rows

-- the table with the entry waiting at the place
abbrev pub queued : Table → ℕ → Entry → Table
queued t b e = rows_changed t b (joined_rows (rows_at t b) e)

-- ### a lasting order changes a block

-- an exit takes the slot of the alternative that is d
abbrev pub exchanged : Alternatives → Exit → Exit → Alternatives
exchanged ways.None d e = ways.None
exchanged (ways.One x) d e = ways.One (cond (same x d) e x)
exchanged (ways.Two x y) d e = cond (same x d) (ways.Two e y) (ways.Two x (cond (same y d) e y))
exchanged (ways.Three x y z) d e = cond (same x d) (ways.Three e y z) (cond (same y d) (ways.Three x e z) (ways.Three x y (cond (same z d) e z)))

-- the destination becomes the next, and the old next takes that alternative's slot; where they are equal nothing moves
abbrev pub turned_body : Body → Exit → Body
turned_body (Message next offset event) d = Message next offset event
turned_body (Block next period alternatives) d = Block d period (exchanged alternatives d next)
turned_body (Flow next offset target order) d = Flow next offset target order

abbrev pub turned : Node → Exit → Node
turned node d = record { pattern = node.pattern; body = turned_body node.body d }
