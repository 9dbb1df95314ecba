-- Tables, and what loading and emptying make of them.
use Rattle.std.specs.Prelude.{ℕ, Bool, false, cond, ◌&&◌, List, replicate, is_some, Some, None, Option, ◌==◌}
use Rattle.words.specs.declared.node.Node.{Node}
use Rattle.rows.specs.Rows.{empty_row, forgotten}
use Rattle.lanes.specs.Lanes.{idle_lanes}
use Rattle.each.specs.Each.{zipped}
use Rattle.structure.specs.Nodes.{node_at}
use Rattle.table.specs.declared.state.Rows.{Rows}
use Rattle.table.specs.declared.state.Table.{Table}

-- two rows in which nothing waits
abbrev pub empty_rows : Rows
empty_rows = record { urgent = empty_row; plain = empty_row }

-- no node, idle lanes, counts of 0, no open check
abbrev pub cleared : Table
cleared = record { nodes = replicate 512 None; rows = replicate 512 empty_rows; lanes = idle_lanes; check = None }

-- ### loading

-- a place has a node already, and the image has one for it
abbrev pub taken : List (Option Node) → List (Option Node) → ℕ → Bool
taken old new p = is_some (node_at old p) && is_some (node_at new p)

-- a node of the image goes to its place
abbrev pub over : Option Node → Option Node → Option Node
over old None = old
over old (Some node) = Some node

-- a place that is loaded has empty rows
abbrev pub fresh : Rows → Option Node → Rows
fresh rows None = rows
fresh rows (Some node) = empty_rows

-- the nodes as they would be
abbrev pub merged : List (Option Node) → List (Option Node) → List (Option Node)
merged old new = zipped over old new

abbrev pub loaded : Table → List (Option Node) → Table
loaded t new = record { nodes = merged t.nodes new; rows = zipped fresh t.rows new; lanes = t.lanes; check = t.check }

-- ### emptying

abbrev pub in_pattern : ℕ → Option Node → Bool
in_pattern pattern None = false
in_pattern pattern (Some node) = node.pattern == pattern

-- for each of the 512 places, whether it has a node of the pattern
abbrev pub marked : ℕ → List (Option Node) → List Bool
marked pattern nodes = zipped (λ _ node. in_pattern pattern node) (replicate 512 false) nodes

abbrev pub without : Option Node → Bool → Option Node
without node mark = cond mark None node

-- the rows of the pattern's places become empty; in all others the repeats of orders to such a place become 0
abbrev pub cleaned : List Bool → Rows → Bool → Rows
cleaned marks rows mark = cond mark empty_rows (record { urgent = forgotten marks rows.urgent; plain = forgotten marks rows.plain })

abbrev pub emptied : Table → ℕ → Table
emptied t pattern = record {
  nodes = zipped without t.nodes (marked pattern t.nodes);
  rows = zipped (cleaned (marked pattern t.nodes)) t.rows (marked pattern t.nodes);
  lanes = t.lanes;
  check = t.check;
}
