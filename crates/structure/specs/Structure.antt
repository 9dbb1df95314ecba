-- The three flaws of structure, each a property of one place among the nodes of a table.
use Rattle.std.specs.Prelude.{◌≡◌, ℕ, zero, suc, Bool, false, not, List, Some, None, Option, nat_le, nat_lt}
use Rattle.words.specs.declared.node.Body.{Body}
use Rattle.words.specs.declared.node.Body.TheVariants.{Message, Block, Flow}
use Rattle.words.specs.declared.node.Exit.{Exit}
use Rattle.words.specs.declared.node.Node.{Node}
use Rattle.structure.specs.Nodes.{node_at, onward, lists}

-- ### late: a message or flow before a live block has an offset of at least its period, or before another one has the larger offset

-- an offset is too large for the node that comes next
abbrev pub body_outruns : ℕ → Body → Bool
body_outruns offset (Message next o event) = nat_lt o offset
body_outruns offset (Block next period alternatives) = nat_le period offset
body_outruns offset (Flow next o target order) = nat_lt o offset

abbrev pub outruns : ℕ → Option Node → Bool
outruns offset None = false
outruns offset (Some node) = body_outruns offset node.body

abbrev pub body_late : List (Option Node) → Body → Bool
body_late nodes (Message next offset event) = outruns offset (node_at nodes next)
body_late nodes (Block next period alternatives) = false
body_late nodes (Flow next offset target order) = outruns offset (node_at nodes next)

abbrev pub node_late : List (Option Node) → Option Node → Bool
node_late nodes None = false
node_late nodes (Some node) = body_late nodes node.body

abbrev pub late : List (Option Node) → ℕ → Bool
late nodes p = node_late nodes (node_at nodes p)

-- ### listing: a flow's live target is no block, or does not list the order's destination

abbrev pub misses : Option Node → Exit → Bool
misses None e = false
misses (Some node) e = not (lists (Some node) e)

abbrev pub body_unlisted : List (Option Node) → Body → Bool
body_unlisted nodes (Message next offset event) = false
body_unlisted nodes (Block next period alternatives) = false
body_unlisted nodes (Flow next offset target order) = misses (node_at nodes target) order.destination

abbrev pub node_unlisted : List (Option Node) → Option Node → Bool
node_unlisted nodes None = false
node_unlisted nodes (Some node) = body_unlisted nodes node.body

abbrev pub unlisted : List (Option Node) → ℕ → Bool
unlisted nodes p = node_unlisted nodes (node_at nodes p)

-- ### loop: from a message or flow the nexts never come to a block or an empty place

-- after so many messages and flows the nexts come to a block or an empty place
abbrev pub ComesOut : List (Option Node) → ℕ → ℕ → Type 0
ComesOut nodes zero p = onward (node_at nodes p) ≡ None
ComesOut nodes (suc k) p = (n : ℕ) × (onward (node_at nodes p) ≡ Some n) × ComesOut nodes k n

-- a block or an empty place is where they come out; a message or flow is well ended
abbrev pub WellEnded : List (Option Node) → ℕ → Type 0
WellEnded nodes p = (k : ℕ) × ComesOut nodes k p

abbrev pub Endless : List (Option Node) → ℕ → Type 0
Endless nodes p = WellEnded nodes p → ⊥
