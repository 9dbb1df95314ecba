-- What is asked of the node at a place.
use Rattle.std.specs.Prelude.{ℕ, Bool, false, ◌||◌, List, Some, None, Option, slice_index_or}
use Rattle.words.specs.declared.node.Alternatives.{Alternatives}
use Rattle.words.specs.declared.node.Alternatives.TheVariants as ways
use Rattle.words.specs.declared.node.Body.{Body}
use Rattle.words.specs.declared.node.Body.TheVariants.{Message, Block, Flow}
use Rattle.words.specs.declared.node.Exit.{Exit}
use Rattle.words.specs.declared.node.Node.{Node}
use Rattle.words.specs.Exits.{same}

-- the node at a place, if it has one; there is none at 512 or above
abbrev pub node_at : List (Option Node) → ℕ → Option Node
node_at nodes p = slice_index_or nodes p None

-- where a lane goes at once: the next of a message or a flow. A block lasts, and an empty place leads nowhere
abbrev pub body_onward : Body → Option ℕ
body_onward (Message next offset event) = Some next
body_onward (Block next period alternatives) = None
body_onward (Flow next offset target order) = Some next

abbrev pub onward : Option Node → Option ℕ
onward None = None
onward (Some node) = body_onward node.body

-- a block lists its next and its alternatives
abbrev pub among : Alternatives → Exit → Bool
among ways.None e = false
among (ways.One x) e = same x e
among (ways.Two x y) e = same x e || same y e
among (ways.Three x y z) e = same x e || (same y e || same z e)

abbrev pub body_lists : Body → Exit → Bool
body_lists (Message next offset event) e = false
body_lists (Block next period alternatives) e = same next e || among alternatives e
body_lists (Flow next offset target order) e = false

abbrev pub lists : Option Node → Exit → Bool
lists None e = false
lists (Some node) e = body_lists node.body e
