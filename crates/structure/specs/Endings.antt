-- The book of rules by which messages and flows are well ended.
use Rattle.std.specs.Prelude.{◌≡◌, ℕ, cond, List, Some, None, Option, nat_lt}
use Rattle.rules.specs.declared.book.Rule.{Rule}
use Rattle.rules.specs.Chain.{Derivable}
use Rattle.words.specs.declared.node.Node.{Node}
use Rattle.structure.specs.Nodes.{node_at, onward}
use Rattle.structure.specs.Structure.{WellEnded}

abbrev pub no_rule : Rule
no_rule = record { first = None; second = None; conclusion = None }

-- a next that is a message or flow has to be well ended itself; a block or an empty place asks for nothing
abbrev pub ground_to : ℕ → Option ℕ → Option ℕ
ground_to next None = None
ground_to next (Some further) = Some next

abbrev pub ground_of : List (Option Node) → ℕ → Option ℕ
ground_of nodes next = ground_to next (onward (node_at nodes next))

-- the rule of a place, which has the next given, if it is a message or flow
abbrev pub rule_by : List (Option Node) → ℕ → Option ℕ → Rule
rule_by nodes place None = no_rule
rule_by nodes place (Some next) = record { first = ground_of nodes next; second = None; conclusion = Some place }

abbrev pub ending_rule : List (Option Node) → ℕ → Rule
ending_rule nodes place = rule_by nodes place (onward (node_at nodes place))

-- a book with one rule for each of the 512 places
abbrev pub endings_book : List (Option Node) → ℕ → Rule
endings_book nodes i = cond (nat_lt i 512) (ending_rule nodes i) no_rule

-- By the book follow exactly the messages and flows from which the nexts come to a block or an empty place.
abbrev pub EndedAlike : List (Option Node) → Type 0
EndedAlike nodes = (p : ℕ) →
    (Derivable 512 (endings_book nodes) p → ((next : ℕ) × (onward (node_at nodes p) ≡ Some next)) × WellEnded nodes p)
    × ((next : ℕ) → onward (node_at nodes p) ≡ Some next → WellEnded nodes p → Derivable 512 (endings_book nodes) p)
