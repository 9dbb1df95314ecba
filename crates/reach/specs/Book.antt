-- The rule book of a scene: one rule for each lane, and ten for each place.
use Rattle.std.specs.Prelude.{ℕ, ◌-◌, ◌/◌, ◌%◌, Bool, true, false, cond, Some, None, Option, ◌==◌, nat_lt}
use Rattle.words.specs.declared.node.Body.{Body}
use Rattle.words.specs.declared.node.Body.TheVariants as body
use Rattle.words.specs.declared.node.Entry.{Entry}
use Rattle.words.specs.declared.node.Entry.TheVariants as entry
use Rattle.words.specs.declared.node.Exit.{Exit}
use Rattle.words.specs.declared.node.Exit.TheVariants.{End, Place}
use Rattle.words.specs.declared.node.Node.{Node}
use Rattle.lanes.specs.declared.lane.LaneState.{LaneState}
use Rattle.lanes.specs.declared.lane.LaneState.TheVariants.{Idle, Running, Held}
use Rattle.rows.specs.declared.plain.PlainRow.{PlainRow}
use Rattle.rows.specs.Rows.{slot}
use Rattle.rules.specs.declared.book.Rule.{Rule}
use Rattle.rules.specs.declared.chain.Line.{Line as Step}
use Rattle.reach.specs.declared.line.Letter.TheVariants as letter
use Rattle.reach.specs.declared.line.Line.{Line}
use Rattle.reach.specs.declared.source.Source.{Source}
use Rattle.reach.specs.declared.source.Source.TheVariants as source
use Rattle.reach.specs.Scenes.{Scene, node_in, rows_in, lane_in}

-- ### which rule has which number: the lanes first, then ten for each place

abbrev pub rule_count : ℕ
rule_count = 5128

-- the rule of a place: its next, its order as a flow, the four entries of each row
abbrev pub of_place : ℕ → ℕ → Source
of_place p k =
    cond (k == 0) (source.Next p)
    (cond (k == 1) (source.Flow p)
    (cond (nat_lt k 6) (source.Urgent p (k - 2)) (source.Plain p (k - 6))))

-- a number past the book stands for the first lane again
abbrev pub source_of : ℕ → Source
source_of i = cond (nat_lt i 8) (source.Lane i) (cond (nat_lt i rule_count) (of_place ((i - 8) / 10) ((i - 8) % 10)) (source.Lane 0))

-- ### what each rule says

abbrev pub exit_place : Exit → Option ℕ
exit_place End = None
exit_place (Place p) = Some p

abbrev pub state_place : LaneState → Option ℕ
state_place Idle = None
state_place (Running p tick) = Some p
state_place (Held p tick) = Some p

abbrev pub body_next : Body → Option ℕ
body_next (body.Message next offset event) = Some next
body_next (body.Block next period alternatives) = exit_place next
body_next (body.Flow next offset target order) = Some next

abbrev pub next_place : Option Node → Option ℕ
next_place None = None
next_place (Some node) = body_next node.body

abbrev pub body_is_block : Body → Bool
body_is_block (body.Message next offset event) = false
body_is_block (body.Block next period alternatives) = true
body_is_block (body.Flow next offset target order) = false

abbrev pub is_block : Option Node → Bool
is_block None = false
is_block (Some node) = body_is_block node.body

-- where an order with repeats above 0 leads
abbrev pub entry_place : Entry → Option ℕ
entry_place (entry.Pass pass) = None
entry_place (entry.Order order) = cond (nat_lt 0 order.repeats) (exit_place order.destination) None

abbrev pub waiting_place : PlainRow → ℕ → Option ℕ
waiting_place row k = cond (nat_lt k row.count) (entry_place (slot row k)) None

-- the target of a flow; 0 for every other node
abbrev pub body_target : Body → ℕ
body_target (body.Message next offset event) = 0
body_target (body.Block next period alternatives) = 0
body_target (body.Flow next offset target order) = target

abbrev pub target_of : Option Node → ℕ
target_of None = 0
target_of (Some node) = body_target node.body

abbrev pub body_flow_place : Body → Option ℕ
body_flow_place (body.Message next offset event) = None
body_flow_place (body.Block next period alternatives) = None
body_flow_place (body.Flow next offset target order) = exit_place order.destination

abbrev pub flow_place : Option Node → Option ℕ
flow_place None = None
flow_place (Some node) = body_flow_place node.body

abbrev pub rule_by : Scene → Source → Rule
rule_by s (source.Lane l) = record { first = None; second = None; conclusion = state_place (lane_in s l).state }
rule_by s (source.Next p) = record { first = Some p; second = None; conclusion = next_place (node_in s p) }
rule_by s (source.Flow p) = record {
  first = Some p;
  second = Some (target_of (node_in s p));
  conclusion = cond (is_block (node_in s (target_of (node_in s p)))) (flow_place (node_in s p)) None;
}
rule_by s (source.Urgent p k) = record { first = Some p; second = None; conclusion = cond (is_block (node_in s p)) (waiting_place (rows_in s p).urgent k) None }
rule_by s (source.Plain p k) = record { first = Some p; second = None; conclusion = cond (is_block (node_in s p)) (waiting_place (rows_in s p).plain k) None }

abbrev pub reach_rule : Scene → ℕ → Rule
reach_rule s i = rule_by s (source_of i)

-- ### the line that a rule stands for

abbrev pub line_by : Scene → Source → ℕ → Line
line_by s (source.Lane l) p = record { place = p; letter = letter.Lane; first = l; second = 0 }
line_by s (source.Next q) p = record { place = p; letter = letter.Next; first = q; second = 0 }
line_by s (source.Flow q) p = record { place = p; letter = letter.Flow; first = q; second = target_of (node_in s q) }
line_by s (source.Urgent q k) p = record { place = p; letter = letter.Queue; first = q; second = 0 }
line_by s (source.Plain q k) p = record { place = p; letter = letter.Queue; first = q; second = 0 }

abbrev pub line_of : Scene → Step → Line
line_of s step = line_by s (source_of step.rule) step.place
