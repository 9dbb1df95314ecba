-- The tests of each call that come before reach is judged, in their order: the first that fails is told.
use Rattle.std.specs.Prelude.{ℕ, ◌^◌, Bool, cond, Some, None, Ok, Err, Option, Result, nat_lt}
use Rattle.words.specs.declared.fault.Fault.{Fault as WordFault}
use Rattle.words.specs.declared.node.Entry.{Entry}
use Rattle.words.specs.declared.node.Entry.TheVariants as entry
use Rattle.words.specs.declared.node.Node.{Node}
use Rattle.words.specs.Format.{entry_of}
use Rattle.lanes.specs.declared.lane.LaneState.{LaneState}
use Rattle.lanes.specs.declared.lane.LaneState.TheVariants.{Idle, Running, Held}
use Rattle.lanes.specs.Lanes.{lane_at}
use Rattle.rows.specs.Entries.{blank}
use Rattle.structure.specs.Nodes.{node_at, lists}
use Rattle.structure.specs.declared.judge.Flaw.TheVariants.{Listing}
use Rattle.table.specs.declared.fault.Fault.TheVariants as table
use Rattle.table.specs.declared.state.Table.{Table}
use Rattle.table.specs.Changes.{is_urgent, row_of, rows_at}
use Rattle.reach.specs.declared.fault.Fault.TheVariants as reach
use Rattle.reach.specs.Book.{is_block}
use Rattle.steps.specs.Limits.{has_room}
use Rattle.calls.specs.declared.fault.Fault.{Fault}
use Rattle.calls.specs.declared.fault.Fault.TheVariants.{Range, Memory, Busy, Below, State, Row}

-- one refusal, or else the one of a later test
abbrev pub or_else : Option Fault → Option Fault → Option Fault
or_else (Some fault) later = Some fault
or_else None later = later

-- 1: the argument with this number is within its limit
abbrev pub argument : ℕ → Bool → Option Fault
argument k within = cond within None (Some (Range k))

-- 2: the chain memory has 512 lines
abbrev pub lines_enough : ℕ → Option Fault
lines_enough lines = cond (nat_lt lines 512) (Some (Memory 512)) None

-- 3: no check is open
abbrev pub not_busy : Option ℕ → Option Fault
not_busy None = None
not_busy (Some pattern) = Some (Busy pattern)

-- 4: the word is an order or a pass
abbrev pub word_fault : Result Entry WordFault → Option Fault
word_fault (Ok e) = None
word_fault (Err fault) = Some (Below (reach.Table (table.Words fault)))

-- the entry that a word says; what is no entry is read as a blank one, and refused
abbrev pub entry_or_blank : Result Entry WordFault → Entry
entry_or_blank (Ok e) = e
entry_or_blank (Err fault) = blank

abbrev pub entry_in : ℕ → Entry
entry_in word = entry_or_blank (entry_of word)

-- a pass may wait at every live block, an order where the block lists its destination
abbrev pub may_wait : Option Node → Entry → Bool
may_wait node (entry.Pass pass) = is_block node
may_wait node (entry.Order order) = lists node order.destination

-- 10: the entry may wait at the place
abbrev pub listed : Table → ℕ → Entry → Option Fault
listed t block e = cond (may_wait (node_at t.nodes block) e) None (Some (Below (reach.Table (table.Flaw (Listing block)))))

-- 11: the lane is idle
abbrev pub idle_state : ℕ → LaneState → Option Fault
idle_state lane Idle = None
idle_state lane (Running place tick) = Some (State lane)
idle_state lane (Held place tick) = Some (State lane)

-- 12: fewer than four wait in the row that the entry's urgent mark names
abbrev pub room_for : Table → ℕ → Entry → Option Fault
room_for t block e = cond (has_room (row_of (rows_at t block) (is_urgent e))) None (Some (Row block))

-- ### the calls that are judged by reach

abbrev pub start_refusal : Table → ℕ → ℕ → ℕ → ℕ → Option Fault
start_refusal t lane place tick lines =
    or_else (argument 0 (nat_lt lane 8))
    (or_else (argument 1 (nat_lt place 512))
    (or_else (argument 2 (nat_lt tick (2 ^ 48)))
    (or_else (lines_enough lines)
    (or_else (not_busy t.check) (idle_state lane (lane_at t.lanes lane).state)))))

abbrev pub command_refusal : Table → ℕ → ℕ → ℕ → Option Fault
command_refusal t block word lines =
    or_else (argument 0 (nat_lt block 512))
    (or_else (lines_enough lines)
    (or_else (not_busy t.check)
    (or_else (word_fault (entry_of word))
    (or_else (listed t block (entry_in word)) (room_for t block (entry_in word))))))

abbrev pub check_refusal : Table → ℕ → ℕ → Option Fault
check_refusal t pattern lines = or_else (argument 0 (nat_lt pattern 256)) (or_else (lines_enough lines) (not_busy t.check))
