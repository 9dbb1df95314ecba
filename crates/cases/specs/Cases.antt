-- Worked cases, each a list of calls with their answers.
use Rattle.std.specs.Prelude.{ℕ, false, List, [], ◌∷◌, Some, Ok, Err, Result}
use Rattle.std.specs.List.{AllByRecursion}
use Rattle.words.specs.declared.node.Alternatives.TheVariants as ways
use Rattle.words.specs.declared.node.Body.TheVariants as body
use Rattle.words.specs.declared.node.Entry.{Entry}
use Rattle.words.specs.declared.node.Entry.TheVariants as entry
use Rattle.words.specs.declared.node.Exit.TheVariants.{Place}
use Rattle.rows.specs.Entries.{blank}
use Rattle.rows.specs.Rows.{empty_row}
use Rattle.structure.specs.declared.judge.Flaw.{Flaw}
use Rattle.structure.specs.declared.judge.Flaw.TheVariants.{Late, Loop}
use Rattle.table.specs.declared.fault.Fault.TheVariants as table
use Rattle.reach.specs.declared.fault.Fault.TheVariants as reach
use Rattle.reach.specs.declared.line.Letter.TheVariants as letter
use Rattle.reach.specs.declared.line.Line.{Line}
use Rattle.steps.specs.declared.answer.Step.TheVariants.{Sent, Waits, Queued, Lost, Took}
use Rattle.calls.specs.declared.fault.Fault.{Fault}
use Rattle.calls.specs.declared.fault.Fault.TheVariants.{Below, Row}
use Rattle.cases.specs.Plays.{Act, Act.load, Act.start, Act.command, Act.check, Act.remove, Act.release, Act.step, Act.take, Act.lawful, Act.node, Act.rows, Case, Holds}

-- ### words

-- a message at 0 before a block at 1, whose alternative is 2; a message at 2 before a block at 3; a flow at 4, which orders the block at 1 to
-- 2, before a block at 5. The patterns are 1, 2 and 3.
abbrev pub image_a : List ℕ
image_a =
    0x1101_0000 ∷ 0x2000_0001 ∷ 0x3000_0000 ∷ 0x4000_0007
    ∷ 0x1201_0001 ∷ 0x2000_0000 ∷ 0x3000_0064 ∷ 0x5000_0002
    ∷ 0x1102_0002 ∷ 0x2000_0003 ∷ 0x3000_000A ∷ 0x4000_0009
    ∷ 0x1202_0003 ∷ 0x2000_0001 ∷ 0x3000_0032
    ∷ 0x1303_0004 ∷ 0x2000_0005 ∷ 0x3000_0000 ∷ 0x6000_0001 ∷ 0x7010_0002
    ∷ 0x1203_0005 ∷ 0x2000_0FFF ∷ 0x3000_0014
    ∷ 0xF000_0006 ∷ []

-- a message before a block of period 100; the offset is the one given in its word
abbrev pub before_block : ℕ → List ℕ
before_block offset = 0x1101_0000 ∷ 0x2000_0001 ∷ offset ∷ 0x4000_0007 ∷ 0x1201_0001 ∷ 0x2000_0000 ∷ 0x3000_0064 ∷ 0xF000_0002 ∷ []

-- two messages of equal offset that name each other
abbrev pub circle : List ℕ
circle = 0x1101_0000 ∷ 0x2000_0001 ∷ 0x3000_0005 ∷ 0x4000_0007 ∷ 0x1101_0001 ∷ 0x2000_0000 ∷ 0x3000_0005 ∷ 0x4000_0007 ∷ 0xF000_0002 ∷ []

-- one visit to 2; the same, lasting
abbrev pub to_two : ℕ
to_two = 0x7010_0002

abbrev pub to_two_lasting : ℕ
to_two_lasting = 0x7018_0002

-- ### acts

abbrev pub load_a : Act
load_a = load image_a (Ok 6)

abbrev pub starts : ℕ → ℕ → ℕ → Act
starts lane place tick = start lane place tick (Ok tt)

abbrev pub commands : ℕ → ℕ → Act
commands block word = command block word (Ok tt)

-- number 13; another place may be told
abbrev pub refused_for_reach : {X : Type 0} → ℕ → Result X Fault
refused_for_reach place = Err (Below (reach.Reach place))

abbrev pub flawed : Flaw → Result ℕ Fault
flawed flaw = Err (Below (reach.Table (table.Flaw flaw)))

-- lines by their letter
abbrev pub by_lane : ℕ → ℕ → Line
by_lane place lane = record { place = place; letter = letter.Lane; first = lane; second = 0 }

abbrev pub by_next : ℕ → ℕ → Line
by_next place earlier = record { place = place; letter = letter.Next; first = earlier; second = 0 }

abbrev pub by_queue : ℕ → ℕ → Line
by_queue place block = record { place = place; letter = letter.Queue; first = block; second = 0 }

abbrev pub by_flow : ℕ → ℕ → ℕ → Line
by_flow place flow target = record { place = place; letter = letter.Flow; first = flow; second = target }

-- a message with event 7 of lane 0
abbrev pub taken_due : ℕ → Act
taken_due due = take (Some (record { lane = 0; event = 7; due = due }))

-- an order to 2, not lasting and not urgent, good for so many visits
abbrev pub order_to_two : ℕ → Entry
order_to_two repeats = entry.Order (record { repeats = repeats; lasting = false; urgent = false; destination = Place 2 })

-- ### cases

-- acts with an outlet for 16 messages
abbrev pub case : List Act → Case
case acts = record { capacity = 16; acts = acts }

-- an image of six nodes is loaded
abbrev pub six_nodes : Case
six_nodes = case (load_a ∷ [])

-- so is an image of none
abbrev pub no_node : Case
no_node = case (load (0xF000_0000 ∷ []) (Ok 0) ∷ [])

-- a lane that runs between 0 and 1 leaves pattern 2 free
abbrev pub pattern_free : Case
pattern_free = case (load_a ∷ starts 0 0 0 ∷ check 2 (Ok 2) ∷ [])

-- an order to 2 that waits at 1 leads the lane there: the check is refused, and a chain shows why
abbrev pub order_waits : Case
order_waits = case (
    load_a ∷ starts 0 0 0 ∷ check 2 (Ok 2) ∷ release 2 (Ok tt) ∷ commands 1 to_two
    ∷ check 2 (refused_for_reach 2) ∷ lawful (by_lane 0 0 ∷ by_next 1 0 ∷ by_queue 2 1 ∷ []) ∷ [])

-- with a second lane at the flow, 2 is come to without an order that waits: by the flow at 4 and its target 1
abbrev pub flow_orders : Case
flow_orders = case (
    load_a ∷ starts 0 0 0 ∷ starts 1 4 0
    ∷ check 2 (refused_for_reach 2) ∷ lawful (by_lane 0 0 ∷ by_lane 4 1 ∷ by_next 1 0 ∷ by_flow 2 4 1 ∷ []) ∷ [])

-- the lane at the flow alone never comes to 1, so pattern 2 may go; the order that it queues later holds a start back
abbrev pub removed_before : Case
removed_before = case (
    load_a ∷ starts 1 4 0 ∷ check 2 (Ok 2) ∷ remove 2 (Ok tt) ∷ step 1 (Ok Queued)
    ∷ start 0 0 0 (refused_for_reach 2) ∷ [])

-- where it queues the order first, the removal takes the order's repeats, and the start is accepted
abbrev pub removed_after : Case
removed_after = case (
    load_a ∷ starts 1 4 0 ∷ step 1 (Ok Queued) ∷ check 2 (Ok 2) ∷ remove 2 (Ok tt)
    ∷ rows 1 (record { urgent = empty_row; plain = record { count = 1; entries = order_to_two 0 ∷ blank ∷ blank ∷ blank ∷ [] } })
    ∷ starts 0 0 0 ∷ [])

-- with room for one message: the lane sends from 0, takes 0 at the block 1, and waits until the message is taken
abbrev pub room_for_one : Case
room_for_one = record {
  capacity = 1;
  acts =
      load_a ∷ starts 0 0 1000 ∷ step 0 (Ok Sent) ∷ step 0 (Ok (Took 0)) ∷ step 0 (Ok Waits) ∷ taken_due 1000
      ∷ step 0 (Ok Sent) ∷ taken_due 1100 ∷ [];
}

-- a lasting order at the block 1 makes 2 its next, and its old next, 0, the alternative
abbrev pub lasting_order : Case
lasting_order = case (
    load_a ∷ commands 1 to_two_lasting ∷ starts 0 0 0 ∷ step 0 (Ok Sent) ∷ step 0 (Ok (Took 2))
    ∷ node 1 (Some (record { pattern = 1; body = body.Block (Place 2) 100 (ways.One (Place 0)) })) ∷ [])

-- before a block of period 100, an offset of 100 is late (8), told at the message, and one of 99 is not
abbrev pub late_message : Case
late_message = case (load (before_block 0x3000_0064) (flawed (Late 0)) ∷ load (before_block 0x3000_0063) (Ok 2) ∷ [])

-- messages that name each other are a loop (9)
abbrev pub loop : Case
loop = case (load circle (flawed (Loop 0)) ∷ [])

-- a fifth plain entry is refused (12), and a flow's order to a row of four is lost
abbrev pub full_row : Case
full_row = case (
    load_a ∷ commands 1 to_two ∷ commands 1 to_two ∷ commands 1 to_two ∷ commands 1 to_two ∷ command 1 to_two (Err (Row 1))
    ∷ starts 1 4 0 ∷ step 1 (Ok Lost) ∷ [])

unfoldable pub cases : List Case
cases =
    six_nodes ∷ no_node ∷ pattern_free ∷ order_waits ∷ flow_orders ∷ removed_before ∷ removed_after ∷ room_for_one ∷ lasting_order
    ∷ late_message ∷ loop ∷ full_row ∷ []

-- every case holds
unfoldable pub AllHold : Type 0
AllHold = AllByRecursion Holds cases
