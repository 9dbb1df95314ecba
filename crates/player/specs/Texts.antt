-- How lanes, waiting entries, steps, messages and chains are written.
use Rattle.std.specs.Prelude.{ℕ, cond, List, ◌++◌, Some, None, codes, decimal, Option, flat_map}
use Rattle.words.specs.declared.node.Entry.{Entry}
use Rattle.words.specs.declared.node.Entry.TheVariants as by
use Rattle.words.specs.declared.node.Order.{Order}
use Rattle.words.specs.declared.node.Exit.{Exit}
use Rattle.words.specs.declared.node.Exit.TheVariants.{End, Place}
use Rattle.lanes.specs.declared.lane.LaneState.{LaneState}
use Rattle.lanes.specs.declared.lane.LaneState.TheVariants.{Idle, Running, Held}
use Rattle.outlets.specs.declared.message.Message.{Message}
use Rattle.reach.specs.declared.line.Letter.{Letter}
use Rattle.reach.specs.declared.line.Letter.TheVariants as letter
use Rattle.reach.specs.declared.line.Line.{Line}
use Rattle.steps.specs.declared.answer.Step.{Step}
use Rattle.steps.specs.declared.answer.Step.TheVariants as came

-- what a lane is doing
abbrev pub state_text : LaneState → List ℕ
state_text Idle = codes "IDLE"
state_text (Running place tick) = codes "RUNNING " ++ decimal place ++ codes " " ++ decimal tick
state_text (Held place tick) = codes "HELD " ++ decimal place ++ codes " " ++ decimal tick

abbrev pub exit_text : Exit → List ℕ
exit_text End = codes "END"
exit_text (Place place) = decimal place

abbrev pub order_text : Order → List ℕ
order_text order = codes "order:" ++ decimal order.repeats ++ codes ":" ++ exit_text order.destination

abbrev pub lasting_text : Order → List ℕ
lasting_text order = codes "order:" ++ decimal order.repeats ++ codes ":" ++ exit_text order.destination ++ codes ":lasting"

abbrev pub entry_text : Entry → List ℕ
entry_text (by.Pass pass) = codes "pass:" ++ decimal pass.repeats
entry_text (by.Order order) = cond order.lasting (lasting_text order) (order_text order)

-- entries, each behind a blank
abbrev pub entries_text : List Entry → List ℕ
entries_text = flat_map (λ entry. codes " " ++ entry_text entry)

-- ### steps and messages

abbrev pub step_text : Step → List ℕ
step_text came.Idle = codes "IDLE"
step_text came.Held = codes "HELD"
step_text came.Range = codes "RANGE"
step_text came.Sent = codes "SENT"
step_text came.Waits = codes "WAITS"
step_text came.Queued = codes "QUEUED"
step_text came.Lost = codes "LOST"
step_text (came.Took place) = codes "TOOK " ++ decimal place
step_text came.Ended = codes "ENDED"

-- a message that was taken: its lane, its event and when it is due
abbrev pub taken_text : Option Message → List ℕ
taken_text None = codes "NOTHING"
taken_text (Some m) = decimal m.lane ++ codes " " ++ decimal m.event ++ codes " " ++ decimal m.due

-- ### chains

abbrev pub letter_text : Letter → List ℕ
letter_text letter.Lane = codes "L"
letter_text letter.Next = codes "N"
letter_text letter.Queue = codes "Q"
letter_text letter.Flow = codes "F"

-- a place, its letter and two numbers
abbrev pub ground_text : Line → List ℕ
ground_text l = decimal l.place ++ codes " " ++ letter_text l.letter ++ codes " " ++ decimal l.first ++ codes " " ++ decimal l.second

-- each line of a chain on a line of its own, behind two blanks
abbrev pub chain_text : List Line → List ℕ
chain_text = flat_map (λ line. codes "\n  " ++ ground_text line)
