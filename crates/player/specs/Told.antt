-- What an answer tells, and how that is written.
use Rattle.std.specs.Prelude.{ℕ, List, ◌++◌, Some, None, vec_items, codes, decimal, Option}
use Rattle.words.specs.declared.node.Entry.{Entry}
use Rattle.lanes.specs.declared.lane.Lane.{Lane}
use Rattle.rows.specs.Rows.{waiting}
use Rattle.outlets.specs.declared.message.Message.{Message}
use Rattle.reach.specs.declared.line.Line.{Line}
use Rattle.steps.specs.declared.answer.Step.{Step}
use Rattle.readout.specs.Lines.{refusal_text}
use Rattle.player.specs.declared.answer.Answer.{Answer}
use Rattle.player.specs.declared.answer.Answer.TheVariants as answer
use Rattle.script.specs.declared.name.Name.{Name}
use Rattle.player.specs.declared.refusal.Refusal.{Refusal}
use Rattle.script.specs.Names.{name_text}
use Rattle.player.specs.Texts.{state_text, entries_text, step_text, taken_text, chain_text}

-- an answer with the words, lines and entries that it gives
pub data Told : Type 0 where
  lines_now : ℕ → Told
  loaded : ℕ → Told
  wrote : List ℕ → Told
  accepted : Name → Told
  granted : ℕ → Told
  no_permit : Name → Told
  stepped : Step → Told
  taken : Option Message → Told
  walker : ℕ → Lane → Told
  queues : ℕ → List Entry → List Entry → Told
  in_reach : List Line → Told
  out_of_reach : Told
  refused : Name → Refusal → List Line → Told

abbrev pub told : Answer → Told
told (answer.Memory lines) = lines_now lines
told (answer.Loaded nodes) = loaded nodes
told (answer.Wrote words) = wrote (vec_items words)
told (answer.Accepted name) = accepted name
told (answer.Granted pattern) = granted pattern
told (answer.NoPermit name) = no_permit name
told (answer.Stepped step) = stepped step
told (answer.Taken message) = taken message
told (answer.Lane number it) = walker number it
told (answer.Rows block rows) = queues block (waiting rows.urgent) (waiting rows.plain)
told (answer.InReach chain) = in_reach (vec_items chain)
told answer.OutOfReach = out_of_reach
told (answer.Refused name refusal chain) = refused name refusal (vec_items chain)

abbrev pub refused_text : Name → Refusal → List Line → List ℕ
refused_text name refusal chain = name_text name ++ codes " " ++ refusal_text refusal.number refusal.layer refusal.place ++ chain_text chain

-- what is written of an answer; of the words of an image nothing is said here
abbrev pub text_of : Told → Option (List ℕ)
text_of (lines_now lines) = Some (codes "memory " ++ decimal lines)
text_of (loaded nodes) = Some (codes "load LOADED " ++ decimal nodes ++ codes " NODES")
text_of (wrote words) = None
text_of (accepted name) = Some (name_text name ++ codes " ACCEPTED")
text_of (granted pattern) = Some (codes "check GRANTED " ++ decimal pattern)
text_of (no_permit name) = Some (name_text name ++ codes " NO PERMIT")
text_of (stepped step) = Some (codes "step " ++ step_text step)
text_of (taken message) = Some (codes "take " ++ taken_text message)
text_of (walker number it) = Some (codes "lane " ++ decimal number ++ codes " " ++ state_text it.state ++ codes " " ++ decimal it.sent)
text_of (queues block urgent plain) = Some (codes "row " ++ decimal block ++ codes " URGENT" ++ entries_text urgent ++ codes " PLAIN" ++ entries_text plain)
text_of (in_reach chain) = Some (codes "reach IN" ++ chain_text chain)
text_of out_of_reach = Some (codes "reach OUT")
text_of (refused name refusal chain) = Some (refused_text name refusal chain)
