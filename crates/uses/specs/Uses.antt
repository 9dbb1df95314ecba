-- All that calls, one after another, lead to.
use Rattle.std.specs.Prelude.{◌≡◌, ℕ, ◌+◌, List, [], ◌∷◌, Some, None, Ok, Err, Option, Result}
use Rattle.lanes.specs.declared.lane.LaneCall.TheVariants.{Hold, Resume, Abort}
use Rattle.outlets.specs.declared.message.Message.{Message}
use Rattle.outlets.specs.Meaning.{Meaning}
use Rattle.outlets.specs.Messages.{one}
use Rattle.table.specs.declared.state.Table.{Table}
use Rattle.table.specs.Tables.{cleared}
use Rattle.reach.specs.declared.line.Line.{Line}
use Rattle.steps.specs.declared.answer.Step.{Step}
use Rattle.steps.specs.declared.answer.Step.TheVariants as came
use Rattle.calls.specs.declared.fault.Fault.{Fault}
use Rattle.steps.specs.Steps.{offer_of}
use Rattle.calls.specs.Calls.{Load, Start, CallOnLane, Command, Check, Remove, Release, Steps, Takes}

-- ### what a call means for the messages

pub data Event : Type 0 where
  -- a step answered "sent" where its rule names this lane, event and due tick
  sent : Message → Event
  -- a take gave it
  taken : Message → Event
  -- any other call or answer
  quiet : Event

-- the message of a step that answered "sent"
abbrev pub sending : Option Message → Event
sending None = quiet
sending (Some message) = sent message

abbrev pub answer_event : Option Message → Step → Event
answer_event offer came.Idle = quiet
answer_event offer came.Held = quiet
answer_event offer came.Range = quiet
answer_event offer came.Sent = sending offer
answer_event offer came.Waits = quiet
answer_event offer came.Queued = quiet
answer_event offer came.Lost = quiet
answer_event offer (came.Took place) = quiet
answer_event offer came.Ended = quiet

abbrev pub told_event : Option Message → Result Step Fault → Event
told_event offer (Ok answer) = answer_event offer answer
told_event offer (Err fault) = quiet

abbrev pub step_event : Table → ℕ → Result Step Fault → Event
step_event t lane answer = told_event (offer_of t lane) answer

abbrev pub take_event : Option Message → Event
take_event None = quiet
take_event (Some message) = taken message

-- how often a message was sent, and how often it was taken
abbrev pub sendings : Message → List Event → ℕ
sendings x [] = 0
sendings x (sent message ∷ events) = one x message + sendings x events
sendings x (taken message ∷ events) = sendings x events
sendings x (quiet ∷ events) = sendings x events

abbrev pub takings : Message → List Event → ℕ
takings x [] = 0
takings x (sent message ∷ events) = takings x events
takings x (taken message ∷ events) = one x message + takings x events
takings x (quiet ∷ events) = takings x events

-- ### uses

module _ {O : Type 0} (meaning : Meaning O) where
  -- nothing waits in the outlet
  abbrev pub Vacant : O → Type 0
  Vacant o = (x : Message) → meaning.waits o x ≡ 0

  -- The tables, outlets and histories that some list of calls leads to, refused calls included, from a cleared table and an outlet in which
  -- nothing waits. A history has an event for each call, the latest first.
  pub data Use : Table → O → List Event → Type 0 where
    clear : {o : O} → Vacant o → Use cleared o []
    load : {t : Table} {o : O} {h : List Event} (words : List ℕ) (answer : Result ℕ Fault) (t' : Table)
        → Use t o h → Load t words answer t' → Use t' o (quiet ∷ h)
    start : {t : Table} {o : O} {h : List Event} (lane place tick : ℕ) (answer : Result (Unit {0}) Fault) (t' : Table) (before after : List Line)
        → Use t o h → Start t lane place tick answer t' before after → Use t' o (quiet ∷ h)
    hold : {t : Table} {o : O} {h : List Event} (lane : ℕ) (answer : Result (Unit {0}) Fault) (t' : Table)
        → Use t o h → CallOnLane Hold t lane answer t' → Use t' o (quiet ∷ h)
    resume : {t : Table} {o : O} {h : List Event} (lane : ℕ) (answer : Result (Unit {0}) Fault) (t' : Table)
        → Use t o h → CallOnLane Resume t lane answer t' → Use t' o (quiet ∷ h)
    abort : {t : Table} {o : O} {h : List Event} (lane : ℕ) (answer : Result (Unit {0}) Fault) (t' : Table)
        → Use t o h → CallOnLane Abort t lane answer t' → Use t' o (quiet ∷ h)
    command : {t : Table} {o : O} {h : List Event} (block word : ℕ) (answer : Result (Unit {0}) Fault) (t' : Table) (before after : List Line)
        → Use t o h → Command t block word answer t' before after → Use t' o (quiet ∷ h)
    check : {t : Table} {o : O} {h : List Event} (pattern : ℕ) (answer : Result ℕ Fault) (t' : Table) (before after : List Line)
        → Use t o h → Check t pattern answer t' before after → Use t' o (quiet ∷ h)
    remove : {t : Table} {o : O} {h : List Event} (pattern : ℕ) (answer : Result (Unit {0}) Fault) (t' : Table)
        → Use t o h → Remove t pattern answer t' → Use t' o (quiet ∷ h)
    release : {t : Table} {o : O} {h : List Event} (pattern : ℕ) (answer : Result (Unit {0}) Fault) (t' : Table)
        → Use t o h → Release t pattern answer t' → Use t' o (quiet ∷ h)
    step : {t : Table} {o : O} {h : List Event} (lane : ℕ) (answer : Result Step Fault) (t' : Table) (o' : O)
        → Use t o h → Steps meaning t o lane answer t' o' → Use t' o' (step_event t lane answer ∷ h)
    take : {t : Table} {o : O} {h : List Event} (answer : Option Message) (o' : O)
        → Use t o h → Takes meaning o answer o' → Use t o' (take_event answer ∷ h)
