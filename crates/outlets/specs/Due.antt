-- What waits in the outlet that hands out first what is due first.
use Rattle.std.specs.Prelude.{◌≡◌, ℕ, ◌<◌, Bool, false, cond, List, length, take, Some, None, Option, ◌==◌, nat_lt}
use Rattle.outlets.specs.declared.due.EarliestDue.{EarliestDue}
use Rattle.outlets.specs.declared.message.Message.{Message}
use Rattle.outlets.specs.Messages.{times}
use Rattle.outlets.specs.Meaning.{InAll, Meaning, listed, listed_sums}

-- the messages that wait, in some order
abbrev pub messages : EarliestDue → List Message
messages o = take o.len o.slots.now

-- how many can wait
abbrev pub places : EarliestDue → ℕ
places o = length o.slots.now

-- how often each message waits
abbrev pub waiting : EarliestDue → Message → ℕ
waiting o x = times x (messages o)

abbrev pub meaning : Meaning EarliestDue
meaning = listed messages places

-- the numbers of the single messages add up to the number of all
pub sums_up : (o : EarliestDue) → InAll (meaning.waits o) (meaning.total o)
sums_up = listed_sums messages places

-- that a goes before b: by when they are due, then by the lane, then by the event
abbrev pub before : Message → Message → Bool
before a b = cond (a.due == b.due) (cond (a.lane == b.lane) (nat_lt a.event b.event) (nat_lt a.lane b.lane)) (nat_lt a.due b.due)

-- what is handed out where f says how often each message waits: one that waits and that no other goes before
abbrev pub Earliest : (Message → ℕ) → Option Message → Type 0
Earliest f None = (x : Message) → f x ≡ 0
Earliest f (Some m) = (0 < f m) × ((x : Message) → 0 < f x → before x m ≡ false)
