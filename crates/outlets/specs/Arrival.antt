-- What waits in the outlet that hands out first what came in first.
use Rattle.std.specs.Prelude.{ℕ, List, length}
use Rattle.first_in.specs.Items.{items, room}
use Rattle.outlets.specs.declared.arrival.FirstInOutlet.{FirstInOutlet}
use Rattle.outlets.specs.declared.message.Message.{Message}
use Rattle.outlets.specs.Meaning.{InAll, Meaning, listed, listed_sums}

-- the messages that wait, in the order in which they came
abbrev pub messages : FirstInOutlet → List Message
messages o = items o.list

-- how many can wait
abbrev pub places : FirstInOutlet → ℕ
places o = room o.list

abbrev pub meaning : Meaning FirstInOutlet
meaning = listed messages places

-- the numbers of the single messages add up to the number of all
pub sums_up : (o : FirstInOutlet) → InAll (meaning.waits o) (meaning.total o)
sums_up = listed_sums messages places
