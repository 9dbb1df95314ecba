-- The meaning of every outlet: what one request and its reply do to how often each message waits.
use Rattle.std.specs.Prelude.{◌≡◌, ℕ, ◌+◌, ◌<◌, List, length, refl}
use Rattle.outlets.specs.declared.message.Message.{Message}
use Rattle.outlets.specs.declared.request.Request.{Request}
use Rattle.outlets.specs.declared.request.Request.TheVariants.{Take, Offer}
use Rattle.outlets.specs.declared.request.Reply.{Reply}
use Rattle.outlets.specs.declared.request.Reply.TheVariants.{Nothing, Took, Accepted, Refused}
use Rattle.outlets.specs.Messages.{one, times}

-- n is how many there are in all, where f says how often there is each message: some list has n messages, and each as often
abbrev pub InAll : (Message → ℕ) → ℕ → Type 0
InAll f n = (ms : List Message) × ((x : Message) → times x ms ≡ f x) × (length ms ≡ n)

-- what contracts read of an outlet
pub record Meaning (O : Type 0) : Type 0 where
  -- how often each message waits
  pub waits : O → Message → ℕ
  -- how many wait in all
  pub total : O → ℕ
  -- how many can wait at once
  pub capacity : O → ℕ

-- where the messages that wait stand in a list, with places for so many
abbrev pub listed : {O : Type 0} → (O → List Message) → (O → ℕ) → Meaning O
listed messages places = record { waits = λ o x. times x (messages o); total = λ o. length (messages o); capacity = places }

-- the numbers of the single messages then add up to the length of the list
pub listed_sums : {O : Type 0} (messages : O → List Message) (places : O → ℕ) (o : O) → InAll ((listed messages places).waits o) ((listed messages places).total o)
listed_sums messages places o = (messages o, λ x. refl, refl)

module _ {O : Type 0} (meaning : Meaning O) where
  -- one more m waits after than before; no other number changes, nor does the capacity
  pub record OneMore (m : Message) (before after : O) : Type 0 where
    pub each : (x : Message) → meaning.waits after x ≡ meaning.waits before x + one x m
    pub all : meaning.total after ≡ meaning.total before + 1
    pub fixed : meaning.capacity after ≡ meaning.capacity before

  -- no number changes, nor does the capacity
  pub record NoChange (before after : O) : Type 0 where
    pub each : (x : Message) → meaning.waits after x ≡ meaning.waits before x
    pub all : meaning.total after ≡ meaning.total before
    pub fixed : meaning.capacity after ≡ meaning.capacity before

  -- a request that was made of the outlet o, what came of it, and the outlet n that it left
  abbrev pub Step : O → Request → Reply → O → Type 0
  Step o (Offer m) Accepted n = (meaning.total o < meaning.capacity o) × OneMore m o n
  Step o (Offer m) Refused n = (meaning.total o ≡ meaning.capacity o) × NoChange o n
  Step o (Offer m) (Took x) n = ⊥
  Step o (Offer m) Nothing n = ⊥
  Step o Take (Took m) n = OneMore m n o
  Step o Take Nothing n = (meaning.total o ≡ 0) × NoChange o n
  Step o Take Accepted n = ⊥
  Step o Take Refused n = ⊥
