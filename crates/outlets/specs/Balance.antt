-- What requests and their replies, one after another, come to for each message.
use Rattle.std.specs.Prelude.{◌≡◌, ℕ, ◌+◌, List, [], ◌∷◌, ◌++◌}
use Rattle.outlets.specs.declared.message.Message.{Message}
use Rattle.outlets.specs.declared.request.Request.{Request}
use Rattle.outlets.specs.declared.request.Request.TheVariants.{Take, Offer}
use Rattle.outlets.specs.declared.request.Reply.{Reply}
use Rattle.outlets.specs.declared.request.Reply.TheVariants.{Nothing, Took, Accepted, Refused}
use Rattle.outlets.specs.Messages.{one}
use Rattle.outlets.specs.Meaning.{Meaning, Step}

-- 1 where an offer of x was accepted
abbrev pub accepts : Message → Request → Reply → ℕ
accepts x (Offer m) Accepted = one x m
accepts x (Offer m) Refused = 0
accepts x (Offer m) (Took y) = 0
accepts x (Offer m) Nothing = 0
accepts x Take reply = 0

-- how many offers of x were accepted
abbrev pub acceptances : Message → List Request → List Reply → ℕ
acceptances x [] replies = 0
acceptances x (request ∷ requests) [] = 0
acceptances x (request ∷ requests) (reply ∷ replies) = accepts x request reply + acceptances x requests replies

-- 1 where x was taken
abbrev pub takes : Message → Reply → ℕ
takes x (Took m) = one x m
takes x Nothing = 0
takes x Accepted = 0
takes x Refused = 0

-- how often x was taken
abbrev pub takings : Message → List Reply → ℕ
takings x [] = 0
takings x (reply ∷ replies) = takes x reply + takings x replies

-- for each message: as many waited and were accepted as were taken and wait now
abbrev pub Balanced : {O : Type 0} → (O → Message → ℕ) → O → List Request → List Reply → O → Type 0
Balanced waits o requests replies n = (x : Message) → waits o x + acceptances x requests replies ≡ takings x replies + waits n x

module _ {O : Type 0} (meaning : Meaning O) where
  -- the requests, made of o one after another, had these replies, and left the outlet n
  pub data Run : O → List Request → List Reply → O → Type 0 where
    done : (o : O) → Run o [] [] o
    more : (o m n : O) (request : Request) (requests : List Request) (reply : Reply) (replies : List Reply) → Step meaning o request reply m → Run m requests replies n → Run o (request ∷ requests) (reply ∷ replies) n

  -- whatever was asked before, it goes on by this request and its reply, and is balanced
  abbrev pub Continues : O → Request → Reply → O → Type 0
  Continues o request reply n =
      (first : O) (asked : List Request) (said : List Reply) →
      Run first asked said o →
      Run first (asked ++ request ∷ []) (said ++ reply ∷ []) n × Balanced meaning.waits first (asked ++ request ∷ []) (said ++ reply ∷ []) n
