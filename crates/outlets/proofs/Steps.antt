-- Laws of the meaning: what a step comes to for each message.
use Rattle.std.proofs.Common.{◌≡◌, ℕ, ◌+◌, arith}
use Rattle.outlets.specs.declared.message.Message.{Message}
use Rattle.outlets.specs.declared.request.Request.{Request}
use Rattle.outlets.specs.declared.request.Request.TheVariants.{Take, Offer}
use Rattle.outlets.specs.declared.request.Reply.{Reply}
use Rattle.outlets.specs.declared.request.Reply.TheVariants.{Nothing, Took, Accepted, Refused}
use Rattle.outlets.specs.Meaning.{Meaning, Step}
use Rattle.outlets.specs.Balance.{accepts, takes}

module _ {O : Type 0} (meaning : Meaning O) where
  -- for each message: what waited and was accepted is what was taken and waits now
  pub step_balance : (o n : O) (request : Request) (reply : Reply) → Step meaning o request reply n → (x : Message) → meaning.waits o x + accepts x request reply ≡ takes x reply + meaning.waits n x
  step_balance o n (Offer m) Accepted s x = omega (arith, s.1.each x)
  step_balance o n (Offer m) Refused s x = omega (arith, s.1.each x)
  step_balance o n (Offer m) (Took y) s x = absurd s
  step_balance o n (Offer m) Nothing s x = absurd s
  step_balance o n Take (Took m) s x = omega (arith, s.each x)
  step_balance o n Take Nothing s x = omega (arith, s.1.each x)
  step_balance o n Take Accepted s x = absurd s
  step_balance o n Take Refused s x = absurd s
