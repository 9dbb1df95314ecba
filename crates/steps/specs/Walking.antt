-- What a step, or a part of it, comes to where it may offer a message on the way.
use Rattle.std.specs.Prelude.{◌≡◌, ℕ, Bool, true, false, Some, None, Option}
use Rattle.outlets.specs.declared.message.Message.{Message}
use Rattle.outlets.specs.Meaning.{Meaning}
use Rattle.outlets.specs.declared.request.Request.TheVariants as request
use Rattle.outlets.specs.Meaning as outlet
use Rattle.outlets.specs.Replies.{offered}
use Rattle.table.specs.declared.state.Table.{Table}
use Rattle.steps.specs.declared.answer.Step.{Step}
use Rattle.steps.specs.Steps.{Stepped, stepped, offer_of}

module _ {O : Type 0} (meaning : Meaning O) where
  -- the outlet is offered what the step offers, if anything
  abbrev pub Offers : Option Message → O → Bool → O → Type 0
  Offers None o accepted after = after ≡ o
  Offers (Some message) o accepted after = outlet.Step meaning o (request.Offer message) (offered accepted) after

  -- the message, if any, was offered, and whether it was accepted decides the answer and the table
  abbrev pub Walks : Option Message → (Bool → Stepped) → O → Step → Table → O → Type 0
  Walks offer by o answer after_t after_o =
      (accepted : Bool) × Offers offer o accepted after_o × (answer ≡ (by accepted).answer) × (after_t ≡ (by accepted).table)

  -- there is no lane above 7, and nothing changes then
  abbrev pub LaneSteps : Bool → Table → O → ℕ → Option Step → Table → O → Type 0
  LaneSteps true t o lane (Some answer) after_t after_o = Walks (offer_of t lane) (λ accepted. stepped accepted t lane) o answer after_t after_o
  LaneSteps true t o lane None after_t after_o = ⊥
  LaneSteps false t o lane (Some answer) after_t after_o = ⊥
  LaneSteps false t o lane None after_t after_o = (after_t ≡ t) × (after_o ≡ o)
