-- What came of a call of an outlet, as a reply.
use Rattle.std.specs.Prelude.{Bool, true, false, Some, None, Option}
use Rattle.outlets.specs.declared.message.Message.{Message}
use Rattle.outlets.specs.declared.request.Reply.{Reply}
use Rattle.outlets.specs.declared.request.Reply.TheVariants.{Nothing, Took, Accepted, Refused}

-- of an offer
abbrev pub offered : Bool → Reply
offered true = Accepted
offered false = Refused

-- of a take
abbrev pub took : Option Message → Reply
took (Some m) = Took m
took None = Nothing
