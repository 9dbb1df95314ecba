use Rattle.std.proofs.Common.{unwrap_or, length, ap, ◌∙◌}
use Rattle.script.proofs.Cutting.{leads}
use Rattle.script.proofs.parts.leading.Goals as goal

pub returns-clause-value : goal.returns-clause-value
returns-clause-value c = c.unwrap_or.ensures ∙ ap (λ o. unwrap_or o (length c.args.bytes.now)) c.first_other.ensures ∙ leads c.args.blanks c.args.bytes.now
