use Rattle.std.proofs.Common.{sym, ◌∙◌, arith}
use Rattle.script.proofs.Values.{no_room}
use Rattle.script.proofs.number.number.Goals as goal

pub returns-in_err-value : goal.returns-in_err-value
returns-in_err-value c =
    c.from_residual-in_err-value.ensures
    ∙ sym (no_room c.args.base c.loop-b.value c.loop-b.b-index c.args.word.now (omega arith) c.loop-b.invariant.0 c.in_ok-digit.field-0 c.requires (sym c.in_ok-digit.ensures) (sym c.in_err-value.ensures))
