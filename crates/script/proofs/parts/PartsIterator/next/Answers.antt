use Rattle.std.proofs.Common.{arith}
use Rattle.std.proofs.lemmas.List.{take_rest}
use Rattle.script.proofs.Cutting.{ended, cut_off}
use Rattle.script.proofs.parts.PartsIterator.next.Goals as goal

pub returns-then-end-eq0-clause-steps : goal.returns-then-end-eq0-clause-steps
returns-then-end-eq0-clause-steps c =
    ended c.args.self.now.rest.now _ c.leading-start.result c.leading-end.result c.leading-start.ensures.value (take_rest c.args.self.now.rest.now c.leading-start.result) c.leading-end.ensures.value (omega arith)

pub returns-clause-steps : goal.returns-clause-steps
returns-clause-steps c =
    cut_off c.args.self.now.rest.now _ c.leading-start.result c.leading-end.result c.leading-start.ensures.value (take_rest c.args.self.now.rest.now c.leading-start.result) c.leading-end.ensures.value (omega arith)
