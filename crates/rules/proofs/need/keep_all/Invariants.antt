use Rattle.rules.specs.Found.{holds}
use Rattle.rules.proofs.Keep.{Kept}
use Rattle.rules.proofs.need.keep_all.Given as goal

abbrev pub invariant-loop-line : goal.invariant-loop-line
invariant-loop-line l = Kept (holds l.needed) l.lines l.line-index l.chain
