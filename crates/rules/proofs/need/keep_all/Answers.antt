use Rattle.std.proofs.Common.{sym, subst}
use Rattle.rules.specs.Found.{holds}
use Rattle.rules.proofs.Keep.{Kept, kept_step}
use Rattle.rules.proofs.need.keep_all.Goals as goal

pub loop-line-preserved : goal.loop-line-preserved
loop-line-preserved c =
    subst (Kept (holds c.args.needed.now) c.args.lines.now _) (sym c.keep.ensures)
    (kept_step c.args.needed.now c.args.lines.now c.loop-line.line-index c.loop-line.chain c.loop-line-test.true c.requires c.loop-line.invariant)
