use Rattle.ladder.proofs.Exact.{climbed}
use Rattle.ladder.proofs.climb.Goals as goal

pub returns : goal.returns
returns c = climbed c.derive.ensures.laws c.args.place c.chain_to.result (c.chain_to.ensures c.derive.ensures.found)
