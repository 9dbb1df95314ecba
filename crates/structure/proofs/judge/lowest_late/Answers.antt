use Rattle.std.proofs.Common.{rules}
use Rattle.structure.proofs.judge.lowest_late.Goals as goal

pub returns : goal.returns
returns c = c.lowest.ensures.found _ (λ p small b k. search rules)
