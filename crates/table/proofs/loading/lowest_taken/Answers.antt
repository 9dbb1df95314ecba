use Rattle.std.proofs.Common.{rules}
use Rattle.table.proofs.loading.lowest_taken.Goals as goal

pub returns : goal.returns
returns c = c.lowest.ensures.found _ (λ p small b k. search rules)
