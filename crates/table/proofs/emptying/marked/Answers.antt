use Rattle.std.proofs.Common.{rules}
use Rattle.table.specs.Tables.{in_pattern}
use Rattle.table.proofs.emptying.marked.Goals as goal

pub returns : goal.returns
returns c = c.change_each.ensures.value (λ mark. in_pattern c.args.pattern) (λ x y z k. search rules)
