use Rattle.std.proofs.Common.{rules}
use Rattle.structure.specs.Nodes.{node_at}
use Rattle.table.specs.Tables.{in_pattern}
use Rattle.reach.proofs.verdict.into_pattern.Goals as goal

pub returns : goal.returns
returns c = c.judge.ensures (λ p. in_pattern c.args.pattern (node_at c.args.view.now.nodes.now p)) (λ p small b k. search rules)
