use Rattle.std.proofs.Common.{not, is_some, rules}
use Rattle.structure.specs.Nodes.{node_at}
use Rattle.reach.proofs.verdict.onto_empty.Goals as goal

pub returns : goal.returns
returns c =
    let verdict = c.judge.ensures (λ p. not (is_some (node_at c.args.view.now.nodes.now p))) (λ p small b k. search rules) in
    search rules
