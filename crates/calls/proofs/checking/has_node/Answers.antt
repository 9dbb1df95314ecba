use Rattle.std.proofs.Common.{rules, tests}
use Rattle.std.proofs.lemmas.Iterator.{YieldsList-from_slice}
use Rattle.std.proofs.lemmas.Iterator.Search.{any_from_yields_List}
use Rattle.table.specs.Tables.{in_pattern}
use Rattle.calls.proofs.Nodes.{says_node}
use Rattle.calls.proofs.checking.has_node.Goals as goal

pub returns : goal.returns
returns c =
    let pattern = c.args.pattern in
    let nodes = c.args.table.now.nodes in
    says_node pattern c.args.table.now c.any.result
    (any_from_yields_List (in_pattern pattern) _ _ c.any.result c.any.ensures.ran (YieldsList-from_slice nodes (cc)) (λ x b q k. search (rules, tests)))
