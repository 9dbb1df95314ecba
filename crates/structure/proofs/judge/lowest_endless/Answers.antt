use Rattle.std.proofs.Common.{◌≤◌, length, rules, arith}
use Rattle.structure.proofs.Ended.{lowest_endless, ended_alike}
use Rattle.structure.proofs.judge.lowest_endless.Goals as goal

pub returns : goal.returns
returns c =
    let nodes = c.args.nodes.now in
    let long : length nodes ≤ 512 = omega arith in
    let laws = c.derive-ended.ensures.laws in
    record {
      lowest = lowest_endless nodes long laws.whole c.derive-ended.result c.derive-ended.ensures.found _ (c.lowest.ensures.found _ (λ p small b k. search rules));
      alike = ended_alike nodes long laws.whole;
    }
