use Rattle.std.proofs.Common.{◌==◌, rules}
use Rattle.reach.proofs.verdict.to_place.Goals as goal

pub returns : goal.returns
returns c =
    let verdict = c.judge.ensures (λ p. (p == c.args.place)) (λ p small b k. search rules) in
    search rules
