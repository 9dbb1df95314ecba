use Rattle.std.proofs.Common.{◌≡◌, IfOk, vec_items, ap, ◌∙◌, rules}
use Rattle.player.specs.Memory.{until}
use Rattle.player.proofs.Ending.{whole_chain, made_same}
use Rattle.player.proofs.chain.chain_to.Goals as goal

pub returns-clause-whole : goal.returns-clause-whole
returns-clause-whole c = λ s chain rest ends is.
    let memory = c.args.memory.now in
    let place = c.args.place in
    let lines : IfOk c.collect.result (λ chain. vec_items chain ≡ until place memory) = search rules in
    made_same vec_items (until place memory) chain c.collect.result (ap (until place) is ∙ whole_chain s chain rest place ends) lines
