use Rattle.std.proofs.Common.{rules}
use Rattle.player.proofs.Written.{few_words}
use Rattle.player.proofs.images.useful.Goals as goal

pub returns-clause-few : goal.returns-clause-few
returns-clause-few c = few_words c.args.nodes.now (search rules)
