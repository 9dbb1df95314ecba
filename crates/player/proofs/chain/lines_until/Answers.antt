use Rattle.player.proofs.Ending.{found, through}
use Rattle.player.proofs.chain.lines_until.Goals as goal

pub returns-in-Some-clause-value : goal.returns-in-Some-clause-value
returns-in-Some-clause-value c = found c.args.place c.args.memory.now c.in-Some.i c.in-Some.ensures.value

pub returns-in-None-clause-value : goal.returns-in-None-clause-value
returns-in-None-clause-value c = through c.args.place c.args.memory.now c.in-None.ensures.value
