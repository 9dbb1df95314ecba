use Rattle.reach.proofs.Within.{reach_laws}
use Rattle.reach.proofs.laws.laws_of_reach.Goals as goal

pub returns : goal.returns
returns c = reach_laws
