use Rattle.uses.proofs.Law.{law}
use Rattle.uses.proofs.law_of_uses.Goals as goal

pub returns : goal.returns
returns g c = law g.O.Outlet.meaning
