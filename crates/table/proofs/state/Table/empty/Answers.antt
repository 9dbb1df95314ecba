use Rattle.std.proofs.Common.{sym, subst}
use Rattle.table.specs.Laws.{Sound}
use Rattle.table.proofs.Keeps.{emptied_sound}
use Rattle.table.proofs.state.Table.empty.Goals as goal

pub returns-clause-sound : goal.returns-clause-sound
returns-clause-sound c s = subst Sound (sym c.without_pattern.ensures) (emptied_sound c.args.self.now c.args.pattern s)
