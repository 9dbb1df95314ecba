use Rattle.std.proofs.Common.{sym, subst}
use Rattle.table.specs.Laws.{Sound}
use Rattle.table.proofs.Keeps.{cleared_sound}
use Rattle.table.proofs.state.Table.cleared.Goals as goal

pub returns-clause-sound : goal.returns-clause-sound
returns-clause-sound c = subst Sound (sym c.nothing.ensures) cleared_sound
