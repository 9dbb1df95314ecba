use Rattle.table.proofs.Keeps.{loads_sound, loads_written}
use Rattle.table.proofs.Once.{loads_once}
use Rattle.table.proofs.state.Table.load.Goals as goal

pub returns-clause-once : goal.returns-clause-once
returns-clause-once c other then = loads_once c.args.self.now c.args.words.now _ other _ then c.load_image.ensures

pub returns-clause-sound : goal.returns-clause-sound
returns-clause-sound c = loads_sound c.args.self.now c.args.words.now _ _ c.load_image.ensures

pub returns-clause-written_back : goal.returns-clause-written_back
returns-clause-written_back c = loads_written c.args.self.now c.args.words.now _ _ c.load_image.ensures
