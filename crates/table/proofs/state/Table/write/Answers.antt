use Rattle.table.proofs.Keeps.{writes_loaded}
use Rattle.table.proofs.state.Table.write.Goals as goal

pub returns-clause-loads_back : goal.returns-clause-loads_back
returns-clause-loads_back c = writes_loaded c.args.self.now _ _ c.write.ensures.reads_back
