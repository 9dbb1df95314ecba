-- What a player holds between calls.
use Rattle.std.specs.Prelude.{List, vec_items}
use Rattle.table.specs.declared.state.Table.{Table}
use Rattle.reach.specs.declared.line.Line.{Line}
use Rattle.player.specs.declared.player.Player.{Player}

-- a table, an outlet and the lines of the chain memory; the permit in hand is that of the table's open check
pub record Stage (O : Type 0) : Type 0 where
  pub table : Table
  pub outlet : O
  pub memory : List Line

abbrev pub stage_of : {O : Type 0} → Player O → Stage O
stage_of p = record { table = p.sequencer.table; outlet = p.sequencer.outlet; memory = vec_items p.memory }
