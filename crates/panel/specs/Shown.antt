-- What the panel shows for the bytes that it reads.
use Rattle.std.specs.Prelude.{ℕ, List, Result}
use Rattle.table.specs.declared.fault.Fault.{Fault}
use Rattle.table.specs.declared.state.Table.{Table}
use Rattle.table.specs.Tables.{cleared}
use Rattle.table.specs.Loading.{Loads}
use Rattle.table.specs.Faults.{number_of, layer_of, place_of}
use Rattle.readout.specs.declared.line.Line.{Line}
use Rattle.readout.specs.Shown as readout

-- a cleared table answers so to the words
abbrev pub Answers : List ℕ → Result ℕ Fault → Type 0
Answers words answer = (after : Table) × Loads cleared words answer after

-- the line tells what a cleared table answers to the words; at most 4,096 of them are judged
abbrev pub Shown : List ℕ → Line → Type 0
Shown bytes line = readout.Shown number_of layer_of place_of Answers bytes line
