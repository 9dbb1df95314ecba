-- How each fault up to this layer is told: its number, its layer and its place. Those of the table are carried up.
use Rattle.std.specs.Prelude.{ℕ}
use Rattle.words.specs.declared.fault.Layer.{Layer}
use Rattle.words.specs.declared.fault.Layer.TheVariants as layers
use Rattle.table.specs.Faults as table
use Rattle.reach.specs.declared.fault.Fault.{Fault}
use Rattle.reach.specs.declared.fault.Fault.TheVariants.{Table, Reach}

abbrev pub number_of : Fault → ℕ
number_of (Table fault) = table.number_of fault
number_of (Reach place) = 13

abbrev pub layer_of : Fault → Layer
layer_of (Table fault) = table.layer_of fault
layer_of (Reach place) = layers.Reach

abbrev pub place_of : Fault → ℕ
place_of (Table fault) = table.place_of fault
place_of (Reach place) = place
