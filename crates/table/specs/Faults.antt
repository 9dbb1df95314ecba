-- How each fault of the table is told: its number, its layer and its place. Those of the words are carried up.
use Rattle.std.specs.Prelude.{ℕ}
use Rattle.words.specs.declared.fault.Layer.{Layer}
use Rattle.words.specs.declared.fault.Layer.TheVariants as layers
use Rattle.words.specs.Faults as words
use Rattle.structure.specs.Flaws as flaws
use Rattle.table.specs.declared.fault.Fault.{Fault}
use Rattle.table.specs.declared.fault.Fault.TheVariants.{Words, Taken, Flaw}

abbrev pub number_of : Fault → ℕ
number_of (Words fault) = words.number_of fault
number_of (Taken place) = 7
number_of (Flaw flaw) = flaws.number_of flaw

abbrev pub layer_of : Fault → Layer
layer_of (Words fault) = words.layer_of fault
layer_of (Taken place) = layers.Table
layer_of (Flaw flaw) = layers.Table

abbrev pub place_of : Fault → ℕ
place_of (Words fault) = words.place_of fault
place_of (Taken place) = place
place_of (Flaw flaw) = flaws.place_of flaw
