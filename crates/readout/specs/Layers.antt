-- How a layer is shown.
use Rattle.std.specs.Prelude.{ℕ, List, codes}
use Rattle.words.specs.declared.fault.Layer.{Layer}
use Rattle.words.specs.declared.fault.Layer.TheVariants.{Words, Table, Reach, Call}

abbrev pub layer_name : Layer → List ℕ
layer_name Words = codes "WORDS"
layer_name Table = codes "TABLE"
layer_name Reach = codes "REACH"
layer_name Call = codes "CALL"
