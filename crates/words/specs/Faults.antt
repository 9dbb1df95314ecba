-- How each fault of the words is told: its number, its layer and its place.
use Rattle.std.specs.Prelude.{ℕ}
use Rattle.words.specs.declared.fault.Fault.{Fault}
use Rattle.words.specs.declared.fault.Fault.TheVariants.{BadWord, NotRising, Ragged}
use Rattle.words.specs.declared.fault.Layer.{Layer}
use Rattle.words.specs.declared.fault.Layer.TheVariants.{Words}

abbrev pub number_of : Fault → ℕ
number_of (BadWord position) = 4
number_of (NotRising position) = 5
number_of (Ragged position) = 6

abbrev pub layer_of : Fault → Layer
layer_of (BadWord position) = Words
layer_of (NotRising position) = Words
layer_of (Ragged position) = Words

-- the position, counted in words from 0
abbrev pub place_of : Fault → ℕ
place_of (BadWord position) = position
place_of (NotRising position) = position
place_of (Ragged position) = position
