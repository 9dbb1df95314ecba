-- How each fault is told: its number, its layer and its place. Those of the layers below are carried up.
use Rattle.std.specs.Prelude.{ℕ}
use Rattle.words.specs.declared.fault.Layer.{Layer}
use Rattle.words.specs.declared.fault.Layer.TheVariants as layers
use Rattle.reach.specs.Faults as reach
use Rattle.calls.specs.declared.fault.Fault.{Fault}
use Rattle.calls.specs.declared.fault.Fault.TheVariants.{Range, Memory, Busy, Below, State, Row, Bare, Permit}

abbrev pub number_of : Fault → ℕ
number_of (Range argument) = 1
number_of (Memory needed) = 2
number_of (Busy pattern) = 3
number_of (Below fault) = reach.number_of fault
number_of (State lane) = 11
number_of (Row block) = 12
number_of (Bare pattern) = 14
number_of (Permit pattern) = 15

abbrev pub layer_of : Fault → Layer
layer_of (Range argument) = layers.Call
layer_of (Memory needed) = layers.Call
layer_of (Busy pattern) = layers.Call
layer_of (Below fault) = reach.layer_of fault
layer_of (State lane) = layers.Call
layer_of (Row block) = layers.Call
layer_of (Bare pattern) = layers.Call
layer_of (Permit pattern) = layers.Call

abbrev pub place_of : Fault → ℕ
place_of (Range argument) = argument
place_of (Memory needed) = needed
place_of (Busy pattern) = pattern
place_of (Below fault) = reach.place_of fault
place_of (State lane) = lane
place_of (Row block) = block
place_of (Bare pattern) = pattern
place_of (Permit pattern) = pattern
