-- What is told of a fault.
use Rattle.calls.specs.declared.fault.Fault.{Fault}
use Rattle.calls.specs.Faults.{number_of, layer_of, place_of}
use Rattle.player.specs.declared.refusal.Refusal.{Refusal}

abbrev pub refusal_of : Fault → Refusal
refusal_of fault = record { number = number_of fault; layer = layer_of fault; place = place_of fault }
