-- The calls that are made here.
use Rattle.std.specs.Prelude.{◌≡◌, Bool}
use Rattle.script.specs.declared.call.Call.{Call}
use Rattle.script.specs.Calls.{Said, said}
use Rattle.player.specs.Alone.{simple}

-- the simple ones: loads, writes and takes, and what is asked after lanes and rows
abbrev pub made : Said → Bool
made call = simple call

-- exactly the calls that are made here are understood
abbrev pub Exact : (Call → Bool → Type 0) → Type 0
Exact Understands = (call : Call) (is : Bool) → Understands call is → is ≡ made (said call)
