-- What a line makes of what is held here.
use Rattle.std.specs.Prelude.{◌≡◌, Bool, true, false, Some, None, Option}
use Rattle.outlets.specs.Meaning.{Meaning}
use Rattle.script.specs.Calls.{Said}
use Rattle.player.specs.Alone.{PlaysAlone}
use Rattle.player.specs.Playing.{Plays}
use Rattle.player.specs.Stages.{Stage}
use Rattle.player.specs.Told.{Told}
use Rattle.rehearse.specs.Made.{made}

module _ {O : Type 0} (meaning : Meaning O) where
  -- of a call that is made: what a player says of it, and what it does to a table while no check is open (a load is the table's own);
  -- one that is not made changes nothing
  abbrev pub Makes : Bool → Stage O → Said → Stage O → Type 0
  Makes true before call after = (it : Told) × Plays meaning before call it after × PlaysAlone before.table call it after.table
  Makes false before call after = after ≡ before

  -- nor does a line that says no call
  abbrev pub LineMakes : Stage O → Option Said → Stage O → Type 0
  LineMakes before (Some call) after = Makes (made call) before call after
  LineMakes before None after = after ≡ before
