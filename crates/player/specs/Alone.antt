-- The simple calls, and what they do while no check is open.
use Rattle.std.specs.Prelude.{◌≡◌, ℕ, Bool, true, false, List, None, Result}
use Rattle.table.specs.declared.fault.Fault.{Fault}
use Rattle.table.specs.declared.state.Table.{Table}
use Rattle.table.specs.Loading.{Loads}
use Rattle.calls.specs.Calls.{carried}
use Rattle.script.specs.Calls.{Said, memory, load, write, start, hold, resume, abort, command, check, remove, release, step, take, lane, reach, row}
use Rattle.player.specs.Playing.{load_told}
use Rattle.player.specs.Told.{Told}

-- loads, writes and takes, and what is asked after lanes and rows: calls that move no lane, give no order, need no permit and use no chain memory
abbrev pub simple : Said → Bool
simple (memory lines) = false
simple (load words) = true
simple (write room) = true
simple (start number place tick) = false
simple (hold number) = false
simple (resume number) = false
simple (abort number) = false
simple (command block word) = false
simple (check pattern) = false
simple remove = false
simple release = false
simple (step number) = false
simple take = true
simple (lane number) = true
simple (reach place) = false
simple (row block) = true

-- the table's own load, which is told as it answers; and no check is open after it
abbrev pub LoadsAlone : Table → List ℕ → Told → Table → Type 0
LoadsAlone before words told after = (found : Result ℕ Fault) × Loads before words found after × (told ≡ load_told (carried found)) × (after.check ≡ None)

-- A load is the table's own; write and take leave the table as it was, and so do those that ask after a lane or a row. So none of them opens a check.
-- Of the others this says nothing.
abbrev pub PlaysAlone : Table → Said → Told → Table → Type 0
PlaysAlone before (memory lines) told after = Unit {0}
PlaysAlone before (load words) told after = LoadsAlone before words told after
PlaysAlone before (write room) told after = after ≡ before
PlaysAlone before (start number place tick) told after = Unit {0}
PlaysAlone before (hold number) told after = Unit {0}
PlaysAlone before (resume number) told after = Unit {0}
PlaysAlone before (abort number) told after = Unit {0}
PlaysAlone before (command block word) told after = Unit {0}
PlaysAlone before (check pattern) told after = Unit {0}
PlaysAlone before remove told after = Unit {0}
PlaysAlone before release told after = Unit {0}
PlaysAlone before (step number) told after = Unit {0}
PlaysAlone before take told after = after ≡ before
PlaysAlone before (lane number) told after = after ≡ before
PlaysAlone before (reach place) told after = Unit {0}
PlaysAlone before (row block) told after = after ≡ before
