-- What a session makes of its lines, where it understands only some calls.
use Rattle.std.specs.Prelude.{◌≡◌, Bool, true, false, cond, ◌⊎◌, [], Some, None, Option}
use Rattle.outlets.specs.Meaning.{Meaning}
use Rattle.table.specs.Tables.{cleared}
use Rattle.script.specs.declared.call.Call.{Call}
use Rattle.script.specs.declared.call.Call.TheVariants as call
use Rattle.script.specs.Calls.{Said, said}
use Rattle.player.specs.Alone.{simple}
use Rattle.player.specs.Memory.{blank_memory}
use Rattle.player.specs.Playing.{Plays}
use Rattle.player.specs.Stages.{Stage}
use Rattle.player.specs.Told.{Told}

-- A call is made where the line says it and it is understood. Where none is made, the line says none, or one that is not understood.
abbrev pub Understood : (Call → Bool → Type 0) → Option Said → Option Call → Type 0
Understood Understands line (Some call) = (Some (said call) ≡ line) × Understands call true
Understood Understands line None = (line ≡ None) ⊎ ((call : Call) × (Some (said call) ≡ line) × Understands call false)

-- only simple calls are understood
abbrev pub OnlySimple : (Call → Bool → Type 0) → Type 0
OnlySimple Understands = (call : Call) → Understands call true → simple (said call) ≡ true

module _ {O : Type 0} where
  -- A session begins with a cleared table. It has a chain memory of 512 lines if a line that asks for so many is understood, and of none otherwise.
  abbrev pub Begins : (Call → Bool → Type 0) → Stage O → Type 0
  Begins Understands held = (is : Bool) × Understands (call.Memory 512) is × (held.table ≡ cleared) × (held.memory ≡ blank_memory (cond is 512 0))

  -- in a session that understands only simple calls, no check is open and the chain memory has no line
  abbrev pub Quiet : (Call → Bool → Type 0) → Stage O → Type 0
  Quiet Understands held = OnlySimple Understands → (held.table.check ≡ None) × (held.memory ≡ [])

module _ {O : Type 0} (meaning : Meaning O) where
  -- what is held after a line: what the call makes of it that is made, or what was held before
  abbrev pub Leaves : Stage O → Option Call → Stage O → Type 0
  Leaves before (Some call) after = (it : Told) × Plays meaning before (said call) it after
  Leaves before None after = after ≡ before

  -- what a line makes of what is held: the call that it says, if that is understood, and nothing else
  abbrev pub LinePlayed : (Call → Bool → Type 0) → Option Said → Stage O → Stage O → Type 0
  LinePlayed Understands line before after = (made : Option Call) × Understood Understands line made × Leaves before made after
