-- Every table that calls lead to hangs together.
use Rattle.std.proofs.Common.{ℕ, List}
use Rattle.lanes.specs.declared.lane.LaneCall.TheVariants.{Hold, Resume, Abort}
use Rattle.outlets.specs.declared.message.Message.{Message}
use Rattle.outlets.specs.Meaning.{Meaning}
use Rattle.table.specs.declared.state.Table.{Table}
use Rattle.uses.specs.Uses.{Event, Use}
use Rattle.uses.specs.Uses.Use.{clear, load, start, hold, resume, abort, command, check, remove, release, step, take}
use Rattle.uses.proofs.Wholes.{KeptWhole, cleared_whole}
use Rattle.uses.proofs.WholeCalls.{load_whole, start_whole, lane_call_whole, command_whole, check_whole, remove_whole, release_whole}
use Rattle.uses.proofs.WholeSteps.{steps_whole}

module _ {O : Type 0} (meaning : Meaning O) where
  pub use_whole : (t : Table) (o : O) (h : List Event) → Use meaning t o h → KeptWhole t
  use_whole t o h (clear vacant) = cleared_whole
  use_whole t o h (load words answer t' u c) = load_whole _ words answer t c (use_whole _ _ _ u)
  use_whole t o h (start lane place tick answer t' before after u c) = start_whole _ lane place tick answer t before after c (use_whole _ _ _ u)
  use_whole t o h (hold lane answer t' u c) = lane_call_whole Hold tt _ lane answer t c (use_whole _ _ _ u)
  use_whole t o h (resume lane answer t' u c) = lane_call_whole Resume tt _ lane answer t c (use_whole _ _ _ u)
  use_whole t o h (abort lane answer t' u c) = lane_call_whole Abort tt _ lane answer t c (use_whole _ _ _ u)
  use_whole t o h (command block word answer t' before after u c) = command_whole _ block word answer t before after c (use_whole _ _ _ u)
  use_whole t o h (check pattern answer t' before after u c) = check_whole _ pattern answer t before after c (use_whole _ _ _ u)
  use_whole t o h (remove pattern answer t' u c) = remove_whole _ pattern answer t c (use_whole _ _ _ u)
  use_whole t o h (release pattern answer t' u c) = release_whole _ pattern answer t c (use_whole _ _ _ u)
  use_whole t o h (step lane answer t' o' u c) = steps_whole meaning _ _ lane answer t o c (use_whole _ _ _ u)
  use_whole t o h (take answer o' u c) = use_whole _ _ _ u
