-- The law: what holds after any calls.
use Rattle.std.proofs.Common.{ℕ, ◌<◌, List, subst}
use Rattle.lanes.specs.declared.lane.LaneCall.TheVariants.{Hold, Resume, Abort}
use Rattle.lanes.specs.declared.lane.LaneState.{LaneState}
use Rattle.lanes.specs.declared.lane.LaneState.TheVariants.{Idle, Running, Held}
use Rattle.lanes.specs.Lanes.{lane_at}
use Rattle.outlets.specs.declared.message.Message.{Message}
use Rattle.outlets.specs.Meaning.{Meaning}
use Rattle.table.specs.declared.state.Table.{Table}
use Rattle.reach.specs.Scenes.{Stands}
use Rattle.uses.specs.Uses.{Event, Use}
use Rattle.uses.specs.Uses.Use.{clear, load, start, hold, resume, abort, command, check, remove, release, step, take}
use Rattle.uses.specs.Law.{InRange, Law}
use Rattle.uses.proofs.Wholes.{KeptWhole, whole_of}
use Rattle.uses.proofs.WholeUses.{use_whole}
use Rattle.uses.proofs.Stepping.{Placed}
use Rattle.uses.proofs.Safe.{KeptSafe, safe_of, cleared_safe, load_safe, start_safe, call_safe, command_safe, check_safe, remove_safe, release_safe, step_safe}
use Rattle.uses.proofs.Exact.{exact}
use Rattle.uses.proofs.Balance.{use_balanced}

range_placed : (s : LaneState) (p : ℕ) → InRange s → Stands s p → p < 512
range_placed Idle p r h = absurd h
range_placed (Running q tick) p r h = subst (λ x. x < 512) h r.0
range_placed (Held q tick) p r h = subst (λ x. x < 512) h r.0

placed : (t : Table) → KeptWhole t → Placed t
placed t k l p h = range_placed (lane_at t.lanes l).state p (k.lanes l).0 h

module _ {O : Type 0} (meaning : Meaning O) where
  use_safe : (t : Table) (o : O) (h : List Event) → Use meaning t o h → KeptSafe t
  use_safe t o h (clear vacant) = cleared_safe
  use_safe t o h (load words answer t' u c) = load_safe _ words answer t c (use_safe _ _ _ u)
  use_safe t o h (start lane place tick answer t' before after u c) = start_safe _ lane place tick answer t before after c (use_safe _ _ _ u)
  use_safe t o h (hold lane answer t' u c) = call_safe Hold tt _ lane answer t c (use_safe _ _ _ u)
  use_safe t o h (resume lane answer t' u c) = call_safe Resume tt _ lane answer t c (use_safe _ _ _ u)
  use_safe t o h (abort lane answer t' u c) = call_safe Abort tt _ lane answer t c (use_safe _ _ _ u)
  use_safe t o h (command block word answer t' before after u c) = command_safe _ block word answer t before after c (use_safe _ _ _ u)
  use_safe t o h (check pattern answer t' before after u c) = check_safe _ pattern answer t before after c (use_safe _ _ _ u)
  use_safe t o h (remove pattern answer t' u c) = remove_safe _ pattern answer t c (use_safe _ _ _ u)
  use_safe t o h (release pattern answer t' u c) = release_safe _ pattern answer t c (use_safe _ _ _ u)
  use_safe t o h (step lane answer t' o' u c) = step_safe meaning _ _ lane answer t o c (placed _ (use_whole meaning _ _ _ u)) (use_safe _ _ _ u)
  use_safe t o h (take answer o' u c) = use_safe _ _ _ u

  pub law : Law meaning
  law t o h u =
      let k : KeptWhole t = use_whole meaning t o h u in
      record { safe = safe_of t (placed t k) (use_safe t o h u); exact = exact t; balanced = use_balanced meaning t o h u; whole = whole_of t k }
