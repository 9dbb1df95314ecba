-- What a simple call makes of a table while no check is open.
use Rattle.std.proofs.Common.{◌≡◌, ℕ, List, None, Ok, Err, Result, ap, ◌∙◌, subst}
use Rattle.outlets.specs.Meaning.{Meaning}
use Rattle.table.specs.declared.fault.Fault.{Fault}
use Rattle.table.specs.declared.fault.Fault.TheVariants.{Words, Taken, Flaw}
use Rattle.table.specs.declared.state.Table.{Table}
use Rattle.table.specs.Loading.{Loads}
use Rattle.calls.specs.Calls.{LoadsIf}
use Rattle.script.specs.Calls.{Said, memory, load, write, start, hold, resume, abort, command, check, remove, release, step, take, lane, reach, row}
use Rattle.player.specs.Alone.{PlaysAlone}
use Rattle.player.specs.Playing.{Plays, load_told}
use Rattle.player.specs.Stages.{Stage}
use Rattle.player.specs.Told.{Told}

module _ (before after : Table) (words : List ℕ) where
  -- a load opens no check, and uses none up
  load_keeps_check : (found : Result ℕ Fault) → Loads before words found after → after.check ≡ before.check
  load_keeps_check (Ok count) l = ap (λ (t : Table). t.check) l.4
  load_keeps_check (Err (Words fault)) l = ap (λ (t : Table). t.check) l.1
  load_keeps_check (Err (Taken place)) l = ap (λ (t : Table). t.check) l.3
  load_keeps_check (Err (Flaw flaw)) l = ap (λ (t : Table). t.check) l.3

module _ {O : Type 0} (meaning : Meaning O) (before after : Stage O) (told : Told) (none : before.table.check ≡ None) where
  -- what a player says of a call says this of one that is simple
  pub plays_alone : (call : Said) → Plays meaning before call told after → PlaysAlone before.table call told after.table
  plays_alone (memory lines) p = tt
  plays_alone (load words) p =
      let own = subst (λ check. LoadsIf check before.table words p.0 after.table) none p.1 in
      (own.0, own.1, p.2 ∙ ap load_told own.2, load_keeps_check before.table after.table words own.0 own.1 ∙ none)
  plays_alone (write room) p = ap (λ (s : Stage O). s.table) p.1
  plays_alone (start number place tick) p = tt
  plays_alone (hold number) p = tt
  plays_alone (resume number) p = tt
  plays_alone (abort number) p = tt
  plays_alone (command block word) p = tt
  plays_alone (check pattern) p = tt
  plays_alone remove p = tt
  plays_alone release p = tt
  plays_alone (step number) p = tt
  plays_alone take p = p.3
  plays_alone (lane number) p = ap (λ (s : Stage O). s.table) p.1
  plays_alone (reach place) p = tt
  plays_alone (row block) p = ap (λ (s : Stage O). s.table) p.1
