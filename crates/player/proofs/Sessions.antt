-- How a session begins, and what holds of a line however its answer is written.
use Rattle.std.proofs.Common.{Bool, true, false, IfOk, Ok, Err, Result, ap}
use borrow.Author.Tests.{clash}
use Rattle.table.specs.declared.state.Table.{Table}
use Rattle.script.specs.declared.call.Call.{Call}
use Rattle.script.specs.declared.call.Call.TheVariants as call
use Rattle.player.specs.Sessions.{Begins, Quiet}
use Rattle.player.specs.Stages.{Stage}

pub begins_quiet : {O : Type 0} (Understands : Call → Bool → Type 0) (held : Stage O) → Begins Understands held → Quiet Understands held
begins_quiet Understands held (true, asked, table, lines) only = absurd (clash (only (call.Memory 512) asked))
begins_quiet Understands held (false, asked, table, lines) only = (ap (λ (t : Table). t.check) table, lines)

pub if_ok : {X E P : Type 0} (r : Result X E) → P → IfOk r (λ _. P)
if_ok (Ok x) p = p
if_ok (Err e) p = tt
