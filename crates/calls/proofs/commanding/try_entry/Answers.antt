use Rattle.std.proofs.Common.{◌≡◌, not, cond, ap, sym, ◌∙◌}
use Rattle.table.specs.declared.state.Table.{Table}
use Rattle.table.specs.Changes.{joined_rows, rows_at, queued}
use Rattle.calls.proofs.Restored.{put_back}
use Rattle.calls.proofs.commanding.try_entry.Goals as goal

pub returns-then-is_err-clause-after : goal.returns-then-is_err-clause-after
returns-then-is_err-clause-after c =
    let t = c.args.table.now in
    let b = c.args.block in
    let e = c.args.entry in
    let changed : c.queue.new.table ≡ queued t b e = c.if-not-queue.ensures.after in
    put_back t _ b (joined_rows (rows_at t b) e) _ _ changed c.rows_at-before.ensures c.put.ensures
    ∙ sym (ap (λ accepted. cond accepted (queued t b e) t) (c.if-is_err.ensures.negation))
