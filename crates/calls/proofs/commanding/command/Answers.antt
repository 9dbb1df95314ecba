use Rattle.std.proofs.Common.{◌≡◌, true, length, Err, sym, subst}
use Rattle.std.proofs.lemmas.Result.{err_from_is_err_and}
use Rattle.words.specs.declared.node.Entry.{Entry}
use Rattle.table.specs.Changes.{is_urgent, row_of, rows_at, queued}
use Rattle.steps.specs.Limits.{has_room}
use Rattle.calls.specs.Refusals.{command_refusal, entry_in}
use Rattle.calls.specs.Judging.{Judged}
use Rattle.calls.proofs.Judged.{judged}
use Rattle.calls.proofs.Passed.{unless_ok, unless_err, passed, failed, commandable}
use Rattle.calls.proofs.commanding.command.Goals as goal

pub try_entry-requires : goal.try_entry-requires
try_entry-requires c =
    let t = c.args.table.now in
    let b = c.args.block in
    let lines = length c.args.chain.now in
    let given = unless_ok (command_refusal t b c.args.word lines) (entry_in c.args.word) c.in_ok-entry.entry c.in_ok-entry.ensures in
    let known = commandable t b c.args.word lines given.0 in
    let Room : Entry → Type 0 = λ e. has_room (row_of (rows_at t b) (is_urgent e)) ≡ true in
    record { room = subst Room (sym given.1) known.room; memory = known.memory }

pub returns : goal.returns
returns c =
    let t = c.args.table.now in
    let b = c.args.block in
    let before = c.args.chain.now in
    let after = c.try_entry.new.chain in
    let refusal = command_refusal t b c.args.word (length before) in
    let given = unless_ok refusal (entry_in c.args.word) c.in_ok-entry.entry c.in_ok-entry.ensures in
    let tried = c.try_entry.ensures in
    let Tried : Entry → Type 0 = λ e. Judged (queued t b e) c.try_entry.result t c.try_entry.new.table before after in
    passed refusal _ _ _ _ _ _ given.0 (subst Tried given.1 (judged (queued t b c.in_ok-entry.entry) t _ _ before after tried.judged tried.after))

pub returns-in_err-entry : goal.returns-in_err-entry
returns-in_err-entry c =
    let t = c.args.table.now in
    let before = c.args.chain.now in
    let refusal = command_refusal t c.args.block c.args.word (length before) in
    let fault = c.in_err-entry.field-0.0 in
    let entry = entry_in c.args.word in
    let Said : Type 0 = Judged (queued t c.args.block entry) (Err fault) t t before before in
    let p = err_from_is_err_and c.from_residual.result c.from_residual.ensures.1 in
    rw (p.1, p.2) (failed (Unit {0}) refusal fault t before Said (unless_err refusal entry fault c.in_err-entry.ensures))
