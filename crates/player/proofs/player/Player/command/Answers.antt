use Rattle.std.proofs.Common.{◌≡◌, false, is_ok, vec_items, ap}
use Rattle.calls.specs.Calls.{Command}
use Rattle.script.specs.declared.name.Name.TheVariants as name
use Rattle.script.specs.Calls as said
use Rattle.player.specs.Playing.{judged_told}
use Rattle.player.specs.Stages.{stage_of}
use Rattle.player.proofs.Keeping.{moved, command_kept, command_check, told_or_none}
use Rattle.player.proofs.Spending.{still_held}
use Rattle.player.proofs.player.Player.command.Goals as goal

pub invariant_of-self : goal.invariant_of-self
invariant_of-self g c =
    let self = c.args.self.now in
    let same = command_check self.sequencer.table c.command-answer.new.self.table c.as_mut_slice-memory.result.now c.command-answer.new.chain c.args.block c.args.word c.command-answer.result c.command-answer.ensures.exact in
    record { held = still_held self.permit self.sequencer.table.check c.command-answer.new.self.table.check same self.held }

pub returns : goal.returns
returns g c =
    let self = c.args.self.now in
    let answer = c.command-answer.result in
    let table = c.command-answer.new.self.table in
    let slice = c.as_mut_slice-memory.result.now in
    let left = c.command-answer.new.chain in
    let exact = moved (λ before after. Command self.sequencer.table c.args.block c.args.word answer table before after) (vec_items self.memory) slice left self.memory.items self.memory.len
    c.as_mut_slice-memory.ensures.value c.command-answer.auto.chain c.as_mut_slice-memory.ensures.len c.command-answer.ensures.exact in
    told_or_none g.O.Outlet.meaning (stage_of self) _ (said.command c.args.block c.args.word)
    (judged_told name.Command answer c.as_slice.result.now) (is_ok answer ≡ false) c.judged.result c.judged.ensures
    (answer, exact, ap (judged_told name.Command answer) c.as_slice.ensures.value, c.command-answer.ensures.outlet)
    (λ e. (command_kept self.sequencer.table table slice left c.args.block c.args.word answer e c.command-answer.ensures.exact, c.command-answer.ensures.outlet))
