use Rattle.std.proofs.Common.{◌≡◌, ℕ, ap, ◌∙◌, arith}
use Rattle.table.specs.declared.state.Table.{Table}
use Rattle.calls.specs.Calls.{removed}
use Rattle.permit_use.proofs.Granted.{granted}
use Rattle.permit_use.proofs.remove_if_free.Goals as goal

pub returns-in-Ok : goal.returns-in-Ok
returns-in-Ok c =
    let t = c.args.table.now in
    let given = granted t c.check.new.table c.args.pattern c.in-Ok.permit.pattern c.args.chain.now c.check.new.chain c.in-Ok.ensures.told in
    record {
      removed = λ _. c.use_up.ensures ∙ ap (removed c.check.new.table) given.0 ∙ ap (λ (u : Table). removed u c.args.pattern) given.1;
      kept = λ e. let z : ◌≡◌ {A = ℕ} 0 1 = cc in absurd (omega arith);
    }
