-- What becomes of a permit whose check is open.
use Rattle.std.proofs.Common.{◌≡◌, ℕ, Bool, true, cond, Ok, ap, ◌∙◌}
use Rattle.table.specs.declared.state.Table.{Table}
use Rattle.calls.specs.Calls.{removed, permit_told, is_open, Remove}

pub removing : (t after : Table) (pattern other : ℕ) → other ≡ pattern → true ≡ is_open t.check other → after ≡ removed t other → Remove t pattern (Ok tt) after
removing t after pattern other same opened gone =
    let here : true ≡ is_open t.check pattern = opened ∙ ap (is_open t.check) same in
    (ap (λ (b : Bool). permit_told b pattern) here, gone ∙ ap (removed t) same ∙ ap (λ (b : Bool). cond b (removed t pattern) t) here)
