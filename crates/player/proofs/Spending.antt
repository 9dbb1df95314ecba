-- The permit in hand, and what calls leave of it.
use Rattle.std.proofs.Common.{◌≡◌, ℕ, true, Some, None, Ok, Option, Result, sym, refl, subst, eqb-true}
use borrow.Author.Tests.{clash}
use Rattle.table.specs.declared.state.Table.{Table}
use Rattle.calls.specs.declared.fault.Fault.{Fault}
use Rattle.calls.specs.declared.permit.Permit.{Permit}
use Rattle.script.specs.declared.name.Name.{Name}
use Rattle.player.specs.Permits.{of_check}
use Rattle.player.specs.Playing.{TableOnly, UsesPermit}
use Rattle.player.specs.Stages.{Stage}
use Rattle.player.specs.Told.{accepted}

-- a permit stays that of the open check, where a call keeps the check
pub still_held : (permit : Option Permit) (check after : Option ℕ) → after ≡ check → of_check permit check ≡ true → of_check permit after ≡ true
still_held permit check after e held = subst (λ check. of_check permit check ≡ true) (sym e) held

-- the permit in hand is used, and accepted
module _ {O : Type 0} (name : Name) (Use : Table → ℕ → Result (Unit {0}) Fault → Table → Type 0) (before after : Stage O) (permit : Permit) where
  by_check : (check : Option ℕ) → of_check (Some permit) check ≡ true → Use before.table permit.pattern (Ok tt) after.table → TableOnly before after
      → UsesPermit name Use check before (accepted name) after
  by_check None held used rest = absurd (clash held)
  by_check (Some pattern) held used rest = (subst (λ pattern. Use before.table pattern (Ok tt) after.table) (eqb-true permit.pattern pattern held) used, refl, rest)

  pub uses_it : (hand : Option Permit) → Some permit ≡ hand → of_check hand before.table.check ≡ true → Use before.table permit.pattern (Ok tt) after.table → TableOnly before after
      → UsesPermit name Use before.table.check before (accepted name) after
  uses_it hand e held = by_check before.table.check (subst (λ hand. of_check hand before.table.check ≡ true) (sym e) held)
