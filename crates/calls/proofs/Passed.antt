-- What is known where no test of a call fails, and what is answered where one does.
use Rattle.std.proofs.Common.{◌≡◌, ℕ, ◌<◌, ◌≤◌, Bool, true, false, cond, ltb, List, Some, None, Ok, Err, Option, Result, sym, refl, subst, arith, ltb-false, ltb-true}
use Rattle.table.specs.declared.state.Table.{Table}
use Rattle.table.specs.Changes.{is_urgent, row_of, rows_at}
use Rattle.reach.specs.declared.line.Line.{Line}
use Rattle.words.specs.Format.{entry_of}
use Rattle.calls.specs.declared.fault.Fault.{Fault}
use Rattle.steps.specs.Limits.{has_room}
use Rattle.calls.specs.Refusals.{or_else, argument, lines_enough, not_busy, word_fault, entry_in, listed, command_refusal}
use Rattle.calls.specs.Judging.{Tested}
use Rattle.calls.specs.Trials.{unless}

some_none : {A : Type 0} (x : A) → ◌≡◌ {A = Option A} (Some x) None → ⊥
some_none x e = let z : ◌≡◌ {A = ℕ} 0 1 = cc in omega arith

err_ok : {A B : Type 0} (e : B) (x : A) → ◌≡◌ {A = Result A B} (Ok x) (Err e) → ⊥
err_ok e x h = let z : ◌≡◌ {A = ℕ} 0 1 = cc in omega arith

-- where none of two refuses, neither does the first, nor the second
neither : (a b : Option Fault) → or_else a b ≡ None → (a ≡ None) × (b ≡ None)
neither (Some fault) b e = absurd (some_none fault e)
neither None b e = (refl, e)

within : (b : Bool) (fault : Fault) → cond b None (Some fault) ≡ None → b ≡ true
within true fault e = refl
within false fault e = absurd (some_none fault e)

without : (b : Bool) (fault : Fault) → cond b (Some fault) None ≡ None → b ≡ false
without true fault e = absurd (some_none fault e)
without false fault e = refl

-- what was asked for is given only where nothing refuses, and a refusal is told
pub unless_ok : {X : Type 0} (refusal : Option Fault) (x y : X) → Ok y ≡ unless refusal x → (refusal ≡ None) × (y ≡ x)
unless_ok (Some fault) x y e = absurd (err_ok fault y e)
unless_ok None x y e = (refl, cc)

pub unless_err : {X : Type 0} (refusal : Option Fault) (x : X) (fault : Fault) → Err fault ≡ unless refusal x → refusal ≡ Some fault
unless_err (Some other) x fault e = cc
unless_err None x fault e = absurd (err_ok fault x (sym e))

pub passed : {X : Type 0} (refusal : Option Fault) (answer : Result X Fault) (t after_t : Table) (before after : List Line) (Said : Type 0)
    → refusal ≡ None → Said → Tested refusal answer t after_t before after Said
passed (Some fault) answer t after_t before after Said e said = absurd (some_none fault e)
passed None answer t after_t before after Said e said = said

pub failed : (X : Type 0) (refusal : Option Fault) (fault : Fault) (t : Table) (before : List Line) (Said : Type 0)
    → refusal ≡ Some fault → Tested {X = X} refusal (Err fault) t t before before Said
failed X refusal fault t before Said e =
    let P : Option Fault → Type 0 = λ o. Tested {X = X} o (Err fault) t t before before Said in
    subst P (sym e) (refl, refl, refl)

lines_known : (lines : ℕ) → lines_enough lines ≡ None → 512 ≤ lines
lines_known lines e = ltb-false lines 512 (without (ltb lines 512) _ e)

-- a command that is not refused has a block, memory for every chain, and room in the row
pub record Commandable (t : Table) (block word lines : ℕ) : Type 0 where
  pub block_small : block < 512
  pub room : has_room (row_of (rows_at t block) (is_urgent (entry_in word))) ≡ true
  pub memory : 512 ≤ lines

pub commandable : (t : Table) (block word lines : ℕ) → command_refusal t block word lines ≡ None → Commandable t block word lines
commandable t block word lines e0 =
    let p0 = neither (argument 0 (ltb block 512)) _ e0 in
    let p1 = neither (lines_enough lines) _ p0.1 in
    let p2 = neither (not_busy t.check) _ p1.1 in
    let p3 = neither (word_fault (entry_of word)) _ p2.1 in
    let p4 = neither (listed t block (entry_in word)) _ p3.1 in
    record {
      block_small = ltb-true block 512 (within (ltb block 512) _ p0.0);
      room = within _ _ p4.1;
      memory = lines_known lines p1.0;
    }
