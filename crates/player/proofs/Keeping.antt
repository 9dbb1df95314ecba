-- What calls keep: the open check, and all of a table where they are refused.
use Rattle.std.proofs.Common.{◌≡◌, ℕ, false, List, ◌++◌, length, take, drop, is_ok, Some, None, Ok, Err, Option, Result, sym, refl, ap, ◌∙◌, subst, MatchResult}
use Rattle.std.proofs.lemmas.List.{take_at}
use borrow.Author.Tests.{clash}
use Rattle.outlets.specs.Meaning.{Meaning}
use Rattle.table.specs.declared.state.Table.{Table}
use Rattle.table.specs.Changes.{queued}
use Rattle.reach.specs.declared.fault.Fault.TheVariants as reach
use Rattle.reach.specs.declared.line.Line.{Line}
use Rattle.calls.specs.declared.fault.Fault.{Fault}
use Rattle.calls.specs.declared.fault.Fault.TheVariants.{Range, Memory, Busy, Below, State, Row, Bare, Permit}
use Rattle.calls.specs.Judging.{Tested, Judged}
use Rattle.calls.specs.Refusals.{command_refusal, entry_in}
use Rattle.calls.specs.Calls.{Command}
use Rattle.player.specs.declared.answer.Answer.{Answer}
use Rattle.script.specs.Calls.{Said}
use Rattle.player.specs.Playing.{Plays, Played}
use Rattle.player.specs.Stages.{Stage}
use Rattle.player.specs.Told.{Told, told}

-- ### a memory that was lent

pub lent : {X : Type 0} (left items : List X) (len : ℕ) → length left ≡ len → take len (left ++ drop (length left) items) ≡ left
lent left items len e = take_at left (drop (length left) items) len e

-- what holds of the lines that were lent holds of the memory
pub moved : {X : Type 0} (R : List X → List X → Type 0) (before slice left items : List X) (len : ℕ)
    → slice ≡ before → length left ≡ length slice → length slice ≡ len → R slice left → R before (take len (left ++ drop (length left) items))
moved R before slice left items len same kept all h = subst (λ after. R before after) (sym (lent left items len (kept ∙ all))) (subst (λ lines. R lines left) same h)

-- ### a refusal changes no table

module _ (t after_t : Table) (before after : List Line) where
  judged_kept : (trial : Table) (answer : Result (Unit {0}) Fault) → is_ok answer ≡ false → Judged trial answer t after_t before after → after_t ≡ t
  judged_kept trial (Ok done) e h = absurd (clash (sym e))
  judged_kept trial (Err (Below (reach.Reach place))) e h = h.1
  judged_kept trial (Err (Below (reach.Table fault))) e h = absurd h
  judged_kept trial (Err (Range argument)) e h = absurd h
  judged_kept trial (Err (Memory needed)) e h = absurd h
  judged_kept trial (Err (Busy pattern)) e h = absurd h
  judged_kept trial (Err (State number)) e h = absurd h
  judged_kept trial (Err (Row block)) e h = absurd h
  judged_kept trial (Err (Bare pattern)) e h = absurd h
  judged_kept trial (Err (Permit pattern)) e h = absurd h

  -- of a call that is judged by reach
  refused_kept : (refusal : Option Fault) (trial : Table) (answer : Result (Unit {0}) Fault)
      → is_ok answer ≡ false → Tested refusal answer t after_t before after (Judged trial answer t after_t before after) → after_t ≡ t
  refused_kept (Some fault) trial answer e h = h.1
  refused_kept None trial answer e h = judged_kept trial answer e h

  -- ### a call keeps the open check

  judged_check : (trial : Table) → trial.check ≡ t.check → (answer : Result (Unit {0}) Fault) → Judged trial answer t after_t before after → after_t.check ≡ t.check
  judged_check trial c (Ok done) h = ap (λ (x : Table). x.check) h.1 ∙ c
  judged_check trial c (Err fault) h = ap (λ (x : Table). x.check) (judged_kept trial (Err fault) refl h)

  -- one that is judged by reach, where the table that is judged has the same
  tested_check : (refusal : Option Fault) (trial : Table) → trial.check ≡ t.check → (answer : Result (Unit {0}) Fault)
      → Tested refusal answer t after_t before after (Judged trial answer t after_t before after) → after_t.check ≡ t.check
  tested_check (Some fault) trial c answer h = ap (λ (x : Table). x.check) h.1
  tested_check None trial c answer h = judged_check trial c answer h

  pub command_kept : (b w : ℕ) (answer : Result (Unit {0}) Fault) → is_ok answer ≡ false → Command t b w answer after_t before after → after_t ≡ t
  command_kept b w answer e h = refused_kept (command_refusal t b w (length before)) (queued t b (entry_in w)) answer e h

  pub command_check : (b w : ℕ) (answer : Result (Unit {0}) Fault) → Command t b w answer after_t before after → after_t.check ≡ t.check
  command_check b w answer h = tested_check (command_refusal t b w (length before)) (queued t b (entry_in w)) refl answer h

-- ### what is told, unless there is no memory left for it

module _ {O : Type 0} (meaning : Meaning O) where
  pub told_or_none : {E : Type 0} (before after : Stage O) (said : Said) (it : Told) (Failed : Type 0) (r : Result Answer E)
      → MatchResult r (λ answer. told answer ≡ it) (λ _. Failed) → Plays meaning before said it after
      → (Failed → (after.table ≡ before.table) × (after.outlet ≡ before.outlet)) → Played meaning before said r after
  told_or_none before after said it Failed (Ok answer) tells plays kept = subst (λ it. Plays meaning before said it after) (sym tells) plays
  told_or_none before after said it Failed (Err none) tells plays kept = kept tells
