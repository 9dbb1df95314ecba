-- From what reach tells to what a call answers.
use Rattle.std.proofs.Common.{◌≡◌, ℕ, ◌≤◌, cond, List, ◌++◌, length, drop, is_ok, Some, None, Ok, Err, Option, Result, ap, ◌∙◌, arith, take_all}
use Rattle.table.specs.declared.state.Table.{Table}
use Rattle.reach.specs.declared.fault.Fault.TheVariants as reach
use Rattle.reach.specs.declared.line.Line.{Line}
use Rattle.reach.specs.Scenes.{Scene, scene_of}
use Rattle.reach.specs.Verdicts.{Verdict}
use Rattle.calls.specs.declared.fault.Fault.{Fault}
use Rattle.calls.specs.declared.fault.Fault.TheVariants.{Range, Memory, Busy, Below, State, Row, Bare, Permit}
use Rattle.calls.specs.Judging.{Told, Judged}
use Rattle.calls.specs.Trials.{Allows, Tells}

-- a chain has at most 512 lines, so a memory of 512 holds all of it
pub told : (s : Scene) (Kind : ℕ → Type 0) (p : ℕ) (before after : List Line) → 512 ≤ length before → Verdict s Kind (Some p) before after → Told s Kind p before after
told s Kind p before after room v =
    let chain : List Line = v.1.0 in
    let fits : length chain ≤ length before = omega (arith, v.1.1.few) in
    (v.0, (chain, v.1.1, v.1.2 ∙ ap (λ (lines : List Line). lines ++ drop (length chain) before) (take_all (length before) chain fits)))

pub tells : (s : Scene) (Kind : ℕ → Type 0) (place : Option ℕ) (before after : List Line) → 512 ≤ length before → Verdict s Kind place before after → Tells s Kind place before after
tells s Kind None before after room v = v
tells s Kind (Some p) before after room v = told s Kind p before after room v

-- what is allowed stays, and what is refused is put back
pub judged : (trial t after_t : Table) (answer : Result (Unit {0}) Fault) (before after : List Line) → Allows (scene_of trial) answer before after
    → after_t ≡ cond (is_ok answer) trial t → Judged trial answer t after_t before after
judged trial t after_t (Ok done) before after a e = (a.0, e, a.1)
judged trial t after_t (Err (Below (reach.Reach place))) before after a e = (a, e)
judged trial t after_t (Err (Below (reach.Table fault))) before after a e = a
judged trial t after_t (Err (Range argument)) before after a e = a
judged trial t after_t (Err (Memory needed)) before after a e = a
judged trial t after_t (Err (Busy pattern)) before after a e = a
judged trial t after_t (Err (State lane)) before after a e = a
judged trial t after_t (Err (Row block)) before after a e = a
judged trial t after_t (Err (Bare pattern)) before after a e = a
judged trial t after_t (Err (Permit pattern)) before after a e = a
