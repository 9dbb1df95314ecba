use Rattle.std.proofs.Common.{◌≤◌, map, length, ◌&&◌, sym, refl, ap, ◌∙◌, subst, of_calls, rules}
use Rattle.rules.specs.Chain.{lines_of}
use Rattle.rules.specs.Found.{marks}
use Rattle.reach.specs.Views.{scene_in}
use Rattle.reach.specs.Book.{line_of}
use Rattle.reach.specs.Verdicts.{with_chain, Verdict}
use Rattle.structure.specs.Lowest.{Yes}
use Rattle.reach.proofs.Alike.{shows_so}
use Rattle.reach.proofs.Judged.{of_kind, nowhere}
use Rattle.reach.proofs.verdict.judge.Goals as goal

pub returns-in_err-place : goal.returns-in_err-place
returns-in_err-place g c says computes =
    let s = scene_in c.args.view.now in
    let memory = c.args.chain.now in
    let d = c.derive-found.result in
    let lowest = c.in_err-place.ensures.found (λ p. marks d p && says p) (λ p small b k. search (rules, of_calls, computes)) in
    let none = nowhere s says d c.derive-found.ensures.found c.bounded.ensures lowest in
    subst (λ r. Verdict s (Yes says) r memory memory) (sym c.from_residual.ensures) (none, refl)

pub returns : goal.returns
returns g c says computes =
    let s = scene_in c.args.view.now in
    let d = c.derive-found.result in
    let found = c.derive-found.ensures.found in
    let memory = c.args.chain.now in
    let p = c.in_ok-place.place in
    let lowest = c.in_ok-place.ensures.found (λ p. marks d p && says p) (λ p small b k. search (rules, of_calls, computes)) in
    let steps = lines_of c.in_ok-steps.steps in
    let few : length steps ≤ 512 = subst (λ l. length l ≤ 512) c.lines.ensures.value c.lines.ensures.few in (
      of_kind s says d found p lowest.here,
      (map (line_of s) steps, shows_so s steps p few (c.in_ok-steps.ensures found), c.gather.ensures ∙ ap (λ l. with_chain memory (map (line_of s) l)) c.lines.ensures.value),
    )
