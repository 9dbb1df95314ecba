use Rattle.std.proofs.Common.{◌≤◌, ◌⊎◌, length, inl, inr, ⊎_elim, of_calls, arith}
use Rattle.std.proofs.lemmas.Bool.{cases_lt}
use Rattle.each.specs.Each.{ChangedEach}
use Rattle.each.proofs.Zips.{part_more, part_all, zipped_by}
use Rattle.each.proofs.change_each.Goals as goal

pub loop-i-preserved : goal.loop-i-preserved
loop-i-preserved g c =
    let k = c.loop-i in
    part_more (goal.F-post g c.args.change) c.args.items.now c.args.marks.now k.items k.i c.index-items-i.result c.index-marks-i.result c.change.result
    (omega (arith, c.min-i-end.ensures)) (omega (arith, c.min-i-end.ensures)) c.index-items-i.is c.index-marks-i.is (search of_calls) k.invariant

pub returns : goal.returns
returns g c =
    let answers = goal.F-post g c.args.change in
    let olds = c.args.items.now in
    let marks = c.args.marks.now in
    let k = c.loop-i in
    let few : (length k.items ≤ k.i) ⊎ (length marks ≤ k.i) = ⊎_elim (λ l. inr (omega (arith, c.min-i-end.ensures))) inl (cases_lt k.i (length k.items)) in
    let changed : ChangedEach answers olds marks k.items = part_all answers olds marks k.items k.i few k.invariant in
    record { changed = changed; value = λ f computes. zipped_by answers f computes olds marks k.items changed }
