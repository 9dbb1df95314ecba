use Rattle.std.proofs.Common.{◌≡◌, ◌+◌, ◌<◌, length, get_or, sym, ◌∙◌, subst, arith}
use Rattle.std.proofs.lemmas.List.{get_or_default}
use Rattle.std.specs.List.{IsFirstBest}
use Rattle.std.proofs.lemmas.List.MinMax.{IsFirstBest-none, IsFirstBest-keeps, IsFirstBest-takes}
use Rattle.outlets.specs.Messages.{blank}
use Rattle.outlets.specs.Due.{before}
use Rattle.outlets.proofs.Dues.{ranks_before}
use Rattle.outlets.proofs.due.EarliestDue.soonest.Goals as goal
use Rattle.outlets.proofs.due.EarliestDue.soonest.Goals.{then-sooner, else-sooner}

pub loop-i-init : goal.loop-i-init
loop-i-init c = IsFirstBest-none ranks_before c.args.self.now.slots.now

pub loop-i-preserved : goal.loop-i-preserved
loop-i-preserved c =
    let s = c.args.self.now.slots.now in
    let i = c.loop-i.i in
    let b = c.loop-i.best in
    let bl : b < length s = omega arith in
    let il : i < length s = omega arith in
    let x = get_or s i blank in
    let y = get_or s b blank in
    let xi : x ≡ get_or s i x = get_or_default s i blank x il in
    let yb : y ≡ get_or s b y = get_or_default s b blank y bl in
    elim c.if-sooner.branch [
      | then-sooner w ↦ subst (IsFirstBest before s (i + 1)) (sym w.best-is) (IsFirstBest-takes ranks_before s i b x y c.loop-i.invariant il xi yb (sym c.sooner.ensures ∙ w.if-sooner.true))
      | else-sooner w ↦ subst (IsFirstBest before s (i + 1)) (sym w.best-is) (IsFirstBest-keeps ranks_before s i b x y c.loop-i.invariant il xi yb (sym c.sooner.ensures ∙ w.if-sooner.false))
    ]

pub returns : goal.returns
returns c =
    let s = c.args.self.now.slots.now in
    let e : c.loop-i.i ≡ c.args.len = omega arith in
    subst (λ n. IsFirstBest before s n c.loop-i.best) e c.loop-i.invariant
