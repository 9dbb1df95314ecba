use Rattle.std.proofs.Common.{◌≡◌, ℕ, ◌<◌, length, take, drop, refl, subst, arith}
use Rattle.outlets.specs.declared.request.Request.TheVariants.{Take}
use Rattle.outlets.specs.Balance.{Run, done}
use Rattle.outlets.proofs.Histories.{run_next, rest_next, run_balanced}
use Rattle.outlets.proofs.service.serve.Goals as goal

pub loop-i-init : goal.loop-i-init
loop-i-init g c = (done c.args.outlet.now, refl)

pub loop-i-preserved : goal.loop-i-preserved
loop-i-preserved g c =
    let o = g.O.Outlet in
    let i = c.loop-i.i in
    let requests = c.args.requests.now in
    let replies = c.loop-i.replies in
    let asked : i < length requests = omega arith in
    let room : i < length replies = omega arith in (
      run_next o.meaning c.args.outlet.now c.loop-i.outlet c.answer.new.outlet requests replies i Take c.answer.result asked room c.loop-i.invariant.0 c.answer.ensures.step,
      rest_next replies c.args.replies.now i c.answer.result c.loop-i.invariant.1,
    )

pub returns : goal.returns
returns g c =
    let o = g.O.Outlet in
    let n = c.min-n.result in
    let first = c.args.outlet.now in
    let last = c.loop-i.outlet in
    let requests = c.args.requests.now in
    let replies = c.loop-i.replies in
    let end : c.loop-i.i ≡ n = omega arith in
    let run : Run o.meaning first (take n requests) (take n replies) last =
    subst (λ (k : ℕ). Run o.meaning first (take k requests) (take k replies) last) end c.loop-i.invariant.0 in
    record {
      count = c.min-n.ensures;
      rest = subst (λ (k : ℕ). drop k replies ≡ drop k c.args.replies.now) end c.loop-i.invariant.1;
      run = run;
      balance = run_balanced o.meaning first last (take n requests) (take n replies) run;
    }
