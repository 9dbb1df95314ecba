use Rattle.std.proofs.Common.{◌≡◌, ◌-◌, ◌≤◌, List, length, get_or, take, set, Some, sym, refl, ap, ◌∙◌, subst, arith, length-set, length-take}
use Rattle.std.proofs.lemmas.List.{nil_from_length}
use Rattle.outlets.specs.declared.message.Message.{Message}
use Rattle.outlets.specs.Messages.{one, times, blank}
use Rattle.outlets.specs.Due.{messages, places, Earliest}
use Rattle.outlets.proofs.Listed.{nothing, taken}
use Rattle.outlets.proofs.Dues.{swapped_out, cut_take, earliest_best}
use Rattle.outlets.proofs.due.EarliestDueOutlet.take.Goals as goal

pub returns-then-len-eq0 : goal.returns-then-len-eq0
returns-then-len-eq0 c =
    let o = c.args.self.now in
    let none : length (messages o) ≡ 0 = simp length-take (omega arith) in
    record {
      step = nothing messages places o o none refl refl;
      earliest = λ x. ap (times x) (nil_from_length (messages o) none);
    }

pub returns : goal.returns
returns c =
    let o = c.args.self.now in
    let left = c.remove.new.self in
    let s = o.slots.now in
    let n = c.len-len.result in
    let b = c.soonest-at.result in
    let m = c.remove.result in
    let e = c.remove.ensures in
    let best = c.soonest-at.ensures in
    let ns : n ≤ length s = omega arith in
    let cut : messages o ≡ take n s = cut_take s o.len n c.len-len.ensures in
    let swapped = set s b (get_or s (n - 1) blank) in
    let slots : left.slots.now ≡ swapped = e.slots in
    let after : messages left ≡ take (n - 1) swapped = ap (λ k. take k left.slots.now) e.len ∙ ap (take (n - 1)) slots in
    let long : length swapped ≡ length s = length-set s b (get_or s (n - 1) blank) in
    record {
      step =
          taken messages places o left m
          (λ x. omega (arith, ap (times x) cut, swapped_out (one x) s n b blank best.0 ns, ap (times x) after, ap (one x) e.answer))
          (omega (arith, ap length cut, ap length after, length-take n s, length-take (n - 1) swapped))
          (ap length slots ∙ long);
      earliest =
          subst (λ (ms : List Message). Earliest (λ x. times x ms) (Some m)) (sym cut)
          (subst (λ (a : Message). Earliest (λ x. times x (take n s)) (Some a)) (sym e.answer) (earliest_best s n b ns best));
    }
