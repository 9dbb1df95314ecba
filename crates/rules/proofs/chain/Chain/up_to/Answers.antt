use Rattle.std.proofs.Common.{◌≡◌, ℕ, ◌+◌, ◌<◌, ◌≤◌, List, length, take, sym, subst, rules, arith}
use Rattle.std.proofs.lemmas.List.{length-take}
use Rattle.rules.specs.declared.chain.Line.{Line}
use Rattle.rules.specs.Chain.{line_at, Lawful}
use Rattle.rules.specs.Steps.{Beginning}
use Rattle.rules.proofs.Chains.{ends_at}
use Rattle.rules.proofs.chain.Chain.up_to.Goals as goal

begins : (c ls : List Line) (i p : ℕ) → ls ≡ c → length ls ≤ 512 → i < length ls → (line_at ls i).place ≡ p → Beginning c (take (i + 1) ls) p
begins c ls i p e few h is = record {
  few = omega (arith, length-take (i + 1) ls);
  ends = λ count rule law. ends_at count rule ls i p (subst (Lawful count rule) (sym e) law) h is;
}

pub returns : goal.returns
returns c =
    let ls = c.lines-lines.result.now in
    let last = c.in_ok-last.last in
    let within : last < length ls = search rules in
    let here : (line_at ls last).place ≡ c.args.place = search rules in
    begins _ ls last c.args.place c.lines-lines.ensures.value c.lines-lines.ensures.few within here
