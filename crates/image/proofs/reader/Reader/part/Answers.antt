use Rattle.std.proofs.Common.{◌+◌, ◌-◌, length, take, drop, sym, ap, ◌∙◌, arith, length-drop}
use Rattle.std.proofs.lemmas.List.{take_rest}
use Rattle.image.specs.Reading.{body_of}
use Rattle.image.proofs.Whole.{body_fits}
use Rattle.image.proofs.reader.Reader.part.Goals as goal

pub returns-in_ok-body-in-Some-Head-clause-within : goal.returns-in_ok-body-in-Some-Head-clause-within
returns-in_ok-body-in-Some-Head-clause-within c =
    let self = c.args.self.now in
    let kind = c.in-Some-Head.kind in
    let here = take (length self.words.now - self.position) (drop self.position self.words.now) in
    let is = c.in_ok-body-in-Some-Head.ensures ∙ ap (λ l. body_of kind l (self.position + 1)) (take_rest here 1) in
    let fits = body_fits kind (drop 1 here) (self.position + 1) c.in_ok-body-in-Some-Head.body (sym is) in
    omega (arith, length-drop 1 here, ap length (take_rest self.words.now self.position), length-drop self.position self.words.now, self.inside, c.in-len1-up.len_at_least)
