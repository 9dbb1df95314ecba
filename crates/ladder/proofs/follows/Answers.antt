use Rattle.std.proofs.Common.{sym, ◌∙◌}
use Rattle.ladder.proofs.Exact.{only, each}
use Rattle.ladder.proofs.follows.Goals as goal

pub returns : goal.returns
returns c =
    let derived = c.derive.ensures in
    let p = c.args.place in
    record {
      only = λ e. only derived.laws p (derived.found.sound p (sym c.has.ensures ∙ e));
      each = λ h. c.has.ensures ∙ derived.found.complete p (each derived.laws p h);
    }
