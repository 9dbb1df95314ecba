use Rattle.std.proofs.Common.{sym, ◌∙◌}
use Rattle.reach.specs.Views.{scene_in}
use Rattle.reach.proofs.Alike.{follows, followed, reach_said}
use Rattle.reach.proofs.verdict.in_reach.Goals as goal

pub returns : goal.returns
returns c =
    let s = scene_in c.args.view.now in
    let p = c.args.place in
    let found = c.derive.ensures.found in
    record {
      sound = λ yes. followed s p (found.sound p (sym c.has.ensures ∙ yes));
      complete = λ r. c.has.ensures ∙ found.complete p (follows s c.bounded.ensures p r);
      said = reach_said s c.bounded.ensures;
    }
