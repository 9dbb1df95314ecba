use Rattle.std.proofs.Common.{◌-◌, ap, ◌∙◌}
use Rattle.first_in.specs.Items.{ring}
use Rattle.first_in.proofs.Rings.{ring_skip}
use Rattle.first_in.proofs.list.FirstIn.skip.Goals as goal

pub returns-clause-items : goal.returns-clause-items
returns-clause-items g c =
    let q = c.args.self.now in
    let s = q.slots.now in
    ap (λ h. ring s h (c.len.result - 1)) c.slot-self.ensures ∙ ring_skip s q.head q.len c.len.result c.requires c.len.ensures
