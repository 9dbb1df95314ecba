use Rattle.std.proofs.Common.{◌≡◌, length, get_or, Some, ap, ◌∙◌}
use Rattle.first_in.specs.Places.{place_of}
use Rattle.first_in.proofs.Rings.{ring_item}
use Rattle.first_in.proofs.list.FirstIn.item.Goals as goal

pub returns-clause-answer : goal.returns-clause-answer
returns-clause-answer g c =
    let q = c.args.self.now in
    let s = q.slots.now in
    let x = c.index-self-at.result in
    let is : x ≡ get_or s c.slot-at.result x = c.index-self-at.is in
    let slot : c.slot-at.result ≡ place_of q.head c.args.n (length s) = c.slot-at.ensures in
    ring_item s q.head q.len c.args.n x c.requires (is ∙ ap (λ i. get_or s i x) slot) ∙ ap Some is
