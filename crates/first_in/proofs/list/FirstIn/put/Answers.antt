use Rattle.std.proofs.Common.{◌+◌, ◌<◌, length, set, ap, ◌∙◌, arith}
use Rattle.first_in.specs.Items.{ring}
use Rattle.first_in.specs.Places.{place_of}
use Rattle.first_in.proofs.Rings.{length-ring, place_front, ring_put, gathered_put}
use Rattle.first_in.proofs.list.FirstIn.put.Goals as goal

pub returns-clause-items : goal.returns-clause-items
returns-clause-items g c =
    let q = c.args.self.now in
    let s = q.slots.now in
    let lt : q.len < length s = omega (arith, length-ring s q.head q.len) in
    ap (λ i. ring (set s i c.args.x) q.head (q.len + 1)) c.slot-at.ensures ∙ ring_put s q.head q.len c.args.x lt

pub returns-clause-gathered : goal.returns-clause-gathered
returns-clause-gathered g c =
    let q = c.args.self.now in
    let size = length q.slots.now in
    let lt : q.len < size = omega (arith, length-ring q.slots.now q.head q.len) in
    λ start h. gathered_put q start c.slot-at.result c.args.x (c.slot-at.ensures ∙ ap (λ k. place_of k q.len size) h.front ∙ place_front q.len size lt) h
