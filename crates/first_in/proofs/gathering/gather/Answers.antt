use Rattle.std.proofs.Common.{◌≡◌, ltb, length, ap, ◌∙◌, arith, rules}
use Rattle.first_in.specs.Items.{items, room}
use Rattle.first_in.proofs.Filled.{zip_long, filled_more, filled_first}
use Rattle.first_in.proofs.gathering.gather.Goals as goal

pub loop-item-preserved : goal.loop-item-preserved
loop-item-preserved g c =
    let i = c.loop-item.invariant in
    let e = c.push.ensures in
    let before = items c.loop-item.list in
    let full : c.push.result ≡ ltb (length before) (room c.loop-item.list) = e.answer in
    record {
      written = filled_more _ c.args.items.now (room c.new-list.result) c.loop-item.item-index c.push.result before (items c.push.new.self) c.item-item.result c.line.result c.loop-item-test.true c.item-item.is i.written c.line.ensures (full ∙ ap (λ n. ltb (length before) n) i.room) e.items;
      room = e.room ∙ i.room;
      named = e.named ∙ i.named;
      gathered = λ start h. e.gathered start (i.gathered start h);
    }

pub returns-clause-count : goal.returns-clause-count
returns-clause-count g c =
    let i = c.loop-item.invariant in
    let long = zip_long _ c.args.items.now (room c.new-list.result) c.loop-item.item-index (items c.loop-item.list) i.written in
    omega (arith, c.finish.ensures.count, c.new-list.ensures.room)

pub returns-clause-each : goal.returns-clause-each
returns-clause-each g c =
    let i = c.loop-item.invariant in
    let held = c.finish.ensures.slots c.args.slots.now (i.gathered c.args.slots.now c.new-list.ensures.gathered) in
    filled_first _ c.args.items.now (room c.new-list.result) c.loop-item.item-index c.finish.result (items c.loop-item.list) c.args.slots.now _ (omega arith) c.finish.ensures.count i.written (search rules)
