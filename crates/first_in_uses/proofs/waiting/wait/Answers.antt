use Rattle.std.proofs.Common.{◌≡◌, ltb, length, ap, ◌∙◌}
use Rattle.first_in.specs.Items.{items, room}
use Rattle.first_in.proofs.Rings.{items_within}
use Rattle.first_in_uses.proofs.Newest.{waits_newest}
use Rattle.first_in_uses.proofs.waiting.wait.Goals as goal

pub returns : goal.returns
returns c =
    let q = c.args.list.now in
    let made = c.make_room-out.ensures in
    let e = c.push.ensures in
    let mid = items c.make_room-out.new.list in
    let full : c.push.result ≡ ltb (length mid) (room c.make_room-out.new.list) = e.answer in
    record {
      answer = made.answer;
      items = waits_newest (room q) (items q) mid (items c.push.new.self) c.args.call c.push.result (items_within q) made.items (full ∙ ap (λ n. ltb (length mid) n) made.room) e.items;
      room = e.room ∙ made.room;
    }
