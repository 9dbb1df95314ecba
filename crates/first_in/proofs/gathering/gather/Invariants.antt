use Rattle.std.proofs.Common.{◌≡◌, min, List, take}
use Rattle.std.specs.List.{AllZip}
use Rattle.first_in.specs.Items.{items, room, Gathered}
use Rattle.first_in.proofs.gathering.gather.Given as goal

abbrev pub invariant-loop-item : goal.invariant-loop-item
invariant-loop-item g l = record {
  written : AllZip (goal.F-post g l.line) (take (min l.item-index (room l.initial.list)) l.items) (items l.list);
  room : room l.list ≡ room l.initial.list;
  named : l.list.slots.ghost_name ≡ l.initial.list.slots.ghost_name;
  gathered : (start : List _) → Gathered start l.initial.list → Gathered start l.list;
}
