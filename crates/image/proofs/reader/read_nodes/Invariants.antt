use Rattle.std.proofs.Common.{◌≡◌, ◌-◌, length}
use Rattle.image.specs.Reading.{nodes_from, read_image}
use Rattle.image.proofs.reader.read_nodes.Given as goal

abbrev pub invariant-loop-placed : goal.invariant-loop-placed
invariant-loop-placed l =
    (l.reader.words.now ≡ l.words) × (length l.places ≡ 512)
    × (nodes_from (513 - l.reader.count) l.words l.reader.position l.reader.floor l.reader.count l.places ≡ read_image l.words)

abbrev pub decreases-loop-placed : goal.decreases-loop-placed
decreases-loop-placed l = 512 - l.reader.floor
