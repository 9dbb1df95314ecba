use Rattle.std.proofs.Common.{◌≡◌, ◌+◌, length, drop}
use Rattle.image.specs.Nodes.{nodes_words}
use Rattle.image.specs.Writing.{puts}
use Rattle.image.proofs.writer.Writer.put_nodes.Given as goal

abbrev pub invariant-loop-place : goal.invariant-loop-place
invariant-loop-place l =
    (l.self.position + length (nodes_words l.place (drop l.place l.places)) ≡ l.initial.self.position + length (nodes_words 0 l.places))
    × (puts l.self.words.now l.self.position (nodes_words l.place (drop l.place l.places)) ≡ puts l.initial.self.words.now l.initial.self.position (nodes_words 0 l.places))
    × (length l.self.words.now ≡ length l.initial.self.words.now)
    × (l.self.words.ghost_name ≡ l.initial.self.words.ghost_name)
