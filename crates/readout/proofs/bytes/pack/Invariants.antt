use Rattle.std.proofs.Common.{◌≡◌, ◌+◌, ◌*◌, ◌++◌, take, drop}
use Rattle.readout.specs.Bytes.{packed}
use Rattle.readout.proofs.bytes.pack.Given as goal

abbrev pub invariant-loop-k : goal.invariant-loop-k
invariant-loop-k l =
    (l.words ≡ take l.k-iterator.count (packed l.bytes) ++ drop l.k-iterator.count l.initial.words)
    × (l.k-iterator.count + l.k-iterator.iter.n ≡ l.count)
    × (l.k-iterator.iter.iter.rest.now ≡ drop (4 * l.k-iterator.count) l.bytes)
    × (l.k-iterator.iter.iter.size ≡ 4)
