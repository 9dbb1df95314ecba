-- One turn of the reader's loop: after count nodes, fuel for 513 - count is left.
use Rattle.std.proofs.Common.{◌≡◌, ℕ, suc, ◌+◌, ◌-◌, ◌≤◌, List, drop, set, Some, None, Ok, Err, Option, arith}
use Rattle.words.specs.declared.fault.Fault.{Fault}
use Rattle.words.specs.declared.node.Node.{Node}
use Rattle.image.specs.declared.reader.Placed.{Placed}
use Rattle.image.specs.Reading.{node_of, part_size, nodes_from}

module _ (ws : List ℕ) (at floor count : ℕ) (places : List (Option Node)) (few : count ≤ 512) where
  enough : 513 - count ≡ suc (512 - count)
  enough = omega arith

  fewer : 513 - (count + 1) ≡ 512 - count
  fewer = omega arith

  pub one_more : (p : Placed) → Ok (Some p) ≡ node_of (drop at ws) at floor count
      → nodes_from (513 - count) ws at floor count places ≡ nodes_from (513 - (count + 1)) ws (at + part_size (Some p)) (p.place + 1) (count + 1) (set places p.place (Some p.node))
  unfolding nodes_from
  one_more p e = rw (fewer, enough, ← e)

  pub all : Ok None ≡ node_of (drop at ws) at floor count → nodes_from (513 - count) ws at floor count places ≡ Ok (record { places = places; nodes = count })
  unfolding nodes_from
  all e = rw (enough, ← e)

  pub refused : (f : Fault) → Err f ≡ node_of (drop at ws) at floor count → nodes_from (513 - count) ws at floor count places ≡ Err f
  unfolding nodes_from
  refused f e = rw (enough, ← e)
