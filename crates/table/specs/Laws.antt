-- Sound tables, and what keeps them sound.
use Rattle.std.specs.Prelude.{◌≡◌, ℕ, List, take, Ok, Result}
use Rattle.image.specs.Nodes.{Proper, image_words, live}
use Rattle.image.specs.declared.places.TooShort.{TooShort}
use Rattle.structure.specs.Flaws.{Flawless}
use Rattle.table.specs.declared.fault.Fault.{Fault}
use Rattle.table.specs.declared.state.Table.{Table}
use Rattle.table.specs.Tables.{cleared, loaded}
use Rattle.table.specs.Loading.{Loads}

-- all nodes are allowed, and none is late, endless or unlisted
pub record Sound (t : Table) : Type 0 where
  pub proper : Proper t.nodes
  pub flawless : Flawless t.nodes

-- no other answer, and no other table after it, fits the load
abbrev pub LoadsOnce : Table → List ℕ → Result ℕ Fault → Table → Type 0
LoadsOnce before ws answer after = (other : Result ℕ Fault) (then : Table) → Loads before ws other then → (answer ≡ other) × (after ≡ then)

-- what a cleared table accepts is written back as the same words
abbrev pub WrittenBack : Table → List ℕ → Result ℕ Fault → Table → Type 0
WrittenBack before ws answer after = before ≡ cleared → (count : ℕ) → answer ≡ Ok count → image_words after.nodes ≡ ws

-- what is written of a sound table is accepted by a cleared one, as the same nodes
abbrev pub LoadsBack : Table → Result ℕ TooShort → List ℕ → Type 0
LoadsBack t answer out = Sound t → (n : ℕ) → answer ≡ Ok n
    → Loads cleared (take n out) (Ok (live t.nodes)) (loaded cleared t.nodes) × ((loaded cleared t.nodes).nodes ≡ t.nodes)
