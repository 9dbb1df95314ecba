-- What is written can be loaded.
use Rattle.std.specs.Prelude.{◌≡◌, ℕ, List, take, Ok, Result}
use Rattle.image.specs.Nodes.{live}
use Rattle.table.specs.declared.state.Table.{Table}
use Rattle.table.specs.Tables.{cleared, loaded}
use Rattle.table.specs.Laws.{Sound}
use Rattle.calls.specs.declared.fault.Fault.{Fault}
use Rattle.calls.specs.Calls.{Load}

-- what is written of a sound table is accepted by a cleared one, as the same nodes
abbrev pub LoadsBack : Table → Result ℕ Fault → List ℕ → Type 0
LoadsBack t answer out = Sound t → (n : ℕ) → answer ≡ Ok n
    → Load cleared (take n out) (Ok (live t.nodes)) (loaded cleared t.nodes) × ((loaded cleared t.nodes).nodes ≡ t.nodes)
