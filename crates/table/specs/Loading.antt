-- What loading an image into a table answers, and what the table is then.
use Rattle.std.specs.Prelude.{◌≡◌, ℕ, List, Some, Ok, Err, Option, Result}
use Rattle.words.specs.declared.node.Node.{Node}
use Rattle.image.specs.declared.places.Image.{Image}
use Rattle.image.specs.Reading.{read_image}
use Rattle.structure.specs.Lowest.{Nowhere, Lowest, Yes}
use Rattle.structure.specs.Flaws.{Flawless, Told}
use Rattle.table.specs.declared.fault.Fault.{Fault}
use Rattle.table.specs.declared.fault.Fault.TheVariants.{Words, Taken, Flaw}
use Rattle.table.specs.declared.state.Table.{Table}
use Rattle.table.specs.Tables.{taken, merged, loaded}

-- what is told of nodes that would join the old ones: the lowest place taken, then the flaw of the nodes as they would be
abbrev pub RefusedNodes : List (Option Node) → List (Option Node) → Fault → Type 0
RefusedNodes old new (Words fault) = ⊥
RefusedNodes old new (Taken place) = Lowest (Yes (taken old new)) place
RefusedNodes old new (Flaw flaw) = Nowhere (Yes (taken old new)) × Told (merged old new) (Some flaw)

-- no place is taken, and the nodes as they would be hang together
pub record Welcome (old new : List (Option Node)) : Type 0 where
  pub apart : Nowhere (Yes (taken old new))
  pub flawless : Flawless (merged old new)

abbrev pub Judges : List (Option Node) → List (Option Node) → Result (List (Option Node)) Fault → Type 0
Judges old new (Err fault) = RefusedNodes old new fault
Judges old new (Ok nodes) = Welcome old new × (nodes ≡ merged old new)

-- A refusal is that of the words, or else that of their nodes beside those of the table, and changes nothing.
-- Otherwise all nodes are added, and their number is told.
abbrev pub Loads : Table → List ℕ → Result ℕ Fault → Table → Type 0
Loads before ws (Err (Words fault)) after = (read_image ws ≡ Err fault) × (after ≡ before)
Loads before ws (Err (Taken place)) after = (image : Image) × (read_image ws ≡ Ok image) × RefusedNodes before.nodes image.places (Taken place) × (after ≡ before)
Loads before ws (Err (Flaw flaw)) after = (image : Image) × (read_image ws ≡ Ok image) × RefusedNodes before.nodes image.places (Flaw flaw) × (after ≡ before)
Loads before ws (Ok count) after = (image : Image) × (read_image ws ≡ Ok image) × Welcome before.nodes image.places × (count ≡ image.nodes) × (after ≡ loaded before image.places)
