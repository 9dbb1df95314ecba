-- Which flaw is told of the nodes of a table: late before loop before listing, and of each the lowest place.
use Rattle.std.specs.Prelude.{ℕ, List, Some, None, Option}
use Rattle.words.specs.declared.node.Node.{Node}
use Rattle.structure.specs.declared.judge.Flaw.{Flaw}
use Rattle.structure.specs.declared.judge.Flaw.TheVariants.{Late, Loop, Listing}
use Rattle.structure.specs.Lowest.{Nowhere, Lowest, Yes}
use Rattle.structure.specs.Structure.{late, unlisted, Endless}

-- no place is late, endless or unlisted
pub record Flawless (nodes : List (Option Node)) : Type 0 where
  pub late : Nowhere (Yes (late nodes))
  pub loop : Nowhere (Endless nodes)
  pub listing : Nowhere (Yes (unlisted nodes))

abbrev pub Told : List (Option Node) → Option Flaw → Type 0
Told nodes None = Flawless nodes
Told nodes (Some (Late place)) = Lowest (Yes (late nodes)) place
Told nodes (Some (Loop place)) = Nowhere (Yes (late nodes)) × Lowest (Endless nodes) place
Told nodes (Some (Listing place)) = Nowhere (Yes (late nodes)) × Nowhere (Endless nodes) × Lowest (Yes (unlisted nodes)) place

-- number and place of a flaw
abbrev pub number_of : Flaw → ℕ
number_of (Late place) = 8
number_of (Loop place) = 9
number_of (Listing place) = 10

abbrev pub place_of : Flaw → ℕ
place_of (Late place) = place
place_of (Loop place) = place
place_of (Listing place) = place
