-- The chain that a memory holds.
use Rattle.std.specs.Prelude.{ℕ, cond, List, [], ◌∷◌, replicate, ◌==◌}
use Rattle.reach.specs.declared.fault.Fault.{Fault as ReachFault}
use Rattle.reach.specs.declared.fault.Fault.TheVariants as reach
use Rattle.reach.specs.declared.line.Letter.TheVariants as letter
use Rattle.reach.specs.declared.line.Line.{Line}
use Rattle.calls.specs.declared.fault.Fault.{Fault}
use Rattle.calls.specs.declared.fault.Fault.TheVariants.{Range, Memory, Busy, Below, State, Row, Bare, Permit}

-- what stands in a memory before a chain is written into it
abbrev pub blank_line : Line
blank_line = record { place = 0; letter = letter.Lane; first = 0; second = 0 }

abbrev pub blank_memory : ℕ → List Line
blank_memory lines = replicate lines blank_line

-- the lines up to that of the place
abbrev pub until : ℕ → List Line → List Line
until place [] = []
until place (l ∷ ls) = cond (l.place == place) (l ∷ []) (l ∷ until place ls)

abbrev pub below_chain : ReachFault → List Line → List Line
below_chain (reach.Table fault) memory = []
below_chain (reach.Reach place) memory = until place memory

-- a refusal for reach has its chain in the memory; every other has none
abbrev pub chain_of : Fault → List Line → List Line
chain_of (Range argument) memory = []
chain_of (Memory needed) memory = []
chain_of (Busy pattern) memory = []
chain_of (Below fault) memory = below_chain fault memory
chain_of (State lane) memory = []
chain_of (Row block) memory = []
chain_of (Bare pattern) memory = []
chain_of (Permit pattern) memory = []
