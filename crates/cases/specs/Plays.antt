-- What it means that calls, made one after another, are answered so.
use Rattle.std.specs.Prelude.{◌≡◌, ℕ, ◌⊎◌, List, [], ◌∷◌, length, replicate, Err, Option, Result}
use Rattle.words.specs.declared.node.Node.{Node}
use Rattle.structure.specs.Nodes.{node_at}
use Rattle.table.specs.declared.state.Rows.{Rows}
use Rattle.table.specs.declared.state.Table.{Table}
use Rattle.table.specs.Tables.{cleared}
use Rattle.table.specs.Changes.{rows_at}
use Rattle.reach.specs.declared.fault.Fault.TheVariants.{Reach}
use Rattle.reach.specs.declared.line.Letter.TheVariants as letter
use Rattle.reach.specs.declared.line.Line.{Line}
use Rattle.reach.specs.Scenes.{scene_of}
use Rattle.reach.specs.Chains.{Lawful}
use Rattle.outlets.specs.declared.message.Message.{Message}
use Rattle.outlets.specs.Meaning.{Meaning}
use Rattle.outlets.specs.Messages.{times}
use Rattle.steps.specs.declared.answer.Step.{Step}
use Rattle.calls.specs.declared.fault.Fault.{Fault}
use Rattle.calls.specs.declared.fault.Fault.TheVariants.{Below}
use Rattle.calls.specs.Calls.{Load, Start, Command, Check, Remove, Release, Steps, Takes}

-- ### an outlet

-- the messages that wait, the first that came first, and how many can wait
pub record Box : Type 0 where
  pub messages : List Message
  pub capacity : ℕ

abbrev pub waits : Box → Message → ℕ
waits o x = times x o.messages

abbrev pub total : Box → ℕ
total o = length o.messages

abbrev pub capacity_of : Box → ℕ
capacity_of o = o.capacity

abbrev pub meaning : Meaning Box
meaning = record { waits = waits; total = total; capacity = capacity_of }

-- ### acts

-- a call with its answer, or a look at the table: a chain is lawful there, a place has a node or none, rows wait at a place
pub data Act : Type 0 where
  load : (words : List ℕ) (answer : Result ℕ Fault) → Act
  start : (lane place tick : ℕ) (answer : Result (Unit {0}) Fault) → Act
  command : (block word : ℕ) (answer : Result (Unit {0}) Fault) → Act
  check : (pattern : ℕ) (answer : Result ℕ Fault) → Act
  remove : (pattern : ℕ) (answer : Result (Unit {0}) Fault) → Act
  release : (pattern : ℕ) (answer : Result (Unit {0}) Fault) → Act
  step : (lane : ℕ) (answer : Result Step Fault) → Act
  take : (answer : Option Message) → Act
  lawful : (chain : List Line) → Act
  node : (place : ℕ) (there : Option Node) → Act
  rows : (place : ℕ) (there : Rows) → Act

-- The acts come one after another, each as its definition says, from a table, an outlet and a chain memory on.
abbrev pub Plays : Table → Box → List Line → List Act → Type 0
Plays t o memory [] = Unit {0}
Plays t o memory (load words answer ∷ acts) = (then : Table) × Load t words answer then × Plays then o memory acts
Plays t o memory (start lane place tick answer ∷ acts) =
    (then : Table) × (after : List Line) × Start t lane place tick answer then memory after × Plays then o after acts
Plays t o memory (command block word answer ∷ acts) =
    (then : Table) × (after : List Line) × Command t block word answer then memory after × Plays then o after acts
Plays t o memory (check pattern answer ∷ acts) =
    (then : Table) × (after : List Line) × Check t pattern answer then memory after × Plays then o after acts
Plays t o memory (remove pattern answer ∷ acts) = (then : Table) × Remove t pattern answer then × Plays then o memory acts
Plays t o memory (release pattern answer ∷ acts) = (then : Table) × Release t pattern answer then × Plays then o memory acts
Plays t o memory (step lane answer ∷ acts) =
    (then : Table) × (left : Box) × Steps meaning t o lane answer then left × Plays then left memory acts
Plays t o memory (take answer ∷ acts) = (left : Box) × Takes meaning o answer left × Plays t left memory acts
Plays t o memory (lawful chain ∷ acts) = Lawful (scene_of t) chain × Plays t o memory acts
Plays t o memory (node place there ∷ acts) = (node_at t.nodes place ≡ there) × Plays t o memory acts
Plays t o memory (rows place there ∷ acts) = (rows_at t place ≡ there) × Plays t o memory acts

-- ### no other answers

-- the same answer, or both refusals for reach, whose place no rule decides
abbrev pub Alike : {X : Type 0} → Result X Fault → Result X Fault → Type 0
Alike answer other = (other ≡ answer) ⊎ ((p q : ℕ) × (answer ≡ Err (Below (Reach p))) × (other ≡ Err (Below (Reach q))))

-- Whatever the definitions let come of the calls, one after another, the answers are these, and what is seen of the table too.
abbrev pub Settled : Table → Box → List Line → List Act → Type 0
Settled t o memory [] = Unit {0}
Settled t o memory (load words answer ∷ acts) =
    (other : Result ℕ Fault) (then : Table) → Load t words other then → (other ≡ answer) × Settled then o memory acts
Settled t o memory (start lane place tick answer ∷ acts) =
    (other : Result (Unit {0}) Fault) (then : Table) (after : List Line) → Start t lane place tick other then memory after → Alike answer other × Settled then o after acts
Settled t o memory (command block word answer ∷ acts) =
    (other : Result (Unit {0}) Fault) (then : Table) (after : List Line) → Command t block word other then memory after → Alike answer other × Settled then o after acts
Settled t o memory (check pattern answer ∷ acts) =
    (other : Result ℕ Fault) (then : Table) (after : List Line) → Check t pattern other then memory after → Alike answer other × Settled then o after acts
Settled t o memory (remove pattern answer ∷ acts) =
    (other : Result (Unit {0}) Fault) (then : Table) → Remove t pattern other then → (other ≡ answer) × Settled then o memory acts
Settled t o memory (release pattern answer ∷ acts) =
    (other : Result (Unit {0}) Fault) (then : Table) → Release t pattern other then → (other ≡ answer) × Settled then o memory acts
Settled t o memory (step lane answer ∷ acts) =
    (other : Result Step Fault) (then : Table) (left : Box) → Steps meaning t o lane other then left → (other ≡ answer) × Settled then left memory acts
Settled t o memory (take answer ∷ acts) =
    (other : Option Message) (left : Box) → Takes meaning o other left → (other ≡ answer) × Settled t left memory acts
Settled t o memory (lawful chain ∷ acts) = Lawful (scene_of t) chain × Settled t o memory acts
Settled t o memory (node place there ∷ acts) = (node_at t.nodes place ≡ there) × Settled t o memory acts
Settled t o memory (rows place there ∷ acts) = (rows_at t place ≡ there) × Settled t o memory acts

-- ### cases

-- acts from a cleared table on, with an empty outlet of some capacity
pub record Case : Type 0 where
  pub capacity : ℕ
  pub acts : List Act

abbrev pub empty_box : ℕ → Box
empty_box capacity = record { messages = []; capacity = capacity }

-- 512 lines that say nothing
abbrev pub blank_memory : List Line
blank_memory = replicate 512 (record { place = 0; letter = letter.Lane; first = 0; second = 0 })

-- the acts come so, and can come in no other way
pub record Holds (case : Case) : Type 0 where
  pub plays : Plays cleared (empty_box case.capacity) blank_memory case.acts
  pub settled : Settled cleared (empty_box case.capacity) blank_memory case.acts
