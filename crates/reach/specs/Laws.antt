-- What is in reach, said in other ways, and what a change of a table does to it.
use Rattle.std.specs.Prelude.{◌≡◌, ℕ, ◌<◌, Bool, true, List, is_some, Some, Option}
use Rattle.words.specs.declared.node.Entry.{Entry}
use Rattle.words.specs.declared.node.Exit.{Exit}
use Rattle.words.specs.declared.node.Exit.TheVariants.{Place}
use Rattle.words.specs.declared.node.Node.{Node}
use Rattle.lanes.specs.declared.lane.Lane.{Lane}
use Rattle.lanes.specs.declared.lane.LaneState.TheVariants.{Idle}
use Rattle.rules.specs.Chain.{Derivable}
use Rattle.rules.specs.Laws.{Has}
use Rattle.structure.specs.Nodes.{node_at}
use Rattle.table.specs.declared.state.Table.{Table}
use Rattle.table.specs.Tables.{loaded, emptied}
use Rattle.table.specs.Changes.{lane_changed, state_changed, node_changed, queued, turned}
use Rattle.reach.specs.declared.line.Letter.{Letter}
use Rattle.reach.specs.declared.line.Line.{Line}
use Rattle.reach.specs.Scenes.{Scene, scene_of, node_in, Empty, Stands, Aims, Gives, Backed}
use Rattle.reach.specs.Chains.{InReach, Ends}
use Rattle.reach.specs.Book.{rule_count, reach_rule}

-- a set of places is closed under the four grounds: with the places that a ground names it has the place that the ground gives
abbrev pub Closed : Scene → (ℕ → Type 0) → Type 0
Closed s S = (x : Letter) (m n p : ℕ) → p < 512 → Gives s x m n p → Backed S x m n → S p

-- What is in reach: what lawful chains end on, what follows by the rule book, and the smallest set of places that is closed under the four
-- grounds.
pub record ReachSaid (s : Scene) : Type 0 where
  pub ended : (p : ℕ) → InReach s p → (c : List Line) × Ends s c p
  pub follows : (p : ℕ) → InReach s p → Derivable rule_count (reach_rule s) p
  pub followed : (p : ℕ) → Derivable rule_count (reach_rule s) p → InReach s p
  pub closed : Closed s (InReach s)
  pub least : (set : ℕ → Bool) → Closed s (Has set) → (p : ℕ) → InReach s p → Has set p

-- all that is in reach in b is in reach in a
abbrev pub Within : Scene → Scene → Type 0
Within b a = (p : ℕ) → InReach b p → InReach a p

-- every ground of b is a ground of a
abbrev pub Fewer : Scene → Scene → Type 0
Fewer b a = (x : Letter) (m n p : ℕ) → Gives b x m n p → Gives a x m n p

-- where the places that are in reach in a have all that the grounds of b give of them, b has no more in reach than a
abbrev pub Enclosed : Type 0
Enclosed = (a b : Scene) → Closed b (InReach a) → Within b a

-- fewer grounds, less reach
abbrev pub FewerWithin : Type 0
FewerWithin = (a b : Scene) → Fewer b a → Within b a

-- a lane that becomes idle adds nothing
abbrev pub IdleWithin : Type 0
IdleWithin = (t : Table) (l : ℕ) → Within (scene_of (state_changed t l Idle)) (scene_of t)

-- nor does emptying a pattern, which takes the repeats from every order to it
abbrev pub EmptiedWithin : Type 0
EmptiedWithin = (t : Table) (pattern : ℕ) → Within (scene_of (emptied t pattern)) (scene_of t)

-- each new node comes to a place that is empty and not in reach
abbrev pub Apart : Table → List (Option Node) → Type 0
Apart t new = (p : ℕ) → is_some (node_at new p) ≡ true → Empty (scene_of t) p × (InReach (scene_of t) p → ⊥)

-- loading such nodes leaves reach as it was
abbrev pub LoadedSame : Type 0
LoadedSame = (t : Table) (new : List (Option Node)) → Apart t new → Within (scene_of (loaded t new)) (scene_of t) × Within (scene_of t) (scene_of (loaded t new))

-- a lane that moves to a place in reach adds nothing
abbrev pub MovedWithin : Type 0
MovedWithin = (t : Table) (l : ℕ) (lane : Lane) → ((p : ℕ) → p < 512 → Stands lane.state p → InReach (scene_of t) p)
    → Within (scene_of (lane_changed t l lane)) (scene_of t)

-- nor does an order that joins a row of a block, if its destination is in reach wherever the block is: ground F gives it for a flow in reach
abbrev pub JoinedWithin : Type 0
JoinedWithin = (t : Table) (b : ℕ) (e : Entry) → ((p : ℕ) → p < 512 → Aims e p → InReach (scene_of t) b → InReach (scene_of t) p)
    → Within (scene_of (queued t b e)) (scene_of t)

-- nor does a lasting change of a next, if the new next is in reach wherever the block is: ground Q gives it
abbrev pub TurnedWithin : Type 0
TurnedWithin = (t : Table) (b : ℕ) (node : Node) (d : Exit) → node_in (scene_of t) b ≡ Some node
    → ((p : ℕ) → p < 512 → d ≡ Place p → InReach (scene_of t) b → InReach (scene_of t) p)
    → Within (scene_of (node_changed t b (turned node d))) (scene_of t)

-- what changes do to reach
pub record ReachLaws : Type 0 where
  pub enclosed : Enclosed
  pub fewer : FewerWithin
  pub idle : IdleWithin
  pub emptied : EmptiedWithin
  pub loaded : LoadedSame
  pub moved : MovedWithin
  pub joined : JoinedWithin
  pub turned : TurnedWithin
