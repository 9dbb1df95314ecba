-- What it is for a call to bring nothing new into reach, and that hold, resume and abort bring nothing new.
use Rattle.std.proofs.Common.{◌≡◌, ℕ, ◌<◌, Some, sym, refl, ap, ◌∙◌, subst}
use Rattle.lanes.specs.declared.lane.Lane.{Lane}
use Rattle.lanes.specs.declared.lane.LaneCall.{LaneCall}
use Rattle.lanes.specs.declared.lane.LaneCall.TheVariants.{Start, Hold, Resume, Abort}
use Rattle.lanes.specs.declared.lane.LaneState.{LaneState}
use Rattle.lanes.specs.declared.lane.LaneState.TheVariants.{Idle, Running, Held}
use Rattle.lanes.specs.Calls.{state_answer, moved as lane_moved, lane_after}
use Rattle.lanes.specs.Lanes.{lane_at}
use Rattle.structure.specs.Nodes.{node_at}
use Rattle.table.specs.declared.state.Table.{Table}
use Rattle.table.specs.Tables.{in_pattern}
use Rattle.table.specs.Changes.{lane_changed, state_changed, rows_at}
use Rattle.reach.specs.declared.line.Letter.TheVariants as letter
use Rattle.reach.specs.Scenes.{scene_of, Empty, IsOfPattern, Stands, Next, Block, Ordered, Flow}
use Rattle.reach.specs.Chains.{InReach}
use Rattle.reach.specs.Laws.{Within}
use Rattle.reach.proofs.Induction.{reach_closed}
use Rattle.reach.proofs.Within.{idle, moved}

-- In n nothing is in reach that was not in t; a place in reach in t is not newly empty, nor newly of a pattern; and no other check is open.
pub record Calm (t n : Table) : Type 0 where
  pub within : Within (scene_of n) (scene_of t)
  pub empty : (p : ℕ) → InReach (scene_of t) p → Empty (scene_of n) p → Empty (scene_of t) p
  pub pattern : (k p : ℕ) → InReach (scene_of t) p → IsOfPattern (scene_of n) k p → IsOfPattern (scene_of t) k p
  pub check : (k : ℕ) → n.check ≡ Some k → t.check ≡ Some k

-- the nodes are the same, and so is the open check
pub calm_nodes : (t n : Table) → n.nodes ≡ t.nodes → n.check ≡ t.check → Within (scene_of n) (scene_of t) → Calm t n
calm_nodes t n nodes check within = record {
  within = within;
  empty = λ p r h. ap (λ x. node_at x p) (sym nodes) ∙ h;
  pattern = λ k p r h. ap (λ x. in_pattern k (node_at x p)) (sym nodes) ∙ h;
  check = λ k h. sym check ∙ h;
}

pub calm_same : (t : Table) → Calm t t
calm_same t = calm_nodes t t refl refl (λ p r. r)

-- a lane goes to a place in reach, or becomes idle
pub calm_lane : (t : Table) (l : ℕ) (lane : Lane) → ((p : ℕ) → p < 512 → Stands lane.state p → InReach (scene_of t) p) → Calm t (lane_changed t l lane)
calm_lane t l lane comes = calm_nodes t (lane_changed t l lane) refl refl (moved t l lane comes)

pub calm_idle : (t : Table) (l : ℕ) → Calm t (state_changed t l Idle)
calm_idle t l = calm_nodes t (state_changed t l Idle) refl refl (idle t l)

-- ### the grounds of a table

module _ (t : Table) where
  pub lane_reach : (l p : ℕ) → p < 512 → Stands (lane_at t.lanes l).state p → InReach (scene_of t) p
  lane_reach l p small s = reach_closed (scene_of t) letter.Lane l 0 p small (s, refl) tt

  pub next_reach : (m p : ℕ) → p < 512 → InReach (scene_of t) m → Next (node_at t.nodes m) p → InReach (scene_of t) p
  next_reach m p small r s = reach_closed (scene_of t) letter.Next m 0 p small (s, refl) r

  pub queue_reach : (m p : ℕ) → p < 512 → InReach (scene_of t) m → Block (node_at t.nodes m) → Ordered (rows_at t m) p → InReach (scene_of t) p
  queue_reach m p small r block s = reach_closed (scene_of t) letter.Queue m 0 p small (block, s, refl) r

  pub flow_reach : (m n p : ℕ) → p < 512 → InReach (scene_of t) m → InReach (scene_of t) n → Flow (node_at t.nodes m) n p → Block (node_at t.nodes n) → InReach (scene_of t) p
  flow_reach m n p small r q s block = reach_closed (scene_of t) letter.Flow m n p small (s, block) (r, q)

-- ### hold, resume and abort: the lane stays where it is, or becomes idle

-- the calls that send a lane nowhere
abbrev pub Stays : LaneCall → Type 0
Stays (Start place tick) = ⊥
Stays Hold = Unit {0}
Stays Resume = Unit {0}
Stays Abort = Unit {0}

stays_at : (call : LaneCall) → Stays call → (x : Lane) (s : LaneState) → x.state ≡ s → (p : ℕ) → Stands (lane_moved x (state_answer s call)).state p → Stands x.state p
stays_at (Start place tick) never x s e p h = absurd never
stays_at Hold stays x Idle e p h = h
stays_at Hold stays x (Running q tick) e p h = subst (λ y. Stands y p) (sym e) h
stays_at Hold stays x (Held q tick) e p h = h
stays_at Resume stays x Idle e p h = h
stays_at Resume stays x (Running q tick) e p h = h
stays_at Resume stays x (Held q tick) e p h = subst (λ y. Stands y p) (sym e) h
stays_at Abort stays x Idle e p h = h
stays_at Abort stays x (Running q tick) e p h = absurd h
stays_at Abort stays x (Held q tick) e p h = absurd h

pub call_calm : (call : LaneCall) → Stays call → (t : Table) (l : ℕ) → Calm t (lane_changed t l (lane_after (lane_at t.lanes l) call))
call_calm call stays t l =
    calm_lane t l (lane_after (lane_at t.lanes l) call)
    (λ p small h. lane_reach t l p small (stays_at call stays (lane_at t.lanes l) (lane_at t.lanes l).state refl p h))
