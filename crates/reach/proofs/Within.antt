-- What changes of a table do to reach.
use Rattle.std.proofs.Common.{◌≡◌, ℕ, Bool, true, false, ◌⊎◌, List, get_or, is_some, Some, None, Option, sym, refl, ap, ◌∙◌, subst, inl, inr, ⊎_elim}
use Rattle.words.specs.declared.node.Entry.{Entry}
use Rattle.words.specs.declared.node.Exit.{Exit}
use Rattle.words.specs.declared.node.Exit.TheVariants.{Place}
use Rattle.words.specs.declared.node.Node.{Node}
use Rattle.lanes.specs.Lanes.{idle_lane}
use Rattle.structure.specs.Nodes.{node_at}
use Rattle.table.specs.declared.state.Table.{Table}
use Rattle.table.specs.Tables.{empty_rows, over, merged, fresh, marked, cleaned, loaded, emptied}
use Rattle.table.specs.Changes.{lane_changed, node_changed, queued, joined_rows, rows_at, turned}
use Rattle.table.proofs.Keeps.{without_thinner}
use Rattle.reach.specs.Scenes.{Scene, scene_of, Stands, Aims, Next, Block, Ordered, Flow}
use Rattle.reach.specs.Chains.{InReach}
use Rattle.reach.specs.Laws.{Within, Enclosed, FewerWithin, IdleWithin, EmptiedWithin, Apart, LoadedSame, MovedWithin, JoinedWithin, TurnedWithin, ReachLaws}
use Rattle.reach.proofs.Induction.{reach_in, reach_closed}
use Rattle.reach.proofs.Sets.{set_cases, zipped_cases, zipped_same}
use Rattle.reach.proofs.Waiting.{ordered_joined, ordered_fresh, ordered_cleaned}
use Rattle.reach.proofs.Grounds.{LanesKept, NodesKept, RowsKept, closed_kept, nodes_thinner, nodes_same, next_turned, block_turned, flow_turned}

pub enclosed : Enclosed
enclosed a b closed = reach_in b (InReach a) closed

pub fewer : FewerWithin
fewer a b less = enclosed a b (λ x m n p small g k. reach_closed a x m n p small (less x m n p g) k)

-- b has no more in reach than a, if its lanes, its nodes and its rows add nothing to what is in reach in a
pub within : (a b : Scene) → LanesKept a b (InReach a) → NodesKept a.nodes b.nodes (InReach a) → RowsKept a b (InReach a) → Within b a
within a b lanes nodes rows = enclosed a b (closed_kept a b (InReach a) (reach_closed a) lanes nodes rows)

-- ### lanes

pub moved : MovedWithin
moved t l lane comes =
    within (scene_of t) (scene_of (lane_changed t l lane))
    (λ k p small h. ⊎_elim (λ new. inr (comes p small new.1)) inl (set_cases (λ x. Stands x.state p) t.lanes.lanes.items l k lane idle_lane h))
    (nodes_same t.nodes (InReach (scene_of t)))
    (λ m p small k block h. inl h)

pub idle : IdleWithin
idle t l = moved t l _ (λ p small h. absurd h)

-- ### emptying

emptied_rows : (t : Table) (pattern m p : ℕ) → Ordered (rows_at (emptied t pattern) m) p → Ordered (rows_at t m) p
emptied_rows t pattern m p h =
    let marks : List Bool = marked pattern t.nodes in
    ⊎_elim (λ o. o) (ordered_cleaned p marks (rows_at t m) (get_or marks m false)) (zipped_cases (λ r. Ordered r p) (cleaned marks) t.rows marks m empty_rows false h)

pub emptied_within : EmptiedWithin
emptied_within t pattern =
    within (scene_of t) (scene_of (emptied t pattern))
    (λ l p small h. inl h)
    (nodes_thinner t.nodes (emptied t pattern).nodes (InReach (scene_of t)) (λ m k. without_thinner t.nodes (marked pattern t.nodes) m))
    (λ m p small k block h. inl (emptied_rows t pattern m p h))

-- ### loading

-- where no node is loaded, the node stays, and so do the rows
merged_same : (old new : List (Option Node)) (m : ℕ) → node_at new m ≡ None → node_at (merged old new) m ≡ node_at old m
merged_same old new m e = zipped_same over old new m None None (ap (over (node_at old m)) e)

fresh_same : (t : Table) (new : List (Option Node)) (m : ℕ) → node_at new m ≡ None → rows_at (loaded t new) m ≡ rows_at t m
fresh_same t new m e = zipped_same fresh t.rows new m empty_rows None (ap (fresh (rows_at t m)) e)

-- a node is loaded at a place, or none is
loads : (new : List (Option Node)) (m : ℕ) → (is_some (node_at new m) ≡ true) ⊎ (node_at new m ≡ None)
loads new m = elim (node_at new m) as (λ o. (is_some o ≡ true) ⊎ (o ≡ None)) [ None ↦ inr refl | Some node ↦ inl refl ]

module _ (t : Table) (new : List (Option Node)) (apart : Apart t new) where
  -- no new node is at a place that was in reach
  nodes_less : (m : ℕ) → InReach (scene_of t) m → (node_at (merged t.nodes new) m ≡ None) ⊎ (node_at (merged t.nodes new) m ≡ node_at t.nodes m)
  nodes_less m k = ⊎_elim (λ y. absurd ((apart m y).1 k)) (λ e. inr (merged_same t.nodes new m e)) (loads new m)

  rows_less : (m p : ℕ) → Ordered (rows_at (loaded t new) m) p → Ordered (rows_at t m) p
  rows_less m p h = ⊎_elim (λ o. o) (ordered_fresh p (rows_at t m) (node_at new m)) (zipped_cases (λ r. Ordered r p) fresh t.rows new m empty_rows None h)

  loaded_less : Within (scene_of (loaded t new)) (scene_of t)
  loaded_less =
      within (scene_of t) (scene_of (loaded t new))
      (λ l p small h. inl h)
      (nodes_thinner t.nodes (merged t.nodes new) (InReach (scene_of t)) nodes_less)
      (λ m p small k block h. inl (rows_less m p h))

  -- a place that has a new node was empty
  nodes_more : (m : ℕ) → (node_at t.nodes m ≡ None) ⊎ (node_at t.nodes m ≡ node_at (merged t.nodes new) m)
  nodes_more m = ⊎_elim (λ y. inl (apart m y).0) (λ e. inr (sym (merged_same t.nodes new m e))) (loads new m)

  rows_more : (m p : ℕ) → Block (node_at t.nodes m) → Ordered (rows_at t m) p → Ordered (rows_at (loaded t new) m) p
  rows_more m p block h = ⊎_elim (λ y. absurd (subst Block (apart m y).0 block)) (λ e. subst (λ r. Ordered r p) (sym (fresh_same t new m e)) h) (loads new m)

  loaded_more : Within (scene_of t) (scene_of (loaded t new))
  loaded_more =
      within (scene_of (loaded t new)) (scene_of t)
      (λ l p small h. inl h)
      (nodes_thinner (merged t.nodes new) t.nodes (InReach (scene_of (loaded t new))) (λ m k. nodes_more m))
      (λ m p small k block h. inl (rows_more m p block h))

pub loaded_same : LoadedSame
loaded_same t new apart = (loaded_less t new apart, loaded_more t new apart)

-- ### an entry joins a row

-- an order that waits then waited before, or is the entry, and waits where it joined
queued_rows : (t : Table) (b : ℕ) (e : Entry) (m p : ℕ) → Ordered (rows_at (queued t b e) m) p → Ordered (rows_at t m) p ⊎ ((m ≡ b) × Aims e p)
queued_rows t b e m p h =
    elim (set_cases (λ r. Ordered r p) t.rows b m (joined_rows (rows_at t b) e) empty_rows h) [
      | inl new ↦ ⊎_elim (λ o. inl (subst (λ q. Ordered (rows_at t q) p) (sym new.0) o)) (λ aims. inr (new.0, aims)) (ordered_joined p (rows_at t b) e new.1)
      | inr old ↦ inl old
    ]

pub joined : JoinedWithin
joined t b e comes =
    within (scene_of t) (scene_of (queued t b e))
    (λ l p small h. inl h)
    (nodes_same t.nodes (InReach (scene_of t)))
    (λ m p small k block h. ⊎_elim inl (λ new. inr (comes p small new.1 (subst (InReach (scene_of t)) new.0 k))) (queued_rows t b e m p h))

-- ### a block is turned

module _ (t : Table) (b : ℕ) (node : Node) (d : Exit) (is : node_at t.nodes b ≡ Some node) where
  abbrev after : List (Option Node)
  after = (node_changed t b (turned node d)).nodes

  written : (P : Option Node → Type 0) (m : ℕ) → P (node_at after m) → ((m ≡ b) × P (Some (turned node d))) ⊎ P (node_at t.nodes m)
  written P m h = set_cases P t.nodes b m (Some (turned node d)) None h

  -- what holds of the node held at its place
  was : (P : Option Node → Type 0) (m : ℕ) → m ≡ b → P (Some node) → P (node_at t.nodes m)
  was P m e h = subst P (sym (ap (node_at t.nodes) e ∙ is)) h

  next_after : (m p : ℕ) → Next (node_at after m) p → Next (node_at t.nodes m) p ⊎ ((m ≡ b) × (d ≡ Place p))
  next_after m p h =
      let P : Option Node → Type 0 = λ x. Next x p in
      elim (written P m h) [
        | inl new ↦ ⊎_elim (λ o. inl (was P m new.0 o)) (λ e. inr (new.0, e)) (next_turned node d p new.1)
        | inr old ↦ inl old
      ]

  block_after : (m : ℕ) → Block (node_at after m) → Block (node_at t.nodes m)
  block_after m h = ⊎_elim (λ new. was Block m new.0 (block_turned node d new.1)) (λ o. o) (written Block m h)

  flow_after : (m n p : ℕ) → Flow (node_at after m) n p → Flow (node_at t.nodes m) n p
  flow_after m n p h =
      let P : Option Node → Type 0 = λ x. Flow x n p in
      ⊎_elim (λ new. was P m new.0 (flow_turned node d n p new.1)) (λ o. o) (written P m h)

pub turned_within : TurnedWithin
turned_within t b node d is comes =
    within (scene_of t) (scene_of (node_changed t b (turned node d)))
    (λ l p small h. inl h)
    (record {
      next = λ m p small k h. ⊎_elim inl (λ new. inr (comes p small new.1 (subst (InReach (scene_of t)) new.0 k))) (next_after t b node d is m p h);
      block = λ m k h. block_after t b node d is m h;
      flow = λ m n p k h. flow_after t b node d is m n p h;
    })
    (λ m p small k block h. inl h)

-- ### the laws together

pub reach_laws : ReachLaws
reach_laws = record {
  enclosed = enclosed;
  fewer = fewer;
  idle = idle;
  emptied = emptied_within;
  loaded = loaded_same;
  moved = moved;
  joined = joined;
  turned = turned_within;
}
