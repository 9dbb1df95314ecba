-- A list of places that is closed under the grounds of a scene has every place that is in reach there.
use Rattle.std.proofs.Common.{◌≡◌, ℕ, Bool, true, cond, not, ◌&&◌, ltb, List, Some, None, Option, sym, refl, ap, ◌∙◌, ⊎_elim}
use Rattle.std.proofs.lemmas.Bool.{and_parts, both_ways, not-true, lt-ltb, cond-true}
use Rattle.words.specs.declared.node.Body.{Body}
use Rattle.words.specs.declared.node.Body.TheVariants as body
use Rattle.words.specs.declared.node.Entry.{Entry}
use Rattle.words.specs.declared.node.Entry.TheVariants as entry
use Rattle.words.specs.declared.node.Node.{Node}
use Rattle.lanes.specs.declared.lane.Lane.{Lane}
use Rattle.lanes.specs.declared.lane.LaneState.{LaneState}
use Rattle.lanes.specs.declared.lane.LaneState.TheVariants.{Idle, Running, Held}
use Rattle.lanes.specs.Lanes.{idle_lane}
use Rattle.rows.specs.declared.plain.PlainRow.{PlainRow}
use Rattle.rows.specs.Entries.{blank}
use Rattle.reach.specs.declared.line.Letter.TheVariants as letter
use Rattle.reach.specs.Scenes.{Scene, node_in, rows_in, Stands, BodyNext, Next, Aims, Waits, BodyFlow, Flow}
use Rattle.reach.specs.Verdicts.{ComesTo}
use Rattle.reach.specs.Laws.{Closed}
use Rattle.reach.specs.Book.{exit_place, state_place, body_next, next_place, entry_place, body_target, target_of, body_flow_place, flow_place}
use Rattle.reach.proofs.Induction.{ended_reach, reach_in}
use Rattle.cases.proofs.Checks.{every, every_at, has, every_has, within, within_some}

-- ### where each ground leads

pub stands_place : (state : LaneState) (p : ℕ) → Stands state p → state_place state ≡ Some p
stands_place Idle p h = absurd h
stands_place (Running at tick) p h = ap Some h
stands_place (Held at tick) p h = ap Some h

body_next_is : (x : Body) (p : ℕ) → BodyNext x p → body_next x ≡ Some p
body_next_is (body.Message next offset event) p h = ap Some h
body_next_is (body.Block next period alternatives) p h = ap exit_place h
body_next_is (body.Flow next offset target order) p h = ap Some h

next_is : (node : Option Node) (p : ℕ) → Next node p → next_place node ≡ Some p
next_is None p h = absurd h
next_is (Some node) p h = body_next_is node.body p h

aims_is : (e : Entry) (p : ℕ) → Aims e p → entry_place e ≡ Some p
aims_is (entry.Pass pass) p h = absurd h
aims_is (entry.Order order) p h =
    cond-true (ltb 0 order.repeats) (exit_place order.destination) None (lt-ltb 0 order.repeats h.0) ∙ ap exit_place h.1

body_flow_is : (x : Body) (n p : ℕ) → BodyFlow x n p → (body_target x ≡ n) × (body_flow_place x ≡ Some p)
body_flow_is (body.Message next offset event) n p h = absurd h
body_flow_is (body.Block next period alternatives) n p h = absurd h
body_flow_is (body.Flow next offset target order) n p h = (h.0, ap exit_place h.1)

flow_is : (node : Option Node) (n p : ℕ) → Flow node n p → (target_of node ≡ n) × (flow_place node ≡ Some p)
flow_is None n p h = absurd h
flow_is (Some node) n p h = body_flow_is node.body n p h

-- ### a list that is closed

abbrev pub lane_kept : List ℕ → Lane → Bool
lane_kept ps lane = within ps (state_place lane.state)

abbrev pub entry_kept : List ℕ → Entry → Bool
entry_kept ps e = within ps (entry_place e)

abbrev pub flow_kept : List ℕ → Option Node → Bool
flow_kept ps node = cond (has ps (target_of node)) (within ps (flow_place node)) true

-- all that a place of the list leads to is in the list
abbrev pub place_kept : Scene → List ℕ → ℕ → Bool
place_kept s ps m =
    within ps (next_place (node_in s m)) && (every (entry_kept ps) (rows_in s m).urgent.entries
    && (every (entry_kept ps) (rows_in s m).plain.entries && flow_kept ps (node_in s m)))

abbrev pub closed : Scene → List ℕ → Bool
closed s ps = every (lane_kept ps) s.lanes.lanes.items && every (place_kept s ps) ps

module _ (ps : List ℕ) where
  row_kept : (row : PlainRow) (p : ℕ) → every (entry_kept ps) row.entries ≡ true → Waits row p → has ps p ≡ true
  row_kept row p all w = within_some ps _ p (aims_is _ p w.2) (every_at (entry_kept ps) row.entries blank refl all w.0)

  flow_in : (node : Option Node) (n p : ℕ) → flow_kept ps node ≡ true → Flow node n p → has ps n ≡ true → has ps p ≡ true
  flow_in node n p all f h =
      let at = flow_is node n p f in
      let there : has ps (target_of node) ≡ true = ap (has ps) at.0 ∙ h in
      within_some ps (flow_place node) p at.1 (sym (cond-true (has ps (target_of node)) (within ps (flow_place node)) true there) ∙ all)

  module _ (s : Scene) (yes : closed s ps ≡ true) where
    parts : (m : ℕ) → has ps m ≡ true
        → (within ps (next_place (node_in s m)) ≡ true) × (every (entry_kept ps) (rows_in s m).urgent.entries ≡ true)
        × (every (entry_kept ps) (rows_in s m).plain.entries ≡ true) × (flow_kept ps (node_in s m) ≡ true)
    parts m h =
        let all = every_has (place_kept s ps) ps (and_parts (every (lane_kept ps) s.lanes.lanes.items) (every (place_kept s ps) ps) yes).1 m h in
        let a = and_parts (within ps (next_place (node_in s m))) _ all in
        let b = and_parts (every (entry_kept ps) (rows_in s m).urgent.entries) _ a.1 in
        let c = and_parts (every (entry_kept ps) (rows_in s m).plain.entries) _ b.1 in
        (a.0, b.0, c.0, c.1)

    pub closed_is : Closed s (λ p. has ps p ≡ true)
    closed_is letter.Lane m n p small g k =
        let lanes = (and_parts (every (lane_kept ps) s.lanes.lanes.items) (every (place_kept s ps) ps) yes).0 in
        within_some ps _ p (stands_place _ p g.0) (every_at (lane_kept ps) s.lanes.lanes.items idle_lane refl lanes m)
    closed_is letter.Next m n p small g k = within_some ps _ p (next_is (node_in s m) p g.0) (parts m k).0
    closed_is letter.Queue m n p small g k =
        ⊎_elim (λ w. row_kept (rows_in s m).urgent p (parts m k).1 w) (λ w. row_kept (rows_in s m).plain p (parts m k).2 w) g.1
    closed_is letter.Flow m n p small g k = flow_in (node_in s m) n p (parts m k.0).3 g.0 k.1

    -- no lawful chain ends on a place of a kind of which the list has none
    pub none_comes : (Kind : ℕ → Type 0) (kind : ℕ → Bool) → ((p : ℕ) → Kind p → kind p ≡ true) → every (λ p. not (kind p)) ps ≡ true → ComesTo s Kind → ⊥
    none_comes Kind kind told none found =
        let p = found.1 in
        let there = reach_in s (λ q. has ps q ≡ true) closed_is p (ended_reach s found.0 p found.2) in
        both_ways (kind p) (not-true (kind p) (every_has (λ q. not (kind q)) ps none p there)) (told p found.3)
