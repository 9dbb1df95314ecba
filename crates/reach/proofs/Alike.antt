-- What follows by the rule book of a scene is what is in reach there, and chains of rules are chains of grounds.
use Rattle.std.proofs.Common.{◌≡◌, ℕ, ◌<◌, ◌≤◌, Bool, true, false, cond, ltb, List, map, length, Some, None, Option, sym, refl, ap, ◌∙◌, subst, inl, inr, ⊎_elim, arith}
use Rattle.std.proofs.lemmas.List.{get_or_past, get_or-map, length-map}
use Rattle.std.proofs.lemmas.Bool.{cases_lt, lt-ltb, ltb-true, cond-true, both_ways}
use Rattle.words.specs.declared.node.Body.{Body}
use Rattle.words.specs.declared.node.Body.TheVariants as body
use Rattle.words.specs.declared.node.Entry.{Entry}
use Rattle.words.specs.declared.node.Entry.TheVariants as entry
use Rattle.words.specs.declared.node.Exit.{Exit}
use Rattle.words.specs.declared.node.Exit.TheVariants.{End, Place}
use Rattle.words.specs.declared.node.Node.{Node}
use Rattle.lanes.specs.declared.lane.LaneState.{LaneState}
use Rattle.lanes.specs.declared.lane.LaneState.TheVariants.{Idle, Running, Held}
use Rattle.lanes.specs.Lanes.{idle_lane}
use Rattle.rows.specs.declared.plain.PlainRow.{PlainRow}
use Rattle.rows.specs.Entries.{blank}
use Rattle.rows.specs.Rows.{slot}
use Rattle.table.specs.Tables.{empty_rows}
use Rattle.rules.specs.declared.book.Rule.{Rule}
use Rattle.rules.specs.declared.chain.Line.{Line as Step}
use Rattle.rules.specs.Chain as rules
use Rattle.rules.specs.Laws.{Has}
use Rattle.rules.proofs.Chains.{grounded_weaker, derivable_closed, derivable_in}
use Rattle.reach.specs.declared.line.Letter.TheVariants as letter
use Rattle.reach.specs.declared.line.Line.{Line}
use Rattle.reach.specs.declared.source.Source.{Source}
use Rattle.reach.specs.declared.source.Source.TheVariants as source
use Rattle.reach.specs.Scenes.{Scene, node_in, rows_in, lane_in, Stands, BodyNext, Next, BodyBlock, Block, Aims, Waits, BodyFlow, Flow, Gives, Backed}
use Rattle.reach.specs.Views.{FourSlots, Bounded}
use Rattle.reach.specs.Chains.{line_at, Among, Right, Lawful, InReach, Ends, Names, Needed, Shows}
use Rattle.reach.specs.Book.{rule_count, source_of, exit_place, state_place, body_next, next_place, body_is_block, is_block, entry_place, waiting_place, body_target, target_of, body_flow_place, flow_place, rule_by, reach_rule, line_by, line_of}
use Rattle.reach.specs.Laws.{Closed, ReachSaid}
use Rattle.reach.proofs.Induction.{reach_closed, reach_in, reach_ended}
use Rattle.reach.proofs.Numbers.{Numbered, lane_numbered, next_numbered, flow_numbered, urgent_numbered, plain_numbered}

pub none_some : {A B : Type 0} (x : A) → ◌≡◌ {A = Option A} None (Some x) → B
none_some x e = let z : ◌≡◌ {A = ℕ} 0 1 = cc in absurd (omega arith)

some_same : {A : Type 0} (x y : A) → ◌≡◌ {A = Option A} (Some x) (Some y) → x ≡ y
some_same x y e = cc

-- ### what a rule gives, and the ground that it stands for

module _ (p : ℕ) where
  exit_so : (e : Exit) → exit_place e ≡ Some p → e ≡ Place p
  exit_so End h = none_some p h
  exit_so (Place q) h = ap Place (some_same q p h)

  exit_told : (e : Exit) → e ≡ Place p → exit_place e ≡ Some p
  exit_told e h = ap exit_place h

  stands_so : (s : LaneState) → state_place s ≡ Some p → Stands s p
  stands_so Idle h = none_some p h
  stands_so (Running at tick) h = some_same at p h
  stands_so (Held at tick) h = some_same at p h

  stands_told : (s : LaneState) → Stands s p → state_place s ≡ Some p
  stands_told Idle h = absurd h
  stands_told (Running at tick) h = ap Some h
  stands_told (Held at tick) h = ap Some h

  body_next_so : (b : Body) → body_next b ≡ Some p → BodyNext b p
  body_next_so (body.Message next offset event) h = some_same next p h
  body_next_so (body.Block next period alternatives) h = exit_so next h
  body_next_so (body.Flow next offset target order) h = some_same next p h

  next_so : (n : Option Node) → next_place n ≡ Some p → Next n p
  next_so None h = none_some p h
  next_so (Some node) h = body_next_so node.body h

  body_next_told : (b : Body) → BodyNext b p → body_next b ≡ Some p
  body_next_told (body.Message next offset event) h = ap Some h
  body_next_told (body.Block next period alternatives) h = exit_told next h
  body_next_told (body.Flow next offset target order) h = ap Some h

  next_told : (n : Option Node) → Next n p → next_place n ≡ Some p
  next_told None h = absurd h
  next_told (Some node) h = body_next_told node.body h

  -- a conclusion under a test, and the test
  tested : (b : Bool) (o : Option ℕ) → cond b o None ≡ Some p → (b ≡ true) × (o ≡ Some p)
  tested true o h = (refl, h)
  tested false o h = none_some p h

  aims_so : (e : Entry) → entry_place e ≡ Some p → Aims e p
  aims_so (entry.Pass pass) h = none_some p h
  aims_so (entry.Order order) h =
      let both = tested (ltb 0 order.repeats) (exit_place order.destination) h in
      (ltb-true 0 order.repeats both.0, exit_so order.destination both.1)

  aims_told : (e : Entry) → Aims e p → entry_place e ≡ Some p
  aims_told (entry.Pass pass) h = absurd h
  aims_told (entry.Order order) h = cond-true _ _ _ (lt-ltb 0 order.repeats h.0) ∙ exit_told order.destination h.1

  waits_so : (row : PlainRow) (k : ℕ) → waiting_place row k ≡ Some p → Waits row p
  waits_so row k h =
      let both = tested (ltb k row.count) (entry_place (slot row k)) h in
      (k, ltb-true k row.count both.0, aims_so (slot row k) both.1)

  waits_told : (row : PlainRow) (k : ℕ) → k < row.count → Aims (slot row k) p → waiting_place row k ≡ Some p
  waits_told row k l h = cond-true _ _ _ (lt-ltb k row.count l) ∙ aims_told (slot row k) h

  body_flow_so : (b : Body) → body_flow_place b ≡ Some p → BodyFlow b (body_target b) p
  body_flow_so (body.Message next offset event) h = none_some p h
  body_flow_so (body.Block next period alternatives) h = none_some p h
  body_flow_so (body.Flow next offset target order) h = (refl, exit_so order.destination h)

  flow_so : (n : Option Node) → flow_place n ≡ Some p → Flow n (target_of n) p
  flow_so None h = none_some p h
  flow_so (Some node) h = body_flow_so node.body h

  body_flow_told : (b : Body) (t : ℕ) → BodyFlow b t p → (body_target b ≡ t) × (body_flow_place b ≡ Some p)
  body_flow_told (body.Message next offset event) t h = absurd h
  body_flow_told (body.Block next period alternatives) t h = absurd h
  body_flow_told (body.Flow next offset target order) t h = (h.0, exit_told order.destination h.1)

  flow_told : (n : Option Node) (t : ℕ) → Flow n t p → (target_of n ≡ t) × (flow_place n ≡ Some p)
  flow_told None t h = absurd h
  flow_told (Some node) t h = body_flow_told node.body t h

false_true : {B : Type 0} → ◌≡◌ {A = Bool} false true → B
false_true e = absurd (both_ways false refl e)

body_block_so : (b : Body) → body_is_block b ≡ true → BodyBlock b
body_block_so (body.Message next offset event) h = false_true h
body_block_so (body.Block next period alternatives) h = tt
body_block_so (body.Flow next offset target order) h = false_true h

block_so : (n : Option Node) → is_block n ≡ true → Block n
block_so None h = false_true h
block_so (Some node) h = body_block_so node.body h

body_block_told : (b : Body) → BodyBlock b → body_is_block b ≡ true
body_block_told (body.Message next offset event) h = absurd h
body_block_told (body.Block next period alternatives) h = refl
body_block_told (body.Flow next offset target order) h = absurd h

block_told : (n : Option Node) → Block n → is_block n ≡ true
block_told None h = absurd h
block_told (Some node) h = body_block_told node.body h

module _ (s : Scene) where
  -- the line of a rule has the place that the rule gives
  place_is : (x : Source) (p : ℕ) → (line_by s x p).place ≡ p
  place_is (source.Lane l) p = refl
  place_is (source.Next q) p = refl
  place_is (source.Flow q) p = refl
  place_is (source.Urgent q k) p = refl
  place_is (source.Plain q k) p = refl

  -- the ground of a rule's line
  abbrev GivesBy : Line → ℕ → Type 0
  GivesBy l p = Gives s l.letter l.first l.second p

  abbrev BackedBy : (ℕ → Type 0) → Line → Type 0
  BackedBy S l = Backed S l.letter l.first l.second

  gives_so : (x : Source) (p : ℕ) → (rule_by s x).conclusion ≡ Some p → GivesBy (line_by s x p) p
  gives_so (source.Lane l) p h = (stands_so p (lane_in s l).state h, refl)
  gives_so (source.Next q) p h = (next_so p (node_in s q) h, refl)
  gives_so (source.Flow q) p h =
      let both = tested p (is_block (node_in s (target_of (node_in s q)))) (flow_place (node_in s q)) h in
      (flow_so p (node_in s q) both.1, block_so (node_in s (target_of (node_in s q))) both.0)
  gives_so (source.Urgent q k) p h =
      let both = tested p (is_block (node_in s q)) (waiting_place (rows_in s q).urgent k) h in
      (block_so (node_in s q) both.0, inl (waits_so p (rows_in s q).urgent k both.1), refl)
  gives_so (source.Plain q k) p h =
      let both = tested p (is_block (node_in s q)) (waiting_place (rows_in s q).plain k) h in
      (block_so (node_in s q) both.0, inr (waits_so p (rows_in s q).plain k both.1), refl)

  backed_so : (S : ℕ → Type 0) (x : Source) (p : ℕ) → rules.Grounded S (rule_by s x) → BackedBy S (line_by s x p)
  backed_so S (source.Lane l) p g = tt
  backed_so S (source.Next q) p g = g.0
  backed_so S (source.Flow q) p g = g
  backed_so S (source.Urgent q k) p g = g.0
  backed_so S (source.Plain q k) p g = g.0

  right_so : (S : ℕ → Type 0) (x : Source) (p : ℕ) → rules.Concludes (rule_by s x) p → rules.Grounded S (rule_by s x) → Right s S (line_by s x p)
  right_so S x p con g = (subst (GivesBy (line_by s x p)) (sym (place_is x p)) (gives_so x p con.0), backed_so S x p g)

  names_so : (x : Source) (p q : ℕ) → rules.Ground (rule_by s x) q → Names (line_by s x p).letter (line_by s x p).first (line_by s x p).second q
  names_so (source.Lane l) p q g = ⊎_elim (none_some q) (none_some q) g
  names_so (source.Next at) p q g = ⊎_elim (some_same at q) (none_some q) g
  names_so (source.Flow at) p q (inl e) = inl (some_same at q e)
  names_so (source.Flow at) p q (inr e) = inr (some_same (target_of (node_in s at)) q e)
  names_so (source.Urgent at k) p q g = ⊎_elim (some_same at q) (none_some q) g
  names_so (source.Plain at k) p q g = ⊎_elim (some_same at q) (none_some q) g

  -- ### chains of rules are chains of grounds

  abbrev book : ℕ → Rule
  book = reach_rule s

  abbrev lined : List Step → List Line
  lined c = map (line_of s) c

  module _ (c : List Step) where
    line_is : (i : ℕ) → i < length c → line_at (lined c) i ≡ line_of s (rules.line_at c i)
    line_is i h = get_or-map (line_of s) c i _ _ h

    place_at : (i : ℕ) → i < length c → (line_at (lined c) i).place ≡ (rules.line_at c i).place
    place_at i h = ap (λ l. l.place) (line_is i h) ∙ place_is (source_of (rules.line_at c i).rule) (rules.line_at c i).place

    among_so : (n p : ℕ) → n ≤ length c → rules.Among c n p → Among (lined c) n p
    among_so n p h a = (a.0, a.1, place_at a.0 (omega (arith, a.1)) ∙ a.2)

    lawful_so : rules.Lawful rule_count book c → Lawful s (lined c)
    lawful_so law =
        let long : length (lined c) ≡ length c = length-map c (line_of s) in
        record {
          once = λ i j lt h e. law.once i j lt (omega arith) (sym (place_at i (omega arith)) ∙ e ∙ place_at j (omega arith));
          places = λ i h. let l : i < length c = omega arith in subst (λ q. q < 512) (sym (place_at i l)) (law.named i l).1.1;
          right = λ i h. let l : i < length c = omega arith in
              let step : Step = rules.line_at c i in
              subst (Right s (Among (lined c) i)) (sym (line_is i l))
              (right_so (Among (lined c) i) (source_of step.rule) step.place (law.named i l).1
              (grounded_weaker (rules.Among c i) (Among (lined c) i) (λ q. among_so i q (omega arith)) (book step.rule) (law.grounded i l)));
        }

    ends_so : (p : ℕ) → rules.Ends rule_count book c p → Ends s (lined c) p
    ends_so p e =
        let w = e.last in
        record { lawful = lawful_so e.lawful; last = (w.0, length-map c (line_of s) ∙ w.1, place_at w.0 (omega (arith, w.1)) ∙ w.2) }

    needed_so : rules.Needed book c → Needed (lined c)
    needed_so need i h =
        let long : length (lined c) ≡ length c = length-map c (line_of s) in
        let n = need i (omega arith) in
        let step : Step = rules.line_at c n.0 in
        let names = names_so (source_of step.rule) step.place (rules.line_at c i).place n.3 in (
          n.0,
          n.1,
          omega (arith, n.2),
          subst (λ q. Names (line_at (lined c) n.0).letter (line_at (lined c) n.0).first (line_at (lined c) n.0).second q) (sym (place_at i (omega arith)))
              (subst (λ l. Names l.letter l.first l.second (rules.line_at c i).place) (sym (line_is n.0 n.2)) names),
        )

    pub shows_so : (p : ℕ) → length c ≤ 512 → rules.Leads rule_count book c p → Shows s (lined c) p
    shows_so p few l = record { ends = ends_so p l.ends; needed = needed_so l.needed; few = omega (arith, length-map c (line_of s)) }

  -- what follows by the book is in reach
  pub followed : (p : ℕ) → rules.Derivable rule_count book p → InReach s p
  followed = derivable_in rule_count book (InReach s)
      (λ k l p con g.
      let x : Source = source_of k in
      let line : Line = line_by s x p in
      reach_closed s line.letter line.first line.second p con.1 (gives_so x p con.0) (backed_so (InReach s) x p g))

  -- ### what is in reach follows by the book

  module _ (bounded : Bounded s) where
    -- a live place is one of the 512
    live_small : (m : ℕ) (P : Option Node → Type 0) → (P None → ⊥) → P (node_in s m) → m < 512
    live_small m P none h = ⊎_elim (λ l. omega (arith, bounded.nodes)) (λ l. absurd (none (subst P (get_or_past s.nodes m None l) h))) (cases_lt m (length s.nodes))

    lane_small : (m p : ℕ) → Stands (lane_in s m).state p → m < 8
    lane_small m p h = ⊎_elim
        (λ l. omega (arith, bounded.lanes))
        (λ l. absurd (subst (λ x. Stands x.state p) (get_or_past s.lanes.lanes.items m idle_lane l) h))
        (cases_lt m (length s.lanes.lanes.items))

    slot_small : (row : PlainRow) (k p : ℕ) → length row.entries ≤ 4 → Aims (slot row k) p → k < 4
    slot_small row k p few h = ⊎_elim (λ l. l) (λ l. absurd (subst (λ e. Aims e p) (get_or_past row.entries k blank (omega arith)) h)) (cases_lt k 4)

    four_slots : (m : ℕ) → FourSlots (rows_in s m)
    four_slots m = ⊎_elim (bounded.slots m) (λ l. subst FourSlots (sym (get_or_past s.rows m empty_rows l)) (omega arith, omega arith)) (cases_lt m (length s.rows))

    -- the rule of a source gives a place that follows
    by_rule : (x : Source) (p : ℕ) → Numbered x → rules.Concludes (rule_by s x) p → rules.Grounded (rules.Derivable rule_count book) (rule_by s x) → rules.Derivable rule_count book p
    by_rule x p n con g =
        derivable_closed rule_count book n.0 n.1 p
        (subst (λ y. rules.Concludes (rule_by s y) p) (sym n.2) con)
        (subst (λ y. rules.Grounded (rules.Derivable rule_count book) (rule_by s y)) (sym n.2) g)

    follows_closed : Closed s (rules.Derivable rule_count book)
    follows_closed letter.Lane m n p small g b = by_rule (source.Lane m) p (lane_numbered m (lane_small m p g.0)) (stands_told p (lane_in s m).state g.0, small) (tt, tt)
    follows_closed letter.Next m n p small g b =
        by_rule (source.Next m) p (next_numbered m (live_small m (λ o. Next o p) (λ h. h) g.0)) (next_told p (node_in s m) g.0, small) (b, tt)
    follows_closed letter.Queue m n p small g b =
        let live : m < 512 = live_small m Block (λ h. h) g.0 in
        let block = block_told (node_in s m) g.0 in
        let four = four_slots m in
        elim g.1 [
          | inl w ↦ by_rule (source.Urgent m w.0) p (urgent_numbered m live w.0 (slot_small (rows_in s m).urgent w.0 p four.0 w.2))
              (cond-true _ _ _ block ∙ waits_told p (rows_in s m).urgent w.0 w.1 w.2, small) (b, tt)
          | inr w ↦ by_rule (source.Plain m w.0) p (plain_numbered m live w.0 (slot_small (rows_in s m).plain w.0 p four.1 w.2))
              (cond-true _ _ _ block ∙ waits_told p (rows_in s m).plain w.0 w.1 w.2, small) (b, tt)
        ]
    follows_closed letter.Flow m n p small g b =
        let told = flow_told p (node_in s m) n g.0 in
        let block : is_block (node_in s (target_of (node_in s m))) ≡ true = ap (λ t. is_block (node_in s t)) told.0 ∙ block_told (node_in s n) g.1 in
        by_rule (source.Flow m) p (flow_numbered m (live_small m (λ o. Flow o n p) (λ h. h) g.0))
        (cond-true _ _ _ block ∙ told.1, small) (b.0, subst (rules.Derivable rule_count book) (sym told.0) b.1)

    pub follows : (p : ℕ) → InReach s p → rules.Derivable rule_count book p
    follows = reach_in s (rules.Derivable rule_count book) follows_closed

    pub reach_said : ReachSaid s
    reach_said = record {
      ended = reach_ended s;
      follows = follows;
      followed = followed;
      closed = reach_closed s;
      least = λ set closed. reach_in s (Has set) closed;
    }
