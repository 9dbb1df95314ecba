-- When lines are a lawful chain, and one that shows how a place is come to.
use Rattle.std.proofs.Common.{◌≡◌, ℕ, zero, suc, ◌+◌, ◌<◌, Bool, true, false, not, ◌&&◌, ◌||◌, eqb, ltb, leb, List, [], ◌∷◌, ◌++◌, map, length, Some, None, Option, sym, refl, subst, inl, inr, ⊎_elim, append_assoc, append-nil, arith}
use Rattle.std.proofs.lemmas.Bool.{and_parts, or_cases, eqb-true, eq-eqb, ltb-true, leb-true, or_left, or_right, both_ways, not-true, false≢true}
use Rattle.words.specs.declared.node.Body.{Body}
use Rattle.words.specs.declared.node.Body.TheVariants as body
use Rattle.words.specs.declared.node.Entry.{Entry}
use Rattle.words.specs.declared.node.Entry.TheVariants as entry
use Rattle.words.specs.declared.node.Exit.{Exit}
use Rattle.words.specs.declared.node.Exit.TheVariants.{End, Place}
use Rattle.words.specs.declared.node.Node.{Node}
use Rattle.lanes.specs.declared.lane.LaneState.{LaneState}
use Rattle.lanes.specs.declared.lane.LaneState.TheVariants.{Idle, Running, Held}
use Rattle.rows.specs.declared.plain.PlainRow.{PlainRow}
use Rattle.rows.specs.Rows.{slot}
use Rattle.reach.specs.declared.line.Letter.{Letter}
use Rattle.reach.specs.declared.line.Letter.TheVariants as letter
use Rattle.reach.specs.declared.line.Line.{Line}
use Rattle.reach.specs.Scenes.{Scene, node_in, rows_in, lane_in, Stands, BodyNext, Next, BodyBlock, Block, Aims, Waits, BodyFlow, Flow, Gives, Backed}
use Rattle.reach.specs.Chains.{line_at, Among, Lawful, Names, Needed, Shows}
use Rattle.reach.specs.Book.{exit_place, state_place, body_next, next_place, body_is_block, is_block, entry_place, waiting_place, body_target, target_of, body_flow_place, flow_place}
use Rattle.reach.proofs.Induction.{lawful_none, lawful_push}
use Rattle.cases.proofs.Checks.{has, is_place, is_place_some, no_some, if_some}

-- ### what gives a place

place_stands : (state : LaneState) (p : ℕ) → state_place state ≡ Some p → Stands state p
place_stands Idle p h = no_some p h
place_stands (Running at tick) p h = cc
place_stands (Held at tick) p h = cc

exit_is : (e : Exit) (p : ℕ) → exit_place e ≡ Some p → e ≡ Place p
exit_is End p h = no_some p h
exit_is (Place q) p h = cc

body_leads : (x : Body) (p : ℕ) → body_next x ≡ Some p → BodyNext x p
body_leads (body.Message next offset event) p h = cc
body_leads (body.Block next period alternatives) p h = exit_is next p h
body_leads (body.Flow next offset target order) p h = cc

leads : (node : Option Node) (p : ℕ) → next_place node ≡ Some p → Next node p
leads None p h = no_some p h
leads (Some node) p h = body_leads node.body p h

body_block : (x : Body) → body_is_block x ≡ true → BodyBlock x
body_block (body.Message next offset event) h = absurd (false≢true h)
body_block (body.Block next period alternatives) h = tt
body_block (body.Flow next offset target order) h = absurd (false≢true h)

block : (node : Option Node) → is_block node ≡ true → Block node
block None h = absurd (false≢true h)
block (Some node) h = body_block node.body h

aims : (e : Entry) (p : ℕ) → entry_place e ≡ Some p → Aims e p
aims (entry.Pass pass) p h = no_some p h
aims (entry.Order order) p h =
    let some = if_some (ltb 0 order.repeats) (exit_place order.destination) p h in
    (ltb-true 0 order.repeats some.0, exit_is order.destination p some.1)

waits : (row : PlainRow) (k p : ℕ) → waiting_place row k ≡ Some p → Waits row p
waits row k p h =
    let some = if_some (ltb k row.count) (entry_place (slot row k)) p h in
    (k, ltb-true k row.count some.0, aims (slot row k) p some.1)

body_orders : (x : Body) (n p : ℕ) → body_target x ≡ n → body_flow_place x ≡ Some p → BodyFlow x n p
body_orders (body.Message next offset event) n p t h = no_some p h
body_orders (body.Block next period alternatives) n p t h = no_some p h
body_orders (body.Flow next offset target order) n p t h = (t, exit_is order.destination p h)

orders : (node : Option Node) (n p : ℕ) → target_of node ≡ n → flow_place node ≡ Some p → Flow node n p
orders None n p t h = no_some p h
orders (Some node) n p t h = body_orders node.body n p t h

-- ### a line

abbrev pub places : List Line → List ℕ
places c = map (λ l. l.place) c

-- one of the four slots leads to the place
abbrev pub in_row : PlainRow → ℕ → Bool
in_row row p = is_place (waiting_place row 0) p || (is_place (waiting_place row 1) p || (is_place (waiting_place row 2) p || is_place (waiting_place row 3) p))

abbrev pub gives : Scene → Letter → ℕ → ℕ → ℕ → Bool
gives s letter.Lane m n p = is_place (state_place (lane_in s m).state) p && eqb n 0
gives s letter.Next m n p = is_place (next_place (node_in s m)) p && eqb n 0
gives s letter.Queue m n p = is_block (node_in s m) && ((in_row (rows_in s m).urgent p || in_row (rows_in s m).plain p) && eqb n 0)
gives s letter.Flow m n p = is_place (flow_place (node_in s m)) p && (eqb (target_of (node_in s m)) n && is_block (node_in s n))

abbrev pub backed : List ℕ → Letter → ℕ → ℕ → Bool
backed ps letter.Lane m n = true
backed ps letter.Next m n = has ps m
backed ps letter.Queue m n = has ps m
backed ps letter.Flow m n = has ps m && has ps n

-- the line is right behind the lines c, and new
abbrev pub follows : Scene → List Line → Line → Bool
follows s c l =
    ltb l.place 512 && (not (has (places c) l.place)
    && (gives s l.letter l.first l.second l.place && backed (places c) l.letter l.first l.second))

row_waits : (row : PlainRow) (p : ℕ) → in_row row p ≡ true → Waits row p
row_waits row p h =
    let at : (k : ℕ) → is_place (waiting_place row k) p ≡ true → Waits row p = λ k e. waits row k p (is_place_some (waiting_place row k) p e) in
    ⊎_elim (at 0) (λ h1. ⊎_elim (at 1) (λ h2. ⊎_elim (at 2) (at 3)
    (or_cases (is_place (waiting_place row 2) p) (is_place (waiting_place row 3) p) h2))
    (or_cases (is_place (waiting_place row 1) p) _ h1))
    (or_cases (is_place (waiting_place row 0) p) _ h)

gives_is : (s : Scene) (x : Letter) (m n p : ℕ) → gives s x m n p ≡ true → Gives s x m n p
gives_is s letter.Lane m n p h =
    let a = and_parts (is_place (state_place (lane_in s m).state) p) _ h in
    (place_stands (lane_in s m).state p (is_place_some _ p a.0), eqb-true n 0 a.1)
gives_is s letter.Next m n p h =
    let a = and_parts (is_place (next_place (node_in s m)) p) _ h in
    (leads (node_in s m) p (is_place_some _ p a.0), eqb-true n 0 a.1)
gives_is s letter.Queue m n p h =
    let a = and_parts (is_block (node_in s m)) _ h in
    let b = and_parts (in_row (rows_in s m).urgent p || in_row (rows_in s m).plain p) _ a.1 in (
      block (node_in s m) a.0,
      ⊎_elim (λ w. inl (row_waits (rows_in s m).urgent p w)) (λ w. inr (row_waits (rows_in s m).plain p w)) (or_cases (in_row (rows_in s m).urgent p) (in_row (rows_in s m).plain p) b.0),
      eqb-true n 0 b.1,
    )
gives_is s letter.Flow m n p h =
    let a = and_parts (is_place (flow_place (node_in s m)) p) _ h in
    let b = and_parts (eqb (target_of (node_in s m)) n) _ a.1 in
    (orders (node_in s m) n p (eqb-true _ n b.0) (is_place_some _ p a.0), block (node_in s n) b.1)

has_among : (c : List Line) (p : ℕ) → has (places c) p ≡ true → Among c (length c) p
has_among [] p h = absurd (false≢true h)
has_among (l ∷ c) p h =
    ⊎_elim (λ e. (0, omega arith, eqb-true l.place p e)) (λ e. let a = has_among c p e in (suc a.0, omega (arith, a.1), a.2))
    (or_cases (eqb l.place p) (has (places c) p) h)

among_has : (c : List Line) (p j : ℕ) → j < length c → (line_at c j).place ≡ p → has (places c) p ≡ true
among_has [] p j less at = absurd (omega arith)
among_has (l ∷ c) p zero less at = or_left (eqb l.place p) (has (places c) p) (eq-eqb l.place p at)
among_has (l ∷ c) p (suc j) less at = or_right (eqb l.place p) (has (places c) p) (among_has c p j (omega arith) at)

backed_is : (c : List Line) (x : Letter) (m n : ℕ) → backed (places c) x m n ≡ true → Backed (Among c (length c)) x m n
backed_is c letter.Lane m n h = tt
backed_is c letter.Next m n h = has_among c m h
backed_is c letter.Queue m n h = has_among c m h
backed_is c letter.Flow m n h = let a = and_parts (has (places c) m) (has (places c) n) h in (has_among c m a.0, has_among c n a.1)

-- ### chains

-- the lines ls follow the lines c, one after another
abbrev pub lawful_behind : Scene → List Line → List Line → Bool
lawful_behind s c [] = true
lawful_behind s c (l ∷ ls) = follows s c l && lawful_behind s (c ++ (l ∷ [])) ls

behind_is : (s : Scene) (c ls : List Line) → lawful_behind s c ls ≡ true → Lawful s c → Lawful s (c ++ ls)
behind_is s c [] h law = subst (Lawful s) (sym (append-nil c)) law
behind_is s c (l ∷ ls) h law =
    let a = and_parts (follows s c l) (lawful_behind s (c ++ (l ∷ [])) ls) h in
    let small = and_parts (ltb l.place 512) _ a.0 in
    let new = and_parts (not (has (places c) l.place)) _ small.1 in
    let ground = and_parts (gives s l.letter l.first l.second l.place) _ new.1 in
    let grown : Lawful s (c ++ (l ∷ [])) =
    lawful_push s c l law (ltb-true l.place 512 small.0)
    (gives_is s l.letter l.first l.second l.place ground.0, backed_is c l.letter l.first l.second ground.1)
    (λ old. both_ways _ (not-true _ new.0) (among_has c l.place old.0 old.1 old.2)) in
    subst (Lawful s) (append_assoc c (l ∷ []) ls) (behind_is s (c ++ (l ∷ [])) ls a.1 grown)

pub lawful_is : (s : Scene) (c : List Line) → lawful_behind s [] c ≡ true → Lawful s c
lawful_is s c h = behind_is s [] c h (lawful_none s)

-- ### a chain that shows a place

abbrev pub ends_on : List Line → ℕ → Bool
ends_on [] p = false
ends_on (l ∷ []) p = eqb l.place p
ends_on (l ∷ (m ∷ c)) p = ends_on (m ∷ c) p

last_is : (c : List Line) (p : ℕ) → ends_on c p ≡ true → (i : ℕ) × (length c ≡ i + 1) × ((line_at c i).place ≡ p)
last_is [] p h = absurd (false≢true h)
last_is (l ∷ []) p h = (0, refl, eqb-true l.place p h)
last_is (l ∷ (m ∷ c)) p h = let r = last_is (m ∷ c) p h in (suc r.0, omega (arith, r.1), r.2)

abbrev pub names : Letter → ℕ → ℕ → ℕ → Bool
names letter.Lane m n p = false
names letter.Next m n p = eqb m p
names letter.Queue m n p = eqb m p
names letter.Flow m n p = eqb m p || eqb n p

abbrev pub named : List Line → ℕ → Bool
named [] p = false
named (l ∷ c) p = names l.letter l.first l.second p || named c p

-- each line but the last is named behind it
abbrev pub needed : List Line → Bool
needed [] = true
needed (l ∷ []) = true
needed (l ∷ (m ∷ c)) = named (m ∷ c) l.place && needed (m ∷ c)

names_is : (x : Letter) (m n p : ℕ) → names x m n p ≡ true → Names x m n p
names_is letter.Lane m n p h = absurd (false≢true h)
names_is letter.Next m n p h = eqb-true m p h
names_is letter.Queue m n p h = eqb-true m p h
names_is letter.Flow m n p h = ⊎_elim (λ e. inl (eqb-true m p e)) (λ e. inr (eqb-true n p e)) (or_cases (eqb m p) (eqb n p) h)

named_is : (c : List Line) (p : ℕ) → named c p ≡ true → (j : ℕ) × (j < length c) × Names (line_at c j).letter (line_at c j).first (line_at c j).second p
named_is [] p h = absurd (false≢true h)
named_is (l ∷ c) p h =
    ⊎_elim (λ e. (0, omega arith, names_is l.letter l.first l.second p e)) (λ e. let r = named_is c p e in (suc r.0, omega (arith, r.1), r.2))
    (or_cases (names l.letter l.first l.second p) (named c p) h)

needed_is : (c : List Line) → needed c ≡ true → Needed c
needed_is [] h i less = absurd (omega arith)
needed_is (l ∷ []) h i less = absurd (omega arith)
needed_is (l ∷ (m ∷ c)) h zero less =
    let r = named_is (m ∷ c) l.place (and_parts (named (m ∷ c) l.place) (needed (m ∷ c)) h).0 in
    (suc r.0, omega arith, omega (arith, r.1), r.2)
needed_is (l ∷ (m ∷ c)) h (suc i) less =
    let r = needed_is (m ∷ c) (and_parts (named (m ∷ c) l.place) (needed (m ∷ c)) h).1 i (omega arith) in
    (suc r.0, omega (arith, r.1), omega (arith, r.2), r.3)

abbrev pub shows : Scene → List Line → ℕ → Bool
shows s c p = lawful_behind s [] c && (ends_on c p && (needed c && leb (length c) 512))

pub shows_is : (s : Scene) (c : List Line) (p : ℕ) → shows s c p ≡ true → Shows s c p
shows_is s c p h =
    let a = and_parts (lawful_behind s [] c) _ h in
    let b = and_parts (ends_on c p) _ a.1 in
    let d = and_parts (needed c) _ b.1 in
    record { ends = record { lawful = lawful_is s c a.0; last = last_is c p b.0 }; needed = needed_is c d.0; few = leb-true (length c) 512 d.1 }
