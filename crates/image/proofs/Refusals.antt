-- Where an image is refused: at the end of its longest beginning that some accepted image has, with the number that the rules give.
use Rattle.std.proofs.Common.{◌≡◌, ℕ, zero, suc, ◌+◌, ◌-◌, ◌<◌, ◌≤◌, List, [], ◌∷◌, ◌++◌, length, get_or, take, drop, set, Some, None, Ok, Err, Option, sym, refl, ap, ◌∙◌, subst, inl, inr, ⊎_elim, append_assoc, append-nil, zero-add, arith, length-append}
use Rattle.std.proofs.lemmas.List.{drop_at, drop_more, get_or_at, take-append-drop, nil_from_length, length-take-le}
use Rattle.std.proofs.lemmas.Bool.{cases_lt}
use Rattle.words.specs.declared.fault.Fault.{Fault}
use Rattle.words.specs.declared.fault.Fault.TheVariants.{BadWord, NotRising, Ragged}
use Rattle.words.specs.declared.node.Body.{Body}
use Rattle.words.specs.declared.node.Node.{Node}
use Rattle.words.specs.declared.word.Kind.{Kind}
use Rattle.words.specs.declared.word.Word.{Word}
use Rattle.words.specs.declared.word.Word.TheVariants as word
use Rattle.words.specs.Faults.{number_of, place_of}
use Rattle.words.specs.Format.{read, written, then as maybe}
use Rattle.words.proofs.Back.{writes_back}
use Rattle.image.specs.Nodes.{kind_of, body_words, node_words, nodes_words, image_words, live, Proper}
use Rattle.image.specs.Reading.{alternative_of, alternative_said, body_of, body_size, node_of, read_image, nothing}
use Rattle.image.specs.Laws.{Accepted, Begun, Boundary, Miscounted, Followed, Torn, Falling, Refused}
use Rattle.image.proofs.Wants.{Closed, refuted}
use Rattle.image.proofs.Bodies.{reader, reader_good, body_link}
use Rattle.image.proofs.Whole.{body_read, body_long}
use Rattle.image.proofs.Slots.{over, over_above}
use Rattle.image.proofs.Parts.{Part, missing, strange, falling, broken, whole, miscounted, followed, ended, part, at_place, begins, falls, miscounts, follows}
use Rattle.image.proofs.Run.{run, run_some, run_none, run_err, reads_by, Stands, at_start, one_node, one_words, Front, front, node_long, all_accepted, comes_to, end_back, live_few}

-- ### beginnings of lists

take_add : {A : Type 0} (xs ys : List A) (j : ℕ) → take (length xs + j) (xs ++ ys) ≡ xs ++ take j ys
take_add [] ys j = ap (λ n. take n ys) (zero-add j)
take_add (x ∷ xs) ys j = let e : length (x ∷ xs) + j ≡ suc (length xs + j) = omega arith in ap (λ n. take n (x ∷ (xs ++ ys))) e ∙ ap (λ l. x ∷ l) (take_add xs ys j)

take_split : {A : Type 0} (i j : ℕ) (xs : List A) → take (i + j) xs ≡ take i xs ++ take j (drop i xs)
take_split zero j xs = ap (λ n. take n xs) (zero-add j)
take_split (suc i) j [] = let e : suc i + j ≡ suc (i + j) = omega arith in ap (λ n. take n []) e ∙ sym (nil j)
  where
    nil : {A : Type 0} (j : ℕ) → take {A = A} j [] ≡ []
    nil zero = refl
    nil (suc j) = refl
take_split (suc i) j (x ∷ xs) = let e : suc i + j ≡ suc (i + j) = omega arith in ap (λ n. take n (x ∷ xs)) e ∙ ap (λ l. x ∷ l) (take_split i j xs)

-- ### what a refusal tells of the words ws, from a state of the reader

pub record Failing (ws : List ℕ) (k floor count : ℕ) (places : List (Option Node)) (rest : List ℕ) (at : ℕ) (f : Fault) : Type 0 where
  pub index : ℕ
  pub there : place_of f ≡ at + index
  pub within : index ≤ length rest
  pub shut : index < length rest → (more : List ℕ) → run k floor count places (take (suc index) rest ++ more) at ≡ Err f
  pub begun : Begun (take (place_of f) ws)
  pub four : number_of f ≡ 4 → place_of f < length ws
  pub six : number_of f ≡ 6 → Torn ws (place_of f)
  pub five : number_of f ≡ 5 → Falling ws (place_of f)

module _ (ws : List ℕ) (k floor count : ℕ) (places : List (Option Node)) (rest : List ℕ) (s : Stands floor count places) (split : ws ≡ nodes_words 0 places ++ rest) where
  abbrev at : ℕ
  at = length (nodes_words 0 places)

  -- the words up to the index j of those that are left
  front_words : (j : ℕ) → take (at + j) ws ≡ nodes_words 0 places ++ take j rest
  front_words j = ap (take (at + j)) split ∙ take_add (nodes_words 0 places) rest j

  whole_nodes : take at ws ≡ nodes_words 0 places
  whole_nodes = let e : at + 0 ≡ at = omega arith in sym (ap (λ n. take n ws) e) ∙ front_words 0 ∙ append-nil (nodes_words 0 places)

  long : length ws ≡ at + length rest
  long = ap length split ∙ length-append (nodes_words 0 places) rest

  begun_nodes : Begun (take at ws)
  begun_nodes = (
    written (word.End (live places)) ∷ [],
    record { places = places; nodes = live places },
    record { proper = s.proper; words = ap (λ l. l ++ written (word.End (live places)) ∷ []) whole_nodes; count = refl },
  )

  first_word : (w : ℕ) (after : List ℕ) → rest ≡ w ∷ after → get_or ws at 0 ≡ w
  first_word w after is = ap (λ l. get_or l at 0) (split ∙ ap (λ l. nodes_words 0 places ++ l) is) ∙ get_or_at (nodes_words 0 places) w after 0 at refl

  boundary : (w : ℕ) (after : List ℕ) → rest ≡ w ∷ after → Boundary ws at places
  boundary w after is = record { there = omega (arith, long, ap length is); proper = s.proper; nodes = whole_nodes }

  -- a fault at the first word that is left
  at_word : (w : ℕ) (after : List ℕ) (f : Fault) → rest ≡ w ∷ after → place_of f ≡ at → ((more : List ℕ) → node_of (w ∷ more) at floor count ≡ Err f)
      → (number_of f ≡ 6 → Torn ws at) → (number_of f ≡ 5 → Falling ws at) → Failing ws (suc k) floor count places rest at f
  at_word w after f is p h six five = record {
    index = 0;
    there = omega arith;
    within = omega arith;
    shut = λ l more. ap (λ r. run (suc k) floor count places (take 1 r ++ more) at) is ∙ run_err k floor count places (w ∷ more) at f (h more);
    begun = subst (λ n. Begun (take n ws)) (sym p) begun_nodes;
    four = λ _. omega (arith, long, ap length is);
    six = λ n. subst (Torn ws) (sym p) (six n);
    five = λ n. subst (Falling ws) (sym p) (five n);
  }

  at_missing : rest ≡ [] → Failing ws (suc k) floor count places rest at (Ragged at)
  at_missing is = record {
    index = 0;
    there = omega arith;
    within = omega arith;
    shut = λ l more. absurd (omega (arith, ap length is));
    begun = begun_nodes;
    four = λ n. absurd (omega arith);
    six = λ _. inl (omega (arith, long, ap length is));
    five = λ n. absurd (omega arith);
  }

  at_falling : (w : ℕ) (after : List ℕ) (kind : Kind) (p n : ℕ) → rest ≡ w ∷ after → read w ≡ Some (word.Head kind p n) → n < floor → Failing ws (suc k) floor count places rest at (NotRising at)
  at_falling w after kind p n is r l =
      at_word w after (NotRising at) is refl (λ more. falls at floor count w more kind p n r l) (λ m. absurd (omega arith))
      (λ _. ⊎_elim
      (λ z. absurd (omega arith))
      (λ q. (places, boundary w after is, kind, p, n, ap read (first_word w after is) ∙ r, q.0, q.1, omega (arith, q.2), q.3))
      s.last)

  at_miscount : (w : ℕ) (after : List ℕ) (n : ℕ) → rest ≡ w ∷ after → read w ≡ Some (word.End n) → (n ≡ count → ⊥) → Failing ws (suc k) floor count places rest at (Ragged at)
  at_miscount w after n is r d =
      at_word w after (Ragged at) is refl (λ more. miscounts at floor count w more n r d)
      (λ _. inr (inl (places, boundary w after is, n, ap read (first_word w after is) ∙ r, λ e. d (e ∙ sym s.number))))
      (λ m. absurd (omega arith))

  at_follow : (w v : ℕ) (after : List ℕ) → rest ≡ w ∷ v ∷ after → read w ≡ Some (word.End count) → Failing ws (suc k) floor count places rest at (Ragged (at + 1))
  at_follow w v after is r =
      let end : w ≡ written (word.End (live places)) = sym (writes_back w (word.End count) r).0 ∙ ap (λ n. written (word.End n)) s.number in
      let words : take (at + 1) ws ≡ image_words places = front_words 1 ∙ ap (λ l. nodes_words 0 places ++ take 1 l) is ∙ ap (λ w. nodes_words 0 places ++ w ∷ []) end in
      let accepted : Accepted (take (at + 1) ws) (record { places = places; nodes = live places }) = record { proper = s.proper; words = words; count = refl } in
      record {
        index = 1;
        there = refl;
        within = omega (arith, ap length is);
        shut = λ l more. ap (λ r. run (suc k) floor count places (take 2 r ++ more) at) is ∙ run_err k floor count places (w ∷ v ∷ more) at (Ragged (at + 1)) (follows at floor count w v more r);
        begun = ([], record { places = places; nodes = live places }, subst (λ l. Accepted l (record { places = places; nodes = live places })) (sym (append-nil (take (at + 1) ws))) accepted);
        four = λ n. absurd (omega arith);
        six = λ _. inr (inr (omega (arith, long, ap length is), record { places = places; nodes = live places }, accepted));
        five = λ n. absurd (omega arith);
      }

  -- a node that breaks off
  at_broken : (w : ℕ) (after : List ℕ) (kind : Kind) (p n : ℕ) (f : Fault) → rest ≡ w ∷ after → read w ≡ Some (word.Head kind p n) → floor ≤ n → body_of kind after (at + 1) ≡ Err f
      → Failing ws (suc k) floor count places rest at f
  at_broken w after kind p n f is r l b =
      let e = (reader_good kind).fails after (at + 1) f (sym (body_link kind after (at + 1)) ∙ b) in
      let i = e.index in
      let place : place_of f ≡ at + suc i = omega (arith, e.there) in
      record {
        index = suc i;
        there = place;
        within = omega (arith, e.within, ap length is);
        shut = λ h more.
            ap (λ r. run (suc k) floor count places (take (suc (suc i)) r ++ more) at) is
            ∙ run_err k floor count places (w ∷ (take (suc i) after ++ more)) at f
            (begins at floor count w (take (suc i) after ++ more) kind p n r l (Err f) (body_link kind (take (suc i) after ++ more) (at + 1) ∙ e.shut (omega (arith, ap length is)) more));
        begun = subst (λ m. Begun (take m ws)) (sym place) (mended w after kind p n is r l i e.mend.0 e.mend.1 (body_link kind (take i after ++ e.mend.0) (at + 1) ∙ e.mend.2) e.mend.3);
        four = λ m. ⊎_elim (λ t. omega (arith, long, ap length is, t.1)) (λ t. absurd (omega (arith, t.0))) e.tells;
        six = λ m. ⊎_elim (λ t. absurd (omega (arith, t.0))) (λ t. inl (omega (arith, long, ap length is, t.1))) e.tells;
        five = λ m. ⊎_elim (λ t. absurd (omega (arith, t.0))) (λ t. absurd (omega (arith, t.0))) e.tells;
      }
    where
      mended : (w : ℕ) (after : List ℕ) (kind : Kind) (p n : ℕ) → rest ≡ w ∷ after → read w ≡ Some (word.Head kind p n) → floor ≤ n → (i : ℕ) (more : List ℕ) (b : Body)
          → body_of kind (take i after ++ more) (at + 1) ≡ Ok b → body_size b ≡ 0 + length (take i after ++ more) → Begun (take (at + suc i) ws)
      mended w after kind p n is r l i more b ok size =
          let node : Node = record { pattern = p; body = b } in
          let read = body_read kind (take i after ++ more) (at + 1) b ok in
          let back = writes_back w (word.Head kind p n) r in
          let sum = ap length read.words ∙ length-append (body_words b) read.rest in
          let none : read.rest ≡ [] = nil_from_length read.rest (omega (arith, body_long b)) in
          let body : take i after ++ more ≡ body_words b = read.words ∙ ap (λ l. body_words b ++ l) none ∙ append-nil (body_words b) in
          let head : w ≡ written (word.Head (kind_of b) p n) = sym back.0 ∙ ap (λ k. written (word.Head k p n)) (sym read.sort) in
          let places' = set places n (Some node) in
          let stands = one_node floor count places s n node l back.1.1 (back.1.0, read.allowed) in
          let words = one_words floor count places s n node l back.1.1 (back.1.0, read.allowed) in
          let end = written (word.End (live places')) ∷ [] in
          let all : take (at + suc i) ws ++ (more ++ end) ≡ image_words places' =
          ap (λ l. l ++ (more ++ end)) (front_words (suc i) ∙ ap (λ l. nodes_words 0 places ++ take (suc i) l) is)
          ∙ append_assoc (nodes_words 0 places) (w ∷ take i after) (more ++ end)
          ∙ ap (λ l. nodes_words 0 places ++ w ∷ l) (sym (append_assoc (take i after) more end))
          ∙ ap (λ l. nodes_words 0 places ++ w ∷ (l ++ end)) body
          ∙ ap (λ w. nodes_words 0 places ++ w ∷ (body_words b ++ end)) head
          ∙ sym (append_assoc (nodes_words 0 places) (node_words n node) end)
          ∙ ap (λ l. l ++ end) (sym words) in
          (more ++ end, record { places = places'; nodes = live places' }, record { proper = stands.proper; words = all; count = refl })

  -- a fault after a whole node
  at_later : (w : ℕ) (after : List ℕ) (kind : Kind) (p n : ℕ) (b : Body) (f : Fault) → rest ≡ w ∷ after → read w ≡ Some (word.Head kind p n) → floor ≤ n → body_of kind after (at + 1) ≡ Ok b
      → Front rest floor (at_place p n b)
      → Failing ws k (n + 1) (count + 1) (set places n (Some (record { pattern = p; body = b }))) (drop (1 + body_size b) rest) (at + (1 + body_size b)) f
      → Failing ws (suc k) floor count places rest at f
  at_later w after kind p n b f is r l ok fr e =
      let node : Node = record { pattern = p; body = b } in
      let size = body_size b in
      let left = drop (1 + size) rest in
      let i = e.index in
      let parts = node_words n node in
      let sum = ap length fr.words ∙ length-append parts left in
      let nl = node_long n node in
      record {
        index = 1 + size + i;
        there = omega (arith, e.there);
        within = omega (arith, e.within);
        shut = λ h more.
            let stays = (reader_good kind).stays after (at + 1) b (sym (body_link kind after (at + 1)) ∙ ok) in
            let again : body_of kind (take (1 + size + i) after ++ more) (at + 1) ≡ Ok b =
            body_link kind (take (1 + size + i) after ++ more) (at + 1)
            ∙ ap (λ l. reader kind (l ++ more) (at + 1)) (let same : 1 + size + i ≡ suc stays.taken + i = omega (arith, stays.long) in ap (λ m. take m after) same ∙ take_split (suc stays.taken) i after)
            ∙ ap (λ l. reader kind l (at + 1)) (append_assoc (take (suc stays.taken) after) (take i (drop (suc stays.taken) after)) more)
            ∙ stays.keeps (omega (arith, stays.long, ap length is)) (take i (drop (suc stays.taken) after) ++ more) in
            let cut : suc (1 + size + i) ≡ length parts + suc i = omega arith in
            let there : take (suc (1 + size + i)) rest ++ more ≡ parts ++ (take (suc i) left ++ more) =
            ap (λ l. take (suc (1 + size + i)) l ++ more) fr.words ∙ ap (λ m. take m (parts ++ left) ++ more) cut ∙ ap (λ l. l ++ more) (take_add parts left (suc i)) ∙ append_assoc parts (take (suc i) left) more in
            let first : take (suc (1 + size + i)) rest ++ more ≡ w ∷ (take (1 + size + i) after ++ more) = ap (λ l. take (suc (1 + size + i)) l ++ more) is in
            run_some k floor count places (take (suc (1 + size + i)) rest ++ more) at (at_place p n b)
            (ap (λ l. node_of l at floor count) first ∙ begins at floor count w (take (1 + size + i) after ++ more) kind p n r l (Ok b) again)
            ∙ ap (λ l. run k (n + 1) (count + 1) (set places n (Some node)) l (at + (1 + size))) (ap (drop (1 + size)) there ∙ drop_at parts (take (suc i) left ++ more) (1 + size) nl)
            ∙ e.shut (omega arith) more;
        begun = e.begun;
        four = e.four;
        six = e.six;
        five = e.five;
      }

-- ### every refusal

abbrev FailsSo : List ℕ → ℕ → Type 0
FailsSo ws k = (floor count : ℕ) (places : List (Option Node)) (rest : List ℕ) → Stands floor count places → ws ≡ nodes_words 0 places ++ rest → 513 ≤ k + floor
    → (f : Fault) → run k floor count places rest (length (nodes_words 0 places)) ≡ Err f → Failing ws k floor count places rest (length (nodes_words 0 places)) f

module _ (ws : List ℕ) (k : ℕ) (again : FailsSo ws k) (floor count : ℕ) (places : List (Option Node)) (rest : List ℕ) (s : Stands floor count places)
    (split : ws ≡ nodes_words 0 places ++ rest) (fuel : 513 ≤ suc k + floor) (f : Fault) (h : run (suc k) floor count places rest (length (nodes_words 0 places)) ≡ Err f) where
  abbrev here : ℕ
  here = length (nodes_words 0 places)

  abbrev Goal : Type 0
  Goal = Failing ws (suc k) floor count places rest here f

  same_fault : (g : Fault) → node_of rest here floor count ≡ Err g → g ≡ f
  same_fault g e = let j = run_err k floor count places rest here g e in cc

  told : (g : Fault) → node_of rest here floor count ≡ Err g → Failing ws (suc k) floor count places rest here g → Goal
  told g e r = subst (Failing ws (suc k) floor count places rest here) (same_fault g e) r

  after_node : (w : ℕ) (after : List ℕ) (kind : Kind) (p n : ℕ) (b : Body) → rest ≡ w ∷ after → read w ≡ Some (word.Head kind p n) → floor ≤ n → body_of kind after (here + 1) ≡ Ok b
      → node_of rest here floor count ≡ Ok (Some (at_place p n b)) → Goal
  after_node w after kind p n b is r l ok e =
      let node : Node = record { pattern = p; body = b } in
      let fr = front rest here floor w after kind p n b is r l ok in
      let places' = set places n (Some node) in
      let left = drop (1 + body_size b) rest in
      let words = one_words floor count places s n node l fr.small fr.fine in
      let split' : ws ≡ nodes_words 0 places' ++ left =
      split ∙ ap (λ l. nodes_words 0 places ++ l) fr.words ∙ sym (append_assoc (nodes_words 0 places) (node_words n node) left) ∙ ap (λ l. l ++ left) (sym words) in
      let there : length (nodes_words 0 places') ≡ here + (1 + body_size b) = ap length words ∙ length-append (nodes_words 0 places) (node_words n node) ∙ ap (λ m. here + m) (node_long n node) in
      let run' : run k (n + 1) (count + 1) places' left (length (nodes_words 0 places')) ≡ Err f =
      ap (run k (n + 1) (count + 1) places' left) there ∙ sym (run_some k floor count places rest here (at_place p n b) e) ∙ h in
      let more = again (n + 1) (count + 1) places' left (one_node floor count places s n node l fr.small fr.fine) split' (omega arith) f run' in
      at_later ws k floor count places rest s split w after kind p n b f is r l ok fr (subst (λ m. Failing ws k (n + 1) (count + 1) places' left m f) there more)

  by_part : Part rest here floor count (node_of rest here floor count) → Goal
  by_part (missing is e) = told (Ragged here) e (at_missing ws k floor count places rest s split is)
  by_part (strange w after is more e) =
      told (BadWord here) e (at_word ws k floor count places rest s split w after (BadWord here) is refl more (λ m. absurd (omega arith)) (λ m. absurd (omega arith)))
  by_part (falling w after kind p n is r l e) = told (NotRising here) e (at_falling ws k floor count places rest s split w after kind p n is r l)
  by_part (broken w after kind p n g is r l b e) = told g e (at_broken ws k floor count places rest s split w after kind p n g is r l b)
  by_part (whole w after kind p n b is r l ok e) = after_node w after kind p n b is r l ok e
  by_part (miscounted w after n is r d e) = told (Ragged here) e (at_miscount ws k floor count places rest s split w after n is r d)
  by_part (followed w v after is r e) = told (Ragged (here + 1)) e (at_follow ws k floor count places rest s split w v after is r)
  by_part (ended w is r e) = absurd (refuted f (record { places = places; nodes = count }) (sym h ∙ run_none k floor count places rest here e))

run_fails : (ws : List ℕ) (k : ℕ) → FailsSo ws k
run_fails ws zero floor count places rest s split fuel f h = absurd (omega (arith, s.low))
run_fails ws (suc k) floor count places rest s split fuel f h = by_part ws k (run_fails ws k) floor count places rest s split fuel f h (part rest (length (nodes_words 0 places)) floor count)

abbrev AtStart : List ℕ → Fault → Type 0
AtStart ws f = Failing ws 513 0 0 nothing ws 0 f

pub fails_at : (ws : List ℕ) (f : Fault) → read_image ws ≡ Err f → AtStart ws f
fails_at ws f h = run_fails ws 513 0 0 nothing ws at_start refl (omega arith) f (sym (reads_by ws) ∙ h)

-- ### the other way: what the words say decides the number

module _ (ws : List ℕ) (p w : ℕ) (places : List (Option Node)) (proper : Proper places) (l : p < length ws) (nodes : take p ws ≡ nodes_words 0 places) where
  cut_there : ws ≡ nodes_words 0 places ++ (get_or ws p 0 ∷ drop (p + 1) ws)
  cut_there = sym (take-append-drop p ws) ∙ ap (λ l. l ++ drop p ws) nodes ∙ ap (λ l. nodes_words 0 places ++ l) (drop_more ws p 0 l)

  place_there : length (nodes_words 0 places) ≡ p
  place_there = ap length (sym nodes) ∙ length-take-le p ws (omega arith)

  comes : Closed alternative_of (get_or ws p 0 ∷ drop (p + 1) ws) → (k : ℕ) × (read_image ws ≡ run (suc k) (over 0 0 places) (live places) places (get_or ws p 0 ∷ drop (p + 1) ws) p)
  comes c = let r = comes_to places (get_or ws p 0 ∷ drop (p + 1) ws) proper c in
      (r.0, ap read_image cut_there ∙ r.1 ∙ ap (run (suc r.0) (over 0 0 places) (live places) places (get_or ws p 0 ∷ drop (p + 1) ws)) place_there)

not_alternative : (w : ℕ) (x : Word) → read w ≡ Some x → alternative_said x ≡ None → alternative_of w ≡ None
not_alternative w x e n = ap (λ o. maybe o alternative_said) e ∙ n

pub miscounted_so : (ws : List ℕ) (p : ℕ) → Miscounted ws p → read_image ws ≡ Err (Ragged p)
miscounted_so ws p (places, b, n, r, d) =
    let c = comes ws p 0 places b.proper b.there b.nodes (not_alternative (get_or ws p 0) (word.End n) r refl) in
    c.1 ∙ run_err c.0 (over 0 0 places) (live places) places (get_or ws p 0 ∷ drop (p + 1) ws) p (Ragged p) (miscounts p (over 0 0 places) (live places) (get_or ws p 0) (drop (p + 1) ws) n r d)

pub falling_so : (ws : List ℕ) (p : ℕ) → Falling ws p → read_image ws ≡ Err (NotRising p)
falling_so ws p (places, b, kind, pattern, n, r, q, node, low, is) =
    let c = comes ws p 0 places b.proper b.there b.nodes (not_alternative (get_or ws p 0) (word.Head kind pattern n) r refl) in
    let high : n < over 0 0 places = omega (arith, over_above 0 0 q places node (omega arith) is) in
    c.1 ∙ run_err c.0 (over 0 0 places) (live places) places (get_or ws p 0 ∷ drop (p + 1) ws) p (NotRising p) (falls p (over 0 0 places) (live places) (get_or ws p 0) (drop (p + 1) ws) kind pattern n r high)

pub followed_so : (ws : List ℕ) (p : ℕ) → Followed ws p → read_image ws ≡ Err (Ragged p)
followed_so ws p (l, image, a) =
    let places = image.places in
    let end = written (word.End (live places)) in
    let v = get_or ws p 0 in
    let more = drop (p + 1) ws in
    let few = live_few places in
    let back = end_back (live places) (omega (arith, a.proper.count)) in
    let words = a.words in
    let at : length (nodes_words 0 places) + 1 ≡ p = sym (length-append (nodes_words 0 places) (end ∷ [])) ∙ ap length (sym words) ∙ length-take-le p ws (omega arith) in
    let cut : ws ≡ nodes_words 0 places ++ end ∷ v ∷ more =
    sym (take-append-drop p ws) ∙ ap (λ l. l ++ drop p ws) words ∙ ap (λ l. image_words places ++ l) (drop_more ws p 0 l) ∙ append_assoc (nodes_words 0 places) (end ∷ []) (v ∷ more) in
    let c = comes_to places (end ∷ v ∷ more) a.proper (not_alternative end (word.End (live places)) back refl) in
    ap read_image cut ∙ c.1
    ∙ run_err c.0 (over 0 0 places) (live places) places (end ∷ v ∷ more) (length (nodes_words 0 places)) (Ragged (length (nodes_words 0 places) + 1))
    (follows (length (nodes_words 0 places)) (over 0 0 places) (live places) end v more back)
    ∙ ap (λ n. Err (Ragged n)) at

same_number : (ws : List ℕ) (f g : Fault) → read_image ws ≡ Err f → read_image ws ≡ Err g → number_of f ≡ number_of g
same_number ws f g a b = let e : f ≡ g = cc in ap number_of e

-- a fault at the end of the image is no other than 6
at_the_end : (ws : List ℕ) (f : Fault) → AtStart ws f → place_of f ≡ length ws → number_of f ≡ 6
at_the_end ws (BadWord p) r e = absurd (omega (arith, r.four refl))
at_the_end ws (NotRising p) r e = absurd (omega (arith, (r.five refl).1.there))
at_the_end ws (Ragged p) r e = refl

pub refused : (ws : List ℕ) (f : Fault) → read_image ws ≡ Err f → Refused ws f
refused ws f h =
    let r = fails_at ws f h in
    let p = place_of f in
    let there : p ≡ r.index = omega (arith, r.there) in
    record {
      within = omega (arith, r.within);
      begun = r.begun;
      longest = λ k l b. ⊎_elim
          (λ less.
          let d = k - suc p in
          let more = take d (drop (suc p) ws) ++ b.0 in
          let deep : k ≡ suc p + d = omega arith in
          let same : take k ws ++ b.0 ≡ take (suc r.index) ws ++ more =
          ap (λ n. take n ws ++ b.0) deep ∙ ap (λ l. l ++ b.0) (take_split (suc p) d ws) ∙ append_assoc (take (suc p) ws) (take d (drop (suc p) ws)) b.0 ∙ ap (λ i. take (suc i) ws ++ more) there in
          absurd (refuted f b.1 (sym (r.shut (omega arith) more) ∙ sym (reads_by (take (suc r.index) ws ++ more)) ∙ ap read_image (sym same) ∙ all_accepted (take k ws ++ b.0) b.1 b.2)))
          (λ high. high)
          (cases_lt p k);
      six = (r.six, ⊎_elim (at_the_end ws f r) (⊎_elim (λ m. same_number ws f (Ragged p) h (miscounted_so ws p m)) (λ m. same_number ws f (Ragged p) h (followed_so ws p m))));
      five = (r.five, λ m. same_number ws f (NotRising p) h (falling_so ws p m));
    }
