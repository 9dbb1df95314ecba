-- The reader from node to node: accepted images are read, and only they are.
use Rattle.std.proofs.Common.{◌≡◌, ℕ, zero, suc, ◌+◌, ◌-◌, ◌<◌, ◌≤◌, ◌⊎◌, List, [], ◌∷◌, ◌++◌, length, get_or, drop, set, replicate, Some, None, Ok, Err, Option, Result, sym, refl, ap, ◌∙◌, subst, inl, inr, append_assoc, arith, length-append, length-set}
use Rattle.std.proofs.lemmas.List.{drop_at, drop-drop, get_or-set_same, set_at}
use Rattle.std.proofs.ByRecursion.{All-set}
use Rattle.std.specs.List.{AllByRecursion}
use Rattle.words.specs.declared.fault.Fault.{Fault}
use Rattle.words.specs.declared.fault.Fault.TheVariants.{BadWord, NotRising, Ragged}
use Rattle.words.specs.declared.node.Body.{Body}
use Rattle.words.specs.declared.node.Node.{Node}
use Rattle.words.specs.declared.word.Kind.{Kind}
use Rattle.words.specs.declared.word.Word.TheVariants as word
use Rattle.words.specs.Format.{read, written, then as maybe}
use Rattle.words.proofs.Back.{reads_back, writes_back}
use Rattle.image.specs.declared.places.Image.{Image}
use Rattle.image.specs.declared.reader.Placed.{Placed}
use Rattle.image.specs.Nodes.{kind_of, body_words, node_words, nodes_words, live, AllowedNode, AllowedPlace, Proper}
use Rattle.image.specs.Reading.{then, alternative_of, alternative_said, body_of, body_size, node_of, part_size, nodes_from, read_image, nothing}
use Rattle.image.specs.Laws.{Accepted}
use Rattle.image.proofs.Wants.{Closed, refuted}
use Rattle.image.proofs.Whole.{body_read, body_back, body_long}
use Rattle.image.proofs.Slots.{Free, free_none, free_above, free_set, set_words, set_live, over}
use Rattle.image.proofs.Parts.{Part, missing, strange, falling, broken, whole, miscounted, followed, ended, part, at_place, begins, ends}

-- ### the reader over the words that are left

unfoldable pub run : ℕ → ℕ → ℕ → List (Option Node) → List ℕ → ℕ → Result Image Fault
run zero floor count places rest at = Err (Ragged at)
run (suc k) floor count places rest at = then (node_of rest at floor count) (λ o. elim o [
  | None ↦ Ok (record { places = places; nodes = count })
  | Some p ↦ run k (p.place + 1) (count + 1) (set places p.place (Some p.node)) (drop (part_size (Some p)) rest) (at + part_size (Some p))
])

module _ (k floor count : ℕ) (places : List (Option Node)) (rest : List ℕ) (at : ℕ) where
  pub run_some : (p : Placed) → node_of rest at floor count ≡ Ok (Some p)
      → run (suc k) floor count places rest at ≡ run k (p.place + 1) (count + 1) (set places p.place (Some p.node)) (drop (part_size (Some p)) rest) (at + part_size (Some p))
  unfolding run
  run_some p e = rw e

  pub run_none : node_of rest at floor count ≡ Ok None → run (suc k) floor count places rest at ≡ Ok (record { places = places; nodes = count })
  unfolding run
  run_none e = rw e

  pub run_err : (f : Fault) → node_of rest at floor count ≡ Err f → run (suc k) floor count places rest at ≡ Err f
  unfolding run
  run_err f e = rw e

pub run_zero : (floor count : ℕ) (places : List (Option Node)) (rest : List ℕ) (at : ℕ) → run zero floor count places rest at ≡ Err (Ragged at)
unfolding run
run_zero floor count places rest at = refl

link_step : (k : ℕ) (ws : List ℕ) (at count : ℕ) (places : List (Option Node))
    → ((at floor count : ℕ) (places : List (Option Node)) → nodes_from k ws at floor count places ≡ run k floor count places (drop at ws) at)
    → (r : Result (Option Placed) Fault)
    → then {B = Image} r (λ o. elim o [
      | None ↦ Ok (record { places = places; nodes = count })
      | Some p ↦ nodes_from k ws (at + part_size (Some p)) (p.place + 1) (count + 1) (set places p.place (Some p.node))
    ])
    ≡ then {B = Image} r (λ o. elim o [
      | None ↦ Ok (record { places = places; nodes = count })
      | Some p ↦ run k (p.place + 1) (count + 1) (set places p.place (Some p.node)) (drop (part_size (Some p)) (drop at ws)) (at + part_size (Some p))
    ])
link_step k ws at count places more (Err f) = refl
link_step k ws at count places more (Ok None) = refl
link_step k ws at count places more (Ok (Some p)) =
    more (at + part_size (Some p)) (p.place + 1) (count + 1) (set places p.place (Some p.node))
    ∙ ap (λ l. run k (p.place + 1) (count + 1) (set places p.place (Some p.node)) l (at + part_size (Some p))) (sym (drop-drop (part_size (Some p)) at ws))

run_link : (k : ℕ) (ws : List ℕ) (at floor count : ℕ) (places : List (Option Node)) → nodes_from k ws at floor count places ≡ run k floor count places (drop at ws) at
unfolding run nodes_from
run_link zero ws at floor count places = refl
run_link (suc k) ws at floor count places = link_step k ws at count places (run_link k ws) (node_of (drop at ws) at floor count)

pub reads_by : (ws : List ℕ) → read_image ws ≡ run 513 0 0 nothing ws 0
unfolding read_image
reads_by ws = run_link 513 ws 0 0 0 nothing

-- ### where the reader stands after some nodes

pub record Stands (floor count : ℕ) (places : List (Option Node)) : Type 0 where
  pub proper : Proper places
  pub free : Free floor places
  pub low : floor ≤ 512
  pub number : count ≡ live places
  pub last : (floor ≡ 0) ⊎ ((q : ℕ) × (node : Node) × (floor ≡ q + 1) × (get_or places q None ≡ Some node))

none_allowed : (n : ℕ) → AllByRecursion AllowedPlace (replicate n None)
none_allowed zero = tt
none_allowed (suc n) = (tt, none_allowed n)

none_live : (n : ℕ) → live (replicate n None) ≡ 0
none_live zero = refl
none_live (suc n) = none_live n

pub at_start : Stands 0 0 nothing
at_start = record {
  proper = record { count = refl; each = none_allowed 512 };
  free = free_none 512;
  low = omega arith;
  number = sym (none_live 512);
  last = inl refl;
}

module _ (floor count : ℕ) (places : List (Option Node)) (s : Stands floor count places) (n : ℕ) (node : Node) (high : floor ≤ n) (small : n < 512) (fine : AllowedNode node) where
  free_here : Free n places
  free_here = free_above floor n places high s.free

  inside : n < length places
  inside = omega (arith, s.proper.count)

  pub one_node : Stands (n + 1) (count + 1) (set places n (Some node))
  one_node = record {
    proper = record { count = length-set places n (Some node) ∙ s.proper.count; each = All-set AllowedPlace places n (Some node) fine s.proper.each };
    free = let e : suc n ≡ n + 1 = omega arith in subst (λ i. Free i (set places n (Some node))) e (free_set n places (Some node) free_here);
    low = omega arith;
    number = omega (arith, s.number, set_live n places node inside free_here);
    last = inr (n, node, refl, get_or-set_same places n (Some node) None inside);
  }

  pub one_words : nodes_words 0 (set places n (Some node)) ≡ nodes_words 0 places ++ node_words n node
  one_words = let e : 0 + n ≡ n = omega arith in set_words 0 n places node inside free_here ∙ ap (λ p. nodes_words 0 places ++ node_words p node) e

-- ### a whole node at the front

pub record Front (rest : List ℕ) (floor : ℕ) (p : Placed) : Type 0 where
  pub words : rest ≡ node_words p.place p.node ++ drop (part_size (Some p)) rest
  pub high : floor ≤ p.place
  pub small : p.place < 512
  pub fine : AllowedNode p.node

pub node_long : (n : ℕ) (node : Node) → length (node_words n node) ≡ 1 + body_size node.body
node_long n node = omega (arith, body_long node.body)

pub front : (rest : List ℕ) (at floor w : ℕ) (after : List ℕ) (k : Kind) (p n : ℕ) (b : Body) → rest ≡ w ∷ after → read w ≡ Some (word.Head k p n) → floor ≤ n → body_of k after (at + 1) ≡ Ok b
    → Front rest floor (at_place p n b)
front rest at floor w after k p n b is e l ok =
    let r = body_read k after (at + 1) b ok in
    let back = writes_back w (word.Head k p n) e in
    let head : w ≡ written (word.Head (kind_of b) p n) = sym back.0 ∙ ap (λ k. written (word.Head k p n)) (sym r.sort) in
    let node : Node = record { pattern = p; body = b } in
    let split : rest ≡ node_words n node ++ r.rest = let a = r.words in cc in
    let left : drop (1 + body_size b) rest ≡ r.rest = ap (drop (1 + body_size b)) split ∙ drop_at (node_words n node) r.rest (1 + body_size b) (node_long n node) in
    record {
      words = split ∙ ap (λ l. node_words n node ++ l) (sym left);
      high = l;
      small = back.1.1;
      fine = (back.1.0, r.allowed);
    }

-- ### only accepted images are read

end_word : (w count : ℕ) → read w ≡ Some (word.End count) → w ≡ written (word.End count)
end_word w count e = sym (writes_back w (word.End count) e).0

module _ (image : Image) where
  run_part : (k : ℕ) → ((floor count : ℕ) (places : List (Option Node)) (rest : List ℕ) (at : ℕ) → Stands floor count places → run k floor count places rest at ≡ Ok image → Accepted (nodes_words 0 places ++ rest) image)
      → (floor count : ℕ) (places : List (Option Node)) (rest : List ℕ) (at : ℕ) → Stands floor count places → run (suc k) floor count places rest at ≡ Ok image
      → Part rest at floor count (node_of rest at floor count) → Accepted (nodes_words 0 places ++ rest) image
  run_part k again floor count places rest at s h (missing is e) = absurd (refuted (Ragged at) image (sym (run_err k floor count places rest at (Ragged at) e) ∙ h))
  run_part k again floor count places rest at s h (strange w after is more e) = absurd (refuted (BadWord at) image (sym (run_err k floor count places rest at (BadWord at) e) ∙ h))
  run_part k again floor count places rest at s h (falling w after kind p n is r l e) = absurd (refuted (NotRising at) image (sym (run_err k floor count places rest at (NotRising at) e) ∙ h))
  run_part k again floor count places rest at s h (broken w after kind p n f is r l b e) = absurd (refuted f image (sym (run_err k floor count places rest at f e) ∙ h))
  run_part k again floor count places rest at s h (miscounted w after n is r d e) = absurd (refuted (Ragged at) image (sym (run_err k floor count places rest at (Ragged at) e) ∙ h))
  run_part k again floor count places rest at s h (followed w v after is r e) = absurd (refuted (Ragged (at + 1)) image (sym (run_err k floor count places rest at (Ragged (at + 1)) e) ∙ h))
  run_part k again floor count places rest at s h (ended w is r e) =
      let same : record { places = places; nodes = count } ≡ image = cc (run_none k floor count places rest at e) in
      subst (Accepted (nodes_words 0 places ++ rest)) same (record {
        proper = s.proper;
        words = ap (λ l. nodes_words 0 places ++ l) (is ∙ ap (λ w. w ∷ []) (end_word w count r ∙ ap (λ n. written (word.End n)) s.number));
        count = s.number;
      })
  run_part k again floor count places rest at s h (whole w after kind p n b is r l ok e) =
      let node : Node = record { pattern = p; body = b } in
      let f = front rest at floor w after kind p n b is r l ok in
      let more = again (n + 1) (count + 1) (set places n (Some node)) (drop (1 + body_size b) rest) (at + (1 + body_size b))
      (one_node floor count places s n node l f.small f.fine) (sym (run_some k floor count places rest at (at_place p n b) e) ∙ h) in
      let words : nodes_words 0 (set places n (Some node)) ++ drop (1 + body_size b) rest ≡ nodes_words 0 places ++ rest =
      ap (λ l. l ++ drop (1 + body_size b) rest) (one_words floor count places s n node l f.small f.fine)
      ∙ append_assoc (nodes_words 0 places) (node_words n node) (drop (1 + body_size b) rest) ∙ ap (λ l. nodes_words 0 places ++ l) (sym f.words) in
      subst (λ l. Accepted l image) words more

  run_ok : (k floor count : ℕ) (places : List (Option Node)) (rest : List ℕ) (at : ℕ) → Stands floor count places → run k floor count places rest at ≡ Ok image → Accepted (nodes_words 0 places ++ rest) image
  run_ok zero floor count places rest at s h = absurd (refuted (Ragged at) image (sym (run_zero floor count places rest at) ∙ h))
  run_ok (suc k) floor count places rest at s h = run_part k (run_ok k) floor count places rest at s h (part rest at floor count)

nothing_words : (place n : ℕ) → nodes_words place (replicate n None) ≡ []
nothing_words place zero = refl
nothing_words place (suc n) = nothing_words (place + 1) n

pub only_accepted : (ws : List ℕ) (image : Image) → read_image ws ≡ Ok image → Accepted ws image
only_accepted ws image h =
    subst (λ l. Accepted l image) (ap (λ l. l ++ ws) (nothing_words 0 512)) (run_ok image 513 0 0 nothing ws 0 at_start (sym (reads_by ws) ∙ h))

-- ### accepted images are read

head_back : (q : ℕ) (node : Node) → q < 512 → AllowedNode node → read (written (word.Head (kind_of node.body) node.pattern q)) ≡ Some (word.Head (kind_of node.body) node.pattern q)
head_back q node l fine = (reads_back (word.Head (kind_of node.body) node.pattern q) (fine.0, l)).0

pub end_back : (n : ℕ) → n ≤ 512 → read (written (word.End n)) ≡ Some (word.End n)
end_back n h = (reads_back (word.End n) (omega arith)).0

pub closed_words : (q : ℕ) (xs : List (Option Node)) (tail : List ℕ) → q + length xs ≤ 512 → AllByRecursion AllowedPlace xs → Closed alternative_of tail → Closed alternative_of (nodes_words q xs ++ tail)
closed_words q [] tail l fine c = c
closed_words q (None ∷ xs) tail l fine c = closed_words (q + 1) xs tail (omega arith) fine.1 c
closed_words q (Some node ∷ xs) tail l fine c = ap (λ o. maybe o alternative_said) (head_back q node (omega arith) fine.0)

node_back : (q : ℕ) (node : Node) (rest : List ℕ) (at floor count : ℕ) → q < 512 → floor ≤ q → AllowedNode node → Closed alternative_of rest
    → node_of (node_words q node ++ rest) at floor count ≡ Ok (Some (record { place = q; node = node }))
node_back q node rest at floor count l h fine c =
    begins at floor count (written (word.Head (kind_of node.body) node.pattern q)) (body_words node.body ++ rest) (kind_of node.body) node.pattern q
    (head_back q node l fine) h (Ok node.body) (body_back node.body rest (at + 1) fine.1 c)

same_run : {k k' count count' at at' : ℕ} (floor : ℕ) {places places' : List (Option Node)} {rest rest' : List ℕ} → k ≡ k' → count ≡ count' → places ≡ places' → rest ≡ rest' → at ≡ at'
    → run k floor count places rest at ≡ run k' floor count' places' rest' at'
same_run floor a b c d e = cc

pub goes_over : (xs done : List (Option Node)) (q floor count k : ℕ) (tail : List ℕ) (at : ℕ) → length done ≡ q → floor ≤ q → q + length xs ≡ 512 → AllByRecursion AllowedPlace xs → Closed alternative_of tail
    → run (live xs + k) floor count (done ++ replicate (length xs) None) (nodes_words q xs ++ tail) at ≡ run k (over floor q xs) (count + live xs) (done ++ xs) tail (at + length (nodes_words q xs))
goes_over [] done q floor count k tail at d f e fine c = same_run floor (omega arith) (omega arith) refl refl (omega arith)
goes_over (None ∷ xs) done q floor count k tail at d f e fine c =
    let one : (x : Option Node) (ys : List (Option Node)) → done ++ x ∷ ys ≡ (done ++ x ∷ []) ++ ys = λ x ys. sym (append_assoc done (x ∷ []) ys) in
    same_run floor refl refl (one None (replicate (length xs) None)) refl refl
    ∙ goes_over xs (done ++ None ∷ []) (q + 1) floor count k tail at (omega (arith, length-append done (None ∷ []))) (omega arith) (omega arith) fine.1 c
    ∙ same_run (over floor (q + 1) xs) refl refl (sym (one None xs)) refl refl
goes_over (Some node ∷ xs) done q floor count k tail at d f e fine c =
    let one : (x : Option Node) (ys : List (Option Node)) → done ++ x ∷ ys ≡ (done ++ x ∷ []) ++ ys = λ x ys. sym (append_assoc done (x ∷ []) ys) in
    let rest = nodes_words (q + 1) xs ++ tail in
    let p : Placed = record { place = q; node = node } in
    let nones : List (Option Node) = replicate (length xs) None in
    let closed = closed_words (q + 1) xs tail (omega arith) fine.1 c in
    let long = node_long q node in
    let sum = length-append (node_words q node) (nodes_words (q + 1) xs) in
    same_run floor {places = done ++ None ∷ nones} (omega arith) refl refl (append_assoc (node_words q node) (nodes_words (q + 1) xs) tail) refl
    ∙ run_some (live xs + k) floor count (done ++ None ∷ nones) (node_words q node ++ rest) at p (node_back q node rest at floor count (omega arith) f fine.0 closed)
    ∙ same_run (q + 1) refl refl (set_at done None nones (Some node) q d ∙ one (Some node) nones) (drop_at (node_words q node) rest (1 + body_size node.body) long) refl
    ∙ goes_over xs (done ++ Some node ∷ []) (q + 1) (q + 1) (count + 1) k tail (at + (1 + body_size node.body)) (omega (arith, length-append done (Some node ∷ []))) (omega arith) (omega arith) fine.1 c
    ∙ same_run (over (q + 1) (q + 1) xs) refl (omega arith) (sym (one (Some node) xs)) refl (omega arith)

pub live_few : (xs : List (Option Node)) → live xs ≤ length xs
live_few [] = omega arith
live_few (None ∷ xs) = omega (arith, live_few xs)
live_few (Some node ∷ xs) = omega (arith, live_few xs)

-- the reader comes to the word after the words of whole nodes
pub comes_to : (places : List (Option Node)) (tail : List ℕ) → Proper places → Closed alternative_of tail
    → (k : ℕ) × (read_image (nodes_words 0 places ++ tail) ≡ run (suc k) (over 0 0 places) (live places) places tail (length (nodes_words 0 places)))
comes_to places tail proper c =
    let few = live_few places in
    let fuel = gap (live places) 512 (omega (arith, proper.count)) in
    let count = proper.count in (
      fuel.0,
      reads_by (nodes_words 0 places ++ tail)
          ∙ same_run 0 fuel.1 refl (ap (λ n. replicate n None) (sym count)) refl refl
          ∙ goes_over places [] 0 0 0 (suc fuel.0) tail 0 refl (omega arith) (omega arith) proper.each c
          ∙ same_run (over 0 0 places) refl (omega arith) refl refl (omega arith),
    )
  where
    gap : (m n : ℕ) → m ≤ n → (k : ℕ) × (n + 1 ≡ m + suc k)
    gap m n h = (n - m, omega arith)

pub all_accepted : (ws : List ℕ) (image : Image) → Accepted ws image → read_image ws ≡ Ok image
all_accepted ws image a =
    let places = image.places in
    let end = written (word.End (live places)) in
    let few = live_few places in
    let back = end_back (live places) (omega (arith, a.proper.count)) in
    let c : Closed alternative_of (end ∷ []) = ap (λ o. maybe o alternative_said) back in
    let r = comes_to places (end ∷ []) a.proper c in
    ap read_image a.words ∙ r.1
    ∙ run_none r.0 (over 0 0 places) (live places) places (end ∷ []) (length (nodes_words 0 places)) (ends (length (nodes_words 0 places)) (over 0 0 places) (live places) end [] back)
    ∙ ap (λ n. Ok (record { places = places; nodes = n })) (sym a.count)
