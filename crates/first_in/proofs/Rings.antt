-- What a read, a write and a step of the head come to in a ring of slots.
use Rattle.std.proofs.Common.{◌≡◌, ℕ, ◌+◌, ◌-◌, ◌<◌, ◌≤◌, min, cond, ltb, List, [], ◌∷◌, ◌++◌, length, get_or, take, drop, set, Some, sym, ap, ◌∙◌, ⊎_elim, append_assoc, append-nil, add-one, arith, length-append, length-drop, length-set, length-take, take_all, drop-set-lt}
use lib.Seq.{take-set-lt, take-set-le, drop-set-add, set-append_left, take-append-le}
use borrow.Rule.Slice.Mut.{set_vals}
use Rattle.std.proofs.lemmas.List.{drop_all, take_more, take_more_set, drop_more, set-append_right, take-take, drop-drop, get_or_append_left, get_or-append_right, get_or-drop, get_or-take}
use Rattle.std.proofs.lemmas.Bool.{cases_lt, lt-ltb, le-ltb, cond-true, cond-false}
use Rattle.first_in.specs.Items.{ring, items, room, oldest, Gathered}
use Rattle.first_in.specs.Places.{start_of, place_of}
use Rattle.first_in.specs.declared.list.FirstIn.{FirstIn}

abbrev pub turned : {T : Type 0} → List T → ℕ → List T
turned s h = drop h s ++ take h s

-- the slot of item n where the oldest stands at k
abbrev behind : ℕ → ℕ → ℕ → ℕ
behind k n size = cond (ltb n (size - k)) (k + n) (n - (size - k))

behind_low : (k n size : ℕ) → n < size - k → behind k n size ≡ k + n
behind_low k n size l = cond-true _ _ _ (lt-ltb n (size - k) l)

behind_high : (k n size : ℕ) → size - k ≤ n → behind k n size ≡ n - (size - k)
behind_high k n size l = cond-false _ _ _ (le-ltb n (size - k) l)

start_low : (h size : ℕ) → h < size → start_of h size ≡ h
start_low h size l = cond-true _ _ _ (lt-ltb h size l)

start_high : (h size : ℕ) → size ≤ h → start_of h size ≡ 0
start_high h size l = cond-false _ _ _ (le-ltb h size l)

start_within : (h size : ℕ) → 0 < size → start_of h size < size
start_within h size p = ⊎_elim (λ l. omega (arith, start_low h size l)) (λ l. omega (arith, start_high h size l)) (cases_lt h size)

-- from the first slot on, item n stands in slot n
pub place_front : (n size : ℕ) → n < size → place_of 0 n size ≡ n
place_front n size l =
    let start : start_of 0 size ≡ 0 = start_low 0 size (omega arith) in
    ap (λ k. behind k n size) start ∙ behind_low 0 n size (omega arith) ∙ omega arith

module _ {T : Type 0} (s : List T) where
  length-turned : (h : ℕ) → length (turned s h) ≡ length s
  length-turned h = simp (length-append, length-drop, length-take) (omega arith)

  pub length-ring : (h n : ℕ) → length (ring s h n) ≡ min n (length s)
  length-ring h n = simp (length-take, length-append, length-drop) (omega arith)

  -- a head past the end reads as 0
  turned_start : (h : ℕ) → turned s h ≡ turned s (start_of h (length s))
  turned_start h =
      ⊎_elim
      (λ l. ap (turned s) (sym (start_low h (length s) l)))
      (λ l. ap (λ t. t ++ take h s) (drop_all h s l) ∙ take_all h s l ∙ sym (append-nil s) ∙ ap (turned s) (sym (start_high h (length s) l)))
      (cases_lt h (length s))

  read_behind : (k n : ℕ) (d : T) → k < length s → n < length s → get_or (turned s k) n d ≡ get_or s (behind k n (length s)) d
  read_behind k n d kl nl =
      let ld : length (drop k s) ≡ length s - k = length-drop k s in
      ⊎_elim
      (λ l. get_or_append_left (drop k s) (take k s) d n (omega arith) ∙ get_or-drop k s n d ∙ ap (λ i. get_or s i d) (sym (behind_low k n (length s) l)))
      (λ l. get_or-append_right (drop k s) (take k s) (length s - k) n d ld l ∙ get_or-take k s (n - (length s - k)) d (omega arith) ∙ ap (λ i. get_or s i d) (sym (behind_high k n (length s) l)))
      (cases_lt n (length s - k))

  write_low : (k n : ℕ) (x : T) → n < length s - k → turned (set s (k + n) x) k ≡ set (turned s k) n x
  write_low k n x nl =
      let le : k ≤ k + n = omega arith in
      let lt : n < length (drop k s) = simp length-drop (omega arith) in
      rw (drop-set-add k s n x, take-set-le k s (k + n) x) (sym (set-append_left (drop k s) (take k s) n x lt))

  write_high : (k n : ℕ) (x : T) → k < length s → length s - k ≤ n → n < length s → turned (set s (n - (length s - k)) x) k ≡ set (turned s k) n x
  write_high k n x kl nl lt =
      let at : n - (length s - k) < k = omega arith in
      let ld : length (drop k s) ≡ length s - k = length-drop k s in
      rw (drop-set-lt k s (n - (length s - k)) x, take-set-lt k s (n - (length s - k)) x) (sym (set-append_right (drop k s) (take k s) (length s - k) n x ld nl))

  write_behind : (k n : ℕ) (x : T) → k < length s → n < length s → turned (set s (behind k n (length s)) x) k ≡ set (turned s k) n x
  write_behind k n x kl nl =
      ⊎_elim
      (λ l. ap (λ i. turned (set s i x) k) (behind_low k n (length s) l) ∙ write_low k n x l)
      (λ l. ap (λ i. turned (set s i x) k) (behind_high k n (length s) l) ∙ write_high k n x kl l nl)
      (cases_lt n (length s - k))

  -- the ring without its first item, from the next slot on
  step_behind : (k n : ℕ) (d : T) → k < length s → 0 < n → n ≤ length s → drop 1 (take n (turned s k)) ≡ take (n - 1) (turned s (behind k 1 (length s)))
  step_behind k n d kl np nl =
      let back : n ≡ (n - 1) + 1 = omega arith in
      let split : turned s k ≡ get_or s k d ∷ (drop (k + 1) s ++ take k s) = ap (λ l. l ++ take k s) (drop_more s k d kl) in
      let first : drop 1 (take n (turned s k)) ≡ take (n - 1) (drop (k + 1) s ++ take k s) =
      ap (λ l. drop 1 (take n l)) split ∙ ap (λ i. drop 1 (take i (get_or s k d ∷ (drop (k + 1) s ++ take k s)))) (back ∙ add-one (n - 1)) in
      first
      ∙ ⊎_elim
      (λ l.
      let at : behind k 1 (length s) ≡ k + 1 = behind_low k 1 (length s) l in
      let longer : take (k + 1) s ≡ take k s ++ get_or s k d ∷ [] = take_more s k d kl in
      let enough : n - 1 ≤ length (drop (k + 1) s ++ take k s) = simp (length-append, length-drop, length-take) (omega arith) in
      sym (ap (λ i. take (n - 1) (turned s i)) at ∙ ap (λ t. take (n - 1) (drop (k + 1) s ++ t)) longer ∙ ap (take (n - 1)) (sym (append_assoc (drop (k + 1) s) (take k s) (get_or s k d ∷ []))) ∙ take-append-le (n - 1) (drop (k + 1) s ++ take k s) (get_or s k d ∷ []) enough))
      (λ l.
      let at : behind k 1 (length s) ≡ 0 = omega (arith, behind_high k 1 (length s) l) in
      ap (λ t. take (n - 1) (t ++ take k s)) (drop_all (k + 1) s (omega arith)) ∙ take-take (n - 1) k s (omega arith) ∙ sym (ap (λ i. take (n - 1) (turned s i)) at ∙ ap (take (n - 1)) (append-nil s)))
      (cases_lt 1 (length s - k))

-- a list never holds more than there is room for
pub items_within : {T : Type 0} (q : FirstIn T) → length (items q) ≤ room q
items_within q = omega (arith, length-ring q.slots.now q.head q.len)

oldest_at : {T : Type 0} (xs : List T) (n : ℕ) (d : T) → n < length xs → oldest (drop n xs) ≡ Some (get_or xs n d)
oldest_at xs n d l = ap oldest (drop_more xs n d l)

-- item n stands in its place
pub ring_item : {T : Type 0} (s : List T) (h len n : ℕ) (x : T) → n < length (ring s h len) → x ≡ get_or s (place_of h n (length s)) x → oldest (drop n (ring s h len)) ≡ Some x
ring_item s h len n x l is =
    let e = length-ring s h len in
    let within : n < length s = omega arith in
    let pos : 0 < length s = omega arith in
    oldest_at (ring s h len) n x l
    ∙ ap Some (get_or-take len (turned s h) n x (omega arith) ∙ ap (λ t. get_or t n x) (turned_start s h) ∙ read_behind s (start_of h (length s)) n x (start_within h (length s) pos) within ∙ sym is)

-- one item more at the end
pub ring_put : {T : Type 0} (s : List T) (h n : ℕ) (x : T) → n < length s → ring (set s (place_of h n (length s)) x) h (n + 1) ≡ ring s h n ++ x ∷ []
ring_put s h n x l =
    let at = place_of h n (length s) in
    let k = start_of h (length s) in
    let pos : 0 < length s = omega arith in
    let there : turned (set s at x) h ≡ set (turned s h) n x =
    turned_start (set s at x) h ∙ ap (λ i. turned (set s at x) (start_of h i)) (length-set s at x) ∙ write_behind s k n x (start_within h (length s) pos) l ∙ ap (λ t. set t n x) (sym (turned_start s h)) in
    let long : n < length (turned s h) = rw length-turned l in
    ap (take (n + 1)) there ∙ take_more_set (turned s h) n x long

-- one item fewer at the front
pub ring_skip : {T : Type 0} (s : List T) (h n m : ℕ) → 0 < length (ring s h n) → m ≡ length (ring s h n) → ring s (place_of h 1 (length s)) (m - 1) ≡ drop 1 (ring s h n)
ring_skip {T} [] h n m l e = let none : ⊥ = omega (arith, length-ring {T = T} [] h n) in absurd none
ring_skip {T} (d ∷ t) h n m l e =
    let s = d ∷ t in
    let r = length-ring s h n in
    let pos : 0 < length s = omega arith in
    let cut : take n (turned s h) ≡ take m (turned s h) =
    ⊎_elim
    (λ a. ap (λ i. take i (turned s h)) (omega arith))
    (λ a. take_all n (turned s h) (omega (arith, length-turned s h)) ∙ sym (take_all m (turned s h) (omega (arith, length-turned s h))))
    (cases_lt n (length s)) in
    sym (ap (drop 1) (cut ∙ ap (take m) (turned_start s h)) ∙ step_behind s (start_of h (length s)) m d (start_within h (length s) pos) (omega arith) (omega arith))

-- a put keeps the items in front
pub gathered_put : {T : Type 0} (q : FirstIn T) (start : List T) (at : ℕ) (x : T) → at ≡ q.len → Gathered start q → Gathered start record { slots = set_vals (set q.slots.now at x) q.slots; head = q.head; len = q.len + 1 }
gathered_put q start at x e h = record {
  front = h.front;
  long = length-set q.slots.now at x ∙ h.long;
  rest =
      let lt : at < q.len + 1 = omega arith in
      drop-set-lt (q.len + 1) q.slots.now at x lt ∙ sym (drop-drop 1 q.len q.slots.now) ∙ ap (drop 1) h.rest ∙ drop-drop 1 q.len start;
}
