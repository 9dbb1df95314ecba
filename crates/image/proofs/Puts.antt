-- Words that are put one after another, and the words of the places that are left.
use Rattle.std.proofs.Common.{◌≡◌, ℕ, ◌+◌, ◌*◌, ◌<◌, ◌≤◌, List, [], ◌∷◌, ◌++◌, length, get_or, take, drop, set, sum_by, count_by, is_some, cond, Some, None, Option, sym, refl, ap, ◌∙◌, append_assoc, add-zero, zero-add, arith, length-append, length-set, take-append-drop}
use Rattle.std.proofs.lemmas.List.{at_drop_more, take_more_set, drop-set-lt}
use Rattle.std.proofs.lemmas.List.Sums.{sum_by-cons}
use Rattle.std.proofs.lemmas.List.Recursion.{is_count_by}
use Rattle.words.specs.declared.node.Node.{Node}
use Rattle.words.specs.declared.word.Word.TheVariants.{End}
use Rattle.words.specs.Format.{written}
use Rattle.image.specs.Nodes.{node_words, nodes_words, live, image_words}
use Rattle.image.specs.Writing.{puts, slot_words, slot_size}
use Rattle.image.proofs.Whole.{body_long, body_short}

pub puts_append : (out : List ℕ) (at : ℕ) (xs ys : List ℕ) → puts out at (xs ++ ys) ≡ puts (puts out at xs) (at + length xs) ys
puts_append out at [] ys = ap (λ i. puts out i ys) (sym (add-zero at))
puts_append out at (x ∷ xs) ys =
    let e : at + 1 + length xs ≡ at + length (x ∷ xs) = omega arith in
    puts_append (set out at x) (at + 1) xs ys ∙ ap (λ i. puts (puts (set out at x) (at + 1) xs) i ys) e

pub puts_is : (out : List ℕ) (at : ℕ) (ws : List ℕ) → at + length ws ≤ length out → puts out at ws ≡ take at out ++ (ws ++ drop (at + length ws) out)
puts_is out at [] h = rw add-zero (sym (take-append-drop at out))
puts_is out at (w ∷ ws) h =
    let long = length-set out at w in
    let e : at + 1 + length ws ≡ at + length (w ∷ ws) = omega arith in
    let front = take_more_set out at w (omega arith) in
    let back = drop-set-lt (at + length (w ∷ ws)) out at w (omega arith) in
    puts_is (set out at w) (at + 1) ws (omega arith)
    ∙ rw (e, front, back) (append_assoc (take at out) (w ∷ []) _)

pub puts_long : (out : List ℕ) (at : ℕ) (ws : List ℕ) → length (puts out at ws) ≡ length out
puts_long out at [] = refl
puts_long out at (w ∷ ws) = puts_long (set out at w) (at + 1) ws ∙ length-set out at w

-- ### the first of the places that are left

words_first : (place : ℕ) (slot : Option Node) (rest : List (Option Node)) → nodes_words place (slot ∷ rest) ≡ slot_words place slot ++ nodes_words (place + 1) rest
words_first place None rest = refl
words_first place (Some node) rest = refl

module _ (places : List (Option Node)) (i : ℕ) (h : i < length places) where
  pub words_more : nodes_words i (drop i places) ≡ slot_words i (get_or places i None) ++ nodes_words (i + 1) (drop (i + 1) places)
  words_more = at_drop_more (nodes_words i) places i None h ∙ words_first i (get_or places i None) (drop (i + 1) places)

  pub size_more : length (nodes_words i (drop i places)) ≡ length (slot_words i (get_or places i None)) + length (nodes_words (i + 1) (drop (i + 1) places))
  size_more = ap length words_more ∙ length-append (slot_words i (get_or places i None)) _

  pub puts_more : (out : List ℕ) (at : ℕ) → puts out at (nodes_words i (drop i places))
      ≡ puts (puts out at (slot_words i (get_or places i None))) (at + length (slot_words i (get_or places i None))) (nodes_words (i + 1) (drop (i + 1) places))
  puts_more out at = ap (puts out at) words_more ∙ puts_append out at (slot_words i (get_or places i None)) _

-- ### how many words and nodes there are

pub slot_long : (place : ℕ) (slot : Option Node) → length (slot_words place slot) ≡ slot_size slot
slot_long place None = refl
slot_long place (Some node) = omega (arith, body_long node.body)

pub nodes_long : (place : ℕ) (places : List (Option Node)) → length (nodes_words place places) ≡ sum_by slot_size places
nodes_long place [] = refl
nodes_long place (None ∷ places) = omega (arith, nodes_long (place + 1) places, sum_by-cons slot_size None places)
nodes_long place (Some node ∷ places) =
    omega (arith, length-append (node_words place node) (nodes_words (place + 1) places), slot_long place (Some node), nodes_long (place + 1) places, sum_by-cons slot_size (Some node) places)

slot_short : (slot : Option Node) → slot_size slot ≤ 6
slot_short None = omega arith
slot_short (Some node) = let body = body_short node.body in omega arith

pub sizes_short : (places : List (Option Node)) → sum_by slot_size places ≤ length places * 6
sizes_short [] = omega arith
sizes_short (slot ∷ places) = omega (arith, slot_short slot, sizes_short places, sum_by-cons slot_size slot places)

pub live_counted : (places : List (Option Node)) → live places ≡ count_by is_some places
live_counted = is_count_by live is_some refl (λ slot rest. elim slot as (λ s. live (s ∷ rest) ≡ cond (is_some s) (1 + live rest) (live rest)) [ None ↦ refl | Some node ↦ refl ])

-- ### the whole image

pub image_long : (places : List (Option Node)) → length (image_words places) ≡ length (nodes_words 0 places) + 1
image_long places = length-append (nodes_words 0 places) _

-- the nodes, and then the end word
pub puts_image : (out : List ℕ) (places : List (Option Node)) (end : ℕ) → end ≡ written (End (live places)) → length (image_words places) ≤ length out
    → set (puts out 0 (nodes_words 0 places)) (length (nodes_words 0 places)) end ≡ image_words places ++ drop (length (image_words places)) out
puts_image out places end is room =
    let ws = nodes_words 0 places in
    let at : 0 + length ws ≡ length ws = omega arith in
    ap (λ w. set (puts out 0 ws) (length ws) w) is
    ∙ ap (λ i. puts (puts out 0 ws) i (written (End (live places)) ∷ [])) (sym at)
    ∙ sym (puts_append out 0 ws (written (End (live places)) ∷ []))
    ∙ puts_is out 0 (image_words places) (omega arith)
    ∙ ap (λ i. image_words places ++ drop i out) (zero-add (length (image_words places)))
