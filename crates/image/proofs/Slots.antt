-- Places of which none from some place on has a node, and one more node among them.
use Rattle.std.proofs.Common.{◌≡◌, ℕ, zero, suc, ◌+◌, ◌<◌, ◌≤◌, List, [], ◌∷◌, ◌++◌, length, get_or, set, replicate, Some, None, Option, sym, refl, ap, ◌∙◌, append_assoc, append-nil, add-zero, arith}
use Rattle.words.specs.declared.node.Node.{Node}
use Rattle.image.specs.Nodes.{node_words, nodes_words, live}

-- no place from number i of the list on has a node
abbrev pub Free : ℕ → List (Option Node) → Type 0
Free i [] = Unit {0}
Free zero (slot ∷ slots) = (slot ≡ None) × Free zero slots
Free (suc i) (slot ∷ slots) = Free i slots

pub free_none : (n : ℕ) → Free 0 (replicate n None)
free_none zero = tt
free_none (suc n) = (refl, free_none n)

free_more : (i : ℕ) (slots : List (Option Node)) → Free i slots → Free (suc i) slots
free_more i [] h = tt
free_more zero (slot ∷ slots) h = h.1
free_more (suc i) (slot ∷ slots) h = free_more i slots h

pub free_above : (i j : ℕ) (slots : List (Option Node)) → i ≤ j → Free i slots → Free j slots
free_above zero zero slots l h = h
free_above zero (suc j) slots l h = free_more j slots (free_above zero j slots (omega arith) h)
free_above (suc i) zero slots l h = absurd (omega arith)
free_above (suc i) (suc j) [] l h = tt
free_above (suc i) (suc j) (slot ∷ slots) l h = free_above i j slots (omega arith) h

pub free_set : (i : ℕ) (slots : List (Option Node)) (x : Option Node) → Free i slots → Free (suc i) (set slots i x)
free_set i [] x h = tt
free_set zero (slot ∷ slots) x h = h.1
free_set (suc i) (slot ∷ slots) x h = free_set i slots x h

-- ### words and number of nodes

free_words : (place : ℕ) (slots : List (Option Node)) → Free 0 slots → nodes_words place slots ≡ []
free_words place [] h = refl
free_words place (slot ∷ slots) h = ap (λ s. nodes_words place (s ∷ slots)) h.0 ∙ free_words (place + 1) slots h.1

free_live : (slots : List (Option Node)) → Free 0 slots → live slots ≡ 0
free_live [] h = refl
free_live (slot ∷ slots) h = ap (λ s. live (s ∷ slots)) h.0 ∙ free_live slots h.1

pub set_words : (place i : ℕ) (slots : List (Option Node)) (node : Node) → i < length slots → Free i slots → nodes_words place (set slots i (Some node)) ≡ nodes_words place slots ++ node_words (place + i) node
set_words place i [] node l h = absurd (omega arith)
set_words place zero (slot ∷ slots) node l h =
    ap (λ ws. node_words place node ++ ws) (free_words (place + 1) slots h.1) ∙ append-nil (node_words place node) ∙ ap (λ p. node_words p node) (sym (add-zero place))
    ∙ ap (λ ws. ws ++ node_words (place + 0) node) (sym (free_words place (slot ∷ slots) h))
set_words place (suc i) (None ∷ slots) node l h =
    let at : place + 1 + i ≡ place + suc i = omega arith in
    set_words (place + 1) i slots node (omega arith) h ∙ ap (λ p. nodes_words (place + 1) slots ++ node_words p node) at
set_words place (suc i) (Some other ∷ slots) node l h =
    let at : place + 1 + i ≡ place + suc i = omega arith in
    ap (λ ws. node_words place other ++ ws) (set_words (place + 1) i slots node (omega arith) h ∙ ap (λ p. nodes_words (place + 1) slots ++ node_words p node) at)
    ∙ sym (append_assoc (node_words place other) (nodes_words (place + 1) slots) (node_words (place + suc i) node))

pub set_live : (i : ℕ) (slots : List (Option Node)) (node : Node) → i < length slots → Free i slots → live (set slots i (Some node)) ≡ live slots + 1
set_live i [] node l h = absurd (omega arith)
set_live zero (slot ∷ slots) node l h = omega (arith, free_live slots h.1, free_live (slot ∷ slots) h)
set_live (suc i) (None ∷ slots) node l h = set_live i slots node (omega arith) h
set_live (suc i) (Some other ∷ slots) node l h = omega (arith, set_live i slots node (omega arith) h)

-- ### the first place above the last node

-- one above the last place that has a node, where place is the number of the first of slots, and floor if none has
abbrev pub over : ℕ → ℕ → List (Option Node) → ℕ
over floor place [] = floor
over floor place (None ∷ slots) = over floor (place + 1) slots
over floor place (Some node ∷ slots) = over (place + 1) (place + 1) slots

over_at_least : (floor place : ℕ) (slots : List (Option Node)) → floor ≤ place → floor ≤ over floor place slots
over_at_least floor place [] h = omega arith
over_at_least floor place (None ∷ slots) h = over_at_least floor (place + 1) slots (omega arith)
over_at_least floor place (Some node ∷ slots) h = omega (arith, over_at_least (place + 1) (place + 1) slots (omega arith))

pub over_above : (floor place i : ℕ) (slots : List (Option Node)) (node : Node) → floor ≤ place → get_or slots i None ≡ Some node → place + i < over floor place slots
over_above floor place i [] node h e = let z : ◌≡◌ {A = ℕ} 0 1 = cc in absurd (omega arith)
over_above floor place zero (None ∷ slots) node h e = let z : ◌≡◌ {A = ℕ} 0 1 = cc in absurd (omega arith)
over_above floor place zero (Some other ∷ slots) node h e = omega (arith, over_at_least (place + 1) (place + 1) slots (omega arith))
over_above floor place (suc i) (None ∷ slots) node h e = omega (arith, over_above floor (place + 1) i slots node (omega arith) e)
over_above floor place (suc i) (Some other ∷ slots) node h e = omega (arith, over_above (place + 1) (place + 1) i slots node (omega arith) e)
