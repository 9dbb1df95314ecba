-- Whether a table has a node of a pattern.
use Rattle.std.proofs.Common.{◌≡◌, ℕ, suc, ◌<◌, Bool, true, false, ◌||◌, List, [], ◌∷◌, length, None, Option, sym, refl, ap, ◌∙◌, ⊎_elim}
use Rattle.std.specs.List.{list_any}
use Rattle.std.proofs.lemmas.Bool.{both_ways, cases_Bool, cases_lt}
use Rattle.std.proofs.lemmas.List.{get_or_past}
use Rattle.std.proofs.lemmas.List.Folds.{list_any_at}
use Rattle.words.specs.declared.node.Node.{Node}
use Rattle.structure.specs.Nodes.{node_at}
use Rattle.table.specs.declared.state.Table.{Table}
use Rattle.table.specs.Tables.{in_pattern}
use Rattle.calls.specs.Permits.{SaysNode}

module _ (pattern : ℕ) where
  some_node : (nodes : List (Option Node)) → list_any (in_pattern pattern) nodes ≡ true → (p : ℕ) × (in_pattern pattern (node_at nodes p) ≡ true)
  some_node [] h = absurd (both_ways false refl h)
  some_node (x ∷ nodes) h =
      ⊎_elim (λ yes. (0, yes)) (λ not. let further = some_node nodes (sym (ap (λ b. b || list_any (in_pattern pattern) nodes) not) ∙ h) in (suc further.0, further.1))
      (cases_Bool (in_pattern pattern x))

  -- a place past the last has no node
  within : (nodes : List (Option Node)) (p : ℕ) → in_pattern pattern (node_at nodes p) ≡ true → p < length nodes
  within nodes p h = ⊎_elim (λ small. small) (λ past. absurd (both_ways _ (ap (in_pattern pattern) (get_or_past nodes p None past)) h)) (cases_lt p (length nodes))

  pub says_node : (t : Table) (r : Bool) → r ≡ list_any (in_pattern pattern) t.nodes → SaysNode t pattern r
  says_node t true is = some_node t.nodes (sym is)
  says_node t false is = λ has. both_ways _ (sym is) (list_any_at (in_pattern pattern) t.nodes has.0 None (within t.nodes has.0 has.1) has.1)
