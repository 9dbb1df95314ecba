-- Loading brings nothing new into reach where no empty place was in reach, and emptying a pattern does not where its places were not in reach.
use Rattle.std.proofs.Common.{◌≡◌, ℕ, ◌<◌, Bool, true, false, ◌⊎◌, List, length, get_or, replicate, is_some, Some, None, Option, sym, refl, ap, ◌∙◌, inl, inr, ⊎_elim, arith}
use Rattle.std.proofs.lemmas.List.{get_or_past}
use Rattle.std.proofs.lemmas.Bool.{and_from, cases_lt, false≢true}
use Rattle.words.specs.declared.node.Node.{Node}
use Rattle.structure.specs.Nodes.{node_at}
use Rattle.structure.specs.Lowest.{Nowhere, Yes}
use Rattle.table.specs.declared.state.Table.{Table}
use Rattle.table.specs.Tables.{taken, over, loaded, in_pattern, marked, without}
use Rattle.reach.specs.Scenes.{scene_of, Empty, IsOfPattern}
use Rattle.reach.specs.Chains.{InReach}
use Rattle.reach.specs.Laws.{Apart}
use Rattle.reach.proofs.Sets.{zipped_cases}
use Rattle.reach.proofs.Within.{emptied_within, loaded_same}
use Rattle.calls.specs.Calls.{removed}
use Rattle.uses.proofs.Outcomes.{none_some}
use Rattle.uses.proofs.Wholes.{all_same}
use Rattle.uses.proofs.Calm.{Calm}

-- ### loading

-- a place that has a node lies within the places
some_within : (nodes : List (Option Node)) (p : ℕ) → length nodes ≡ 512 → is_some (node_at nodes p) ≡ true → p < 512
some_within nodes p count some =
    elim (cases_lt p 512) [
      | inl lt ↦ lt
      | inr ge ↦ absurd (false≢true (sym (ap is_some (get_or_past nodes p None (omega arith))) ∙ some))
    ]

none_or_some : (node : Option Node) → (node ≡ None) ⊎ (is_some node ≡ true)
none_or_some None = inl refl
none_or_some (Some node) = inr refl

-- where no place is taken, and no empty place is in reach, the new nodes come to empty places that are not in reach
pub apart_of : (t : Table) (new : List (Option Node)) → length new ≡ 512 → Nowhere (Yes (taken t.nodes new)) → ((p : ℕ) → InReach (scene_of t) p → Empty (scene_of t) p → ⊥) → Apart t new
apart_of t new count free live p some =
    elim (none_or_some (node_at t.nodes p)) [
      | inl empty ↦ (empty, λ r. live p r empty)
      | inr old ↦ absurd (free p (some_within new p count some) (and_from (is_some (node_at t.nodes p)) (is_some (node_at new p)) old some))
    ]

over_empty : (old new : Option Node) → over old new ≡ None → old ≡ None
over_empty old None h = h
over_empty old (Some node) h = absurd (none_some node (sym h))

over_pattern : (k : ℕ) (old new : Option Node) → in_pattern k (over old new) ≡ true → (is_some new ≡ true) ⊎ (in_pattern k old ≡ true)
over_pattern k old None h = inr h
over_pattern k old (Some node) h = inl refl

pub loaded_calm : (t : Table) (new : List (Option Node)) → Apart t new → Calm t (loaded t new)
loaded_calm t new apart = record {
  within = (loaded_same t new apart).0;
  empty = λ p r h. ⊎_elim (λ e. e) (over_empty (node_at t.nodes p) (node_at new p)) (zipped_cases (λ o. o ≡ None) over t.nodes new p None None h);
  pattern = λ k p r h.
      ⊎_elim (λ e. e)
      (λ e. ⊎_elim (λ some. absurd ((apart p some).1 r)) (λ old. old) (over_pattern k (node_at t.nodes p) (node_at new p) e))
      (zipped_cases (λ o. in_pattern k o ≡ true) over t.nodes new p None None h);
  check = λ k h. h;
}

-- ### emptying

-- a mark stands at a place of the pattern
marked_pattern : (pattern : ℕ) (nodes : List (Option Node)) (p : ℕ) → get_or (marked pattern nodes) p false ≡ true → in_pattern pattern (node_at nodes p) ≡ true
marked_pattern pattern nodes p h =
    ⊎_elim (λ e. absurd (false≢true (sym (all_same 512 p false) ∙ e))) (λ e. e)
    (zipped_cases (λ b. b ≡ true) (λ _ node. in_pattern pattern node) (replicate 512 false) nodes p false None h)

without_empty : (old : Option Node) (mark : Bool) → without old mark ≡ None → (mark ≡ true) ⊎ (old ≡ None)
without_empty old true h = inl refl
without_empty old false h = inr h

without_pattern : (k : ℕ) (old : Option Node) (mark : Bool) → in_pattern k (without old mark) ≡ true → in_pattern k old ≡ true
without_pattern k old true h = absurd (false≢true h)
without_pattern k old false h = h

pub removed_calm : (t : Table) (pattern : ℕ) → ((p : ℕ) → InReach (scene_of t) p → IsOfPattern (scene_of t) pattern p → ⊥) → Calm t (removed t pattern)
removed_calm t pattern spared =
    let marks : List Bool = marked pattern t.nodes in
    record {
      within = emptied_within t pattern;
      empty = λ p r h.
          ⊎_elim (λ e. e)
          (λ e. ⊎_elim (λ mark. absurd (spared p r (marked_pattern pattern t.nodes p mark))) (λ none. none) (without_empty (node_at t.nodes p) (get_or marks p false) e))
          (zipped_cases (λ o. o ≡ None) without t.nodes marks p None false h);
      pattern = λ k p r h.
          ⊎_elim (λ e. e) (without_pattern k (node_at t.nodes p) (get_or marks p false))
          (zipped_cases (λ o. in_pattern k o ≡ true) without t.nodes marks p None false h);
      check = λ k h. absurd (none_some k h);
    }
