-- Well ended by the book is the same as: the nexts come to a block or an empty place.
use Rattle.std.proofs.Common.{◌≡◌, ℕ, zero, suc, ◌<◌, ◌≤◌, Bool, true, false, not, ◌&&◌, ltb, List, length, is_some, Some, None, Option, sym, refl, ap, ◌∙◌, subst, ⊎_elim, arith}
use Rattle.std.proofs.lemmas.List.{get_or_past}
use Rattle.std.proofs.lemmas.Bool.{cases_lt, cases_Bool, cond-true, lt-ltb, and_parts, and_from, not-true, not_from_false}
use Rattle.rules.specs.declared.book.Rule.{Rule}
use Rattle.rules.specs.declared.derived.Derived.{Derived}
use Rattle.rules.specs.Chain.{Met, Grounded, Concludes, Derivable}
use Rattle.rules.specs.Found.{marks, Found}
use Rattle.rules.specs.Laws.{Whole}
use Rattle.rules.proofs.Chains.{derivable_in}
use Rattle.words.specs.declared.node.Node.{Node}
use Rattle.structure.specs.Nodes.{node_at, onward}
use Rattle.structure.specs.Structure.{ComesOut, WellEnded, Endless}
use Rattle.structure.specs.Endings.{no_rule, ground_to, ground_of, rule_by, ending_rule, endings_book, EndedAlike}
use Rattle.structure.specs.Lowest.{FoundLowest, Yes}

-- ### the book

none_some : {A B : Type 0} (x : A) → ◌≡◌ {A = Option A} None (Some x) → B
none_some x e = let z : ◌≡◌ {A = ℕ} 0 1 = cc in absurd (omega arith)

module _ (nodes : List (Option Node)) (long : length nodes ≤ 512) where
  abbrev pub book : ℕ → Rule
  book = endings_book nodes

  book_is : (i : ℕ) → i < 512 → book i ≡ ending_rule nodes i
  book_is i h = cond-true (ltb i 512) (ending_rule nodes i) no_rule (lt-ltb i 512 h)

  -- a message or flow stands at a place of the table
  small : (p n : ℕ) → onward (node_at nodes p) ≡ Some n → p < 512
  small p n e = ⊎_elim (λ l. omega arith) (λ l. none_some n (ap onward (sym (get_or_past nodes p None l)) ∙ e)) (cases_lt p (length nodes))

  by_ground : (p n : ℕ) → onward (node_at nodes p) ≡ Some n → (o : Option ℕ) → onward (node_at nodes n) ≡ o → Met (WellEnded nodes) (ground_to n o) → WellEnded nodes p
  by_ground p n e None is m = (1, (n, e, is))
  by_ground p n e (Some further) is m = (suc m.0, (n, e, m.1))

  by_rule : (k p : ℕ) (o : Option ℕ) → onward (node_at nodes k) ≡ o → Concludes (rule_by nodes k o) p → Grounded (WellEnded nodes) (rule_by nodes k o) → WellEnded nodes p
  by_rule k p None is c g = none_some p c.0
  by_rule k p (Some n) is c g = let same : k ≡ p = cc c.0 in subst (WellEnded nodes) same (by_ground k n is (onward (node_at nodes n)) refl g.0)

  pub ended_so : (p : ℕ) → Derivable 512 book p → WellEnded nodes p
  ended_so = derivable_in 512 book (WellEnded nodes)
      (λ k l p c g. by_rule k p (onward (node_at nodes k)) refl (subst (λ r. Concludes r p) (book_is k l) c) (subst (Grounded (WellEnded nodes)) (book_is k l) g))

  -- only messages and flows follow
  abbrev Passing : ℕ → Type 0
  Passing p = (n : ℕ) × (onward (node_at nodes p) ≡ Some n)

  passing_by : (k p : ℕ) (o : Option ℕ) → onward (node_at nodes k) ≡ o → Concludes (rule_by nodes k o) p → Passing p
  passing_by k p None is c = none_some p c.0
  passing_by k p (Some n) is c = let same : k ≡ p = cc c.0 in subst Passing same (n, is)

  passing_so : (p : ℕ) → Derivable 512 book p → Passing p
  passing_so = derivable_in 512 book Passing (λ k l p c g. passing_by k p (onward (node_at nodes k)) refl (subst (λ r. Concludes r p) (book_is k l) c))

  module _ (closed : Whole 512 book) where
    to_rule : (p n : ℕ) → onward (node_at nodes p) ≡ Some n → Met (Derivable 512 book) (ground_of nodes n) → Derivable 512 book p
    to_rule p n e m =
        let l = small p n e in
        let is : book p ≡ rule_by nodes p (Some n) = book_is p l ∙ ap (rule_by nodes p) e in
        closed p l p (subst (λ r. Concludes r p) (sym is) (refl, l)) (subst (Grounded (Derivable 512 book)) (sym is) (m, tt))

    met : (n : ℕ) (o : Option ℕ) → onward (node_at nodes n) ≡ o → ((m : ℕ) → onward (node_at nodes n) ≡ Some m → Derivable 512 book n) → Met (Derivable 512 book) (ground_to n o)
    met n None is h = tt
    met n (Some m) is h = h m is

    pub well_so : (k p n : ℕ) → onward (node_at nodes p) ≡ Some n → ComesOut nodes k p → Derivable 512 book p
    well_so zero p n e w = none_some n (sym w ∙ e)
    well_so (suc k) p n e w =
        let same : w.0 ≡ n = cc w.1 in
        to_rule p n e (met n (onward (node_at nodes n)) refl (λ m is. well_so k n m is (subst (ComesOut nodes k) same w.2)))

    pub ended_alike : EndedAlike nodes
    ended_alike p = (λ d. (passing_so p d, ended_so p d), λ n e w. well_so w.0 p n e w.1)

    module _ (d : Derived) (found : Found 512 book d) where
      abbrev says : ℕ → Bool
      says p = is_some (onward (node_at nodes p)) && not (marks d p)

      some : (o : Option ℕ) → is_some o ≡ true → (n : ℕ) × (o ≡ Some n)
      some None h = let z : ◌≡◌ {A = Bool} false true = h in absurd (subst (λ b. elim b as (λ _. Type 0) [ true ↦ ⊥ | false ↦ Unit {0} ]) z tt)
      some (Some n) h = (n, refl)

      yes_endless : (p : ℕ) → Yes says p → Endless nodes p
      yes_endless p y (k, w) =
          let both = and_parts (is_some (onward (node_at nodes p))) (not (marks d p)) y in
          let next = some (onward (node_at nodes p)) both.0 in
          let m = found.complete p (well_so k p next.0 next.1 w) in
          let n = not-true (marks d p) both.1 in
          let z : ◌≡◌ {A = Bool} true false = sym m ∙ n in
          subst (λ b. elim b as (λ _. Type 0) [ true ↦ Unit {0} | false ↦ ⊥ ]) z tt

      at_next : (p : ℕ) (o : Option ℕ) → onward (node_at nodes p) ≡ o → Endless nodes p → is_some o ≡ true
      at_next p None is e = absurd (e (0, is))
      at_next p (Some n) is e = refl

      endless_yes : (p : ℕ) → Endless nodes p → Yes says p
      endless_yes p e = and_from (is_some (onward (node_at nodes p))) (not (marks d p)) (at_next p (onward (node_at nodes p)) refl e)
          (not_from_false (marks d p) (⊎_elim (λ t. absurd (e (ended_so p (found.sound p t)))) (λ f. f) (cases_Bool (marks d p))))

      pub lowest_endless : (r : Option ℕ) → FoundLowest (Yes says) r → FoundLowest (Endless nodes) r
      lowest_endless None h = λ q l e. h q l (endless_yes q e)
      lowest_endless (Some p) h = record { small = h.small; here = yes_endless p h.here; below = λ q l e. h.below q l (endless_yes q e) }
