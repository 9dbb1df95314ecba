-- What is told of nodes that would join those of a table, found by questions that compute.
use Rattle.std.proofs.Common.{◌≡◌, ℕ, zero, suc, ◌+◌, Bool, true, false, cond, not, ◌&&◌, eqb, ltb, List, [], ◌∷◌, take, is_some, Some, None, Option, sym, refl, ap, ◌∙◌}
use Rattle.std.proofs.lemmas.List.{get_or-take}
use Rattle.std.proofs.lemmas.Bool.{and_parts, both_ways, not-true, ltb-true, eq-eqb, or_left, false≢true}
use Rattle.words.specs.declared.node.Node.{Node}
use Rattle.structure.specs.declared.judge.Flaw.{Flaw as NodeFlaw}
use Rattle.structure.specs.declared.judge.Flaw.TheVariants.{Late, Loop, Listing}
use Rattle.structure.specs.Nodes.{node_at, onward}
use Rattle.structure.specs.Structure.{late, node_late, unlisted, node_unlisted, ComesOut, WellEnded, Endless}
use Rattle.structure.specs.Lowest.{Nowhere, Lowest}
use Rattle.structure.specs.Flaws.{Told}
use Rattle.table.specs.Tables.{taken}
use Rattle.cases.proofs.Checks.{every, every_at, has, every_has, no_some}

-- ### no place is taken

abbrev pub apart : List (Option Node) → List (Option Node) → Bool
apart [] new = true
apart (x ∷ old) [] = true
apart (x ∷ old) (y ∷ new) = not (is_some x && is_some y) && apart old new

pub apart_is : (old new : List (Option Node)) → apart old new ≡ true → (q : ℕ) → taken old new q ≡ true → ⊥
apart_is [] new h q at = false≢true at
apart_is (x ∷ old) [] h q at = false≢true (and_parts (is_some (node_at (x ∷ old) q)) false at).1
apart_is (x ∷ old) (y ∷ new) h zero at = both_ways _ (not-true _ (and_parts (not (is_some x && is_some y)) _ h).0) at
apart_is (x ∷ old) (y ∷ new) h (suc q) at = apart_is old new (and_parts (not (is_some x && is_some y)) _ h).1 q at

-- the first position at which a question is answered yes
abbrev pub first : {X : Type 0} → (X → Bool) → List X → ℕ
first f [] = 0
first f (x ∷ xs) = cond (f x) 0 (1 + first f xs)

module _ (nodes : List (Option Node)) where
  -- ### a flaw that is a question about the node

  module _ (flaw : Option Node → Bool) (none : flaw None ≡ false) where
    abbrev pub free : List (Option Node) → Bool
    free xs = every (λ node. not (flaw node)) xs

    free_at : (xs : List (Option Node)) → free xs ≡ true → (q : ℕ) → flaw (node_at xs q) ≡ true → ⊥
    free_at xs all q at = both_ways _ (not-true _ (every_at (λ node. not (flaw node)) xs None (ap not none) all q)) at

    pub nowhere : free nodes ≡ true → Nowhere (λ q. flaw (node_at nodes q) ≡ true)
    nowhere all q small at = free_at nodes all q at

    pub lowest : (p : ℕ) → (ltb p 512 && (flaw (node_at nodes p) && free (take p nodes))) ≡ true → Lowest (λ q. flaw (node_at nodes q) ≡ true) p
    lowest p h =
        let a = and_parts (ltb p 512) _ h in
        let b = and_parts (flaw (node_at nodes p)) (free (take p nodes)) a.1 in
        record { small = ltb-true p 512 a.0; here = b.0; below = λ q less at. free_at (take p nodes) b.1 q (ap flaw (get_or-take p nodes q None less) ∙ at) }

  -- ### loops

  -- the nexts come out of messages and flows after some, but not after so many
  abbrev pub out_from : ℕ → Option ℕ → Bool
  out_from zero next = cond (is_some next) false true
  out_from (suc k) None = true
  out_from (suc k) (Some n) = out_from k (onward (node_at nodes n))

  abbrev pub out : Option Node → Bool
  out node = out_from 512 (onward node)

  out_ended : (k p : ℕ) (next : Option ℕ) → onward (node_at nodes p) ≡ next → out_from k next ≡ true → WellEnded nodes p
  out_ended zero p None e h = (0, e)
  out_ended zero p (Some n) e h = absurd (false≢true h)
  out_ended (suc k) p None e h = (0, e)
  out_ended (suc k) p (Some n) e h = let r = out_ended k n (onward (node_at nodes n)) refl h in (suc r.0, (n, e, r.1))

  out_is : (p : ℕ) → out (node_at nodes p) ≡ true → Endless nodes p → ⊥
  out_is p h endless = endless (out_ended 512 p _ refl h)

  pub no_loop : every out nodes ≡ true → Nowhere (Endless nodes)
  no_loop all q small endless = out_is q (every_at out nodes None refl all q) endless

  -- the places that a walk from p comes to
  abbrev pub walk : ℕ → Option ℕ → List ℕ
  walk zero next = []
  walk (suc k) None = []
  walk (suc k) (Some n) = n ∷ walk k (onward (node_at nodes n))

  -- each next leads on, within the list
  abbrev pub onward_in : List ℕ → Option ℕ → Bool
  onward_in ps None = false
  onward_in ps (Some n) = has ps n

  abbrev pub circling : List ℕ → Bool
  circling ps = every (λ p. onward_in ps (onward (node_at nodes p))) ps

  circling_step : (ps : List ℕ) (o : Option ℕ) → onward_in ps o ≡ true → (o ≡ None → ⊥) × ((n : ℕ) → o ≡ Some n → has ps n ≡ true)
  circling_step ps None h = absurd (false≢true h)
  circling_step ps (Some m) h = ((λ e. no_some m (sym e)), (λ n e. let same : m ≡ n = cc in rw same at h))

  circling_is : (ps : List ℕ) → circling ps ≡ true → (k p : ℕ) → has ps p ≡ true → ComesOut nodes k p → ⊥
  circling_is ps all zero p there c =
      (circling_step ps _ (every_has (λ q. onward_in ps (onward (node_at nodes q))) ps all p there)).0 c
  circling_is ps all (suc k) p there c =
      circling_is ps all k c.0 ((circling_step ps _ (every_has (λ q. onward_in ps (onward (node_at nodes q))) ps all p there)).1 c.0 c.1) c.2

  -- the circle that a walk from p comes round in; eight places are enough for the few nodes here
  abbrev pub round : ℕ → List ℕ
  round p = p ∷ walk 8 (onward (node_at nodes p))

  pub lowest_loop : (p : ℕ) → (ltb p 512 && (circling (round p) && every out (take p nodes))) ≡ true → Lowest (Endless nodes) p
  lowest_loop p h =
      let a = and_parts (ltb p 512) _ h in
      let b = and_parts (circling (round p)) (every out (take p nodes)) a.1 in
      record {
        small = ltb-true p 512 a.0;
        here = λ e. circling_is (round p) b.0 e.0 p (or_left (eqb p p) _ (eq-eqb p p refl)) e.1;
        below = λ q less endless. out_is q (sym (ap out (get_or-take p nodes q None less)) ∙ every_at out (take p nodes) None refl b.1 q) endless;
      }

  -- ### the flaw

  -- the flaw by the lowest place of the first kind that is there
  abbrev pub flaw_of : Option NodeFlaw
  flaw_of =
      cond (free (node_late nodes) refl nodes)
      (cond (every out nodes)
      (cond (free (node_unlisted nodes) refl nodes) None (Some (Listing (first (node_unlisted nodes) nodes))))
      (Some (Loop (first (λ node. not (out node)) nodes))))
      (Some (Late (first (node_late nodes) nodes)))

  -- it is examined
  abbrev pub flaw_sure : Option NodeFlaw → Bool
  flaw_sure None = free (node_late nodes) refl nodes && (every out nodes && free (node_unlisted nodes) refl nodes)
  flaw_sure (Some (Late p)) = ltb p 512 && (late nodes p && free (node_late nodes) refl (take p nodes))
  flaw_sure (Some (Loop p)) = free (node_late nodes) refl nodes && (ltb p 512 && (circling (round p) && every out (take p nodes)))
  flaw_sure (Some (Listing p)) =
      free (node_late nodes) refl nodes && (every out nodes && (ltb p 512 && (unlisted nodes p && free (node_unlisted nodes) refl (take p nodes))))

  pub flaw_is : (flaw : Option NodeFlaw) → flaw_sure flaw ≡ true → Told nodes flaw
  flaw_is None h =
      let a = and_parts (free (node_late nodes) refl nodes) _ h in
      let b = and_parts (every out nodes) _ a.1 in
      record { late = nowhere (node_late nodes) refl a.0; loop = no_loop b.0; listing = nowhere (node_unlisted nodes) refl b.1 }
  flaw_is (Some (Late p)) h = lowest (node_late nodes) refl p h
  flaw_is (Some (Loop p)) h =
      let a = and_parts (free (node_late nodes) refl nodes) _ h in
      (nowhere (node_late nodes) refl a.0, lowest_loop p a.1)
  flaw_is (Some (Listing p)) h =
      let a = and_parts (free (node_late nodes) refl nodes) _ h in
      let b = and_parts (every out nodes) _ a.1 in
      (nowhere (node_late nodes) refl a.0, no_loop b.0, lowest (node_unlisted nodes) refl p b.1)
