-- Emptying places makes no flaw.
use Rattle.std.proofs.Common.{◌≡◌, ℕ, zero, suc, Bool, true, false, ◌⊎◌, List, Some, None, Option, sym, ap, ◌∙◌, subst, ⊎_elim}
use Rattle.words.specs.declared.node.Body.{Body}
use Rattle.words.specs.declared.node.Body.TheVariants.{Message, Block, Flow}
use Rattle.words.specs.declared.node.Exit.{Exit}
use Rattle.words.specs.declared.node.Node.{Node}
use Rattle.structure.specs.Nodes.{node_at, onward}
use Rattle.structure.specs.Structure.{outruns, body_late, node_late, late, misses, body_unlisted, node_unlisted, unlisted, ComesOut, WellEnded}
use Rattle.structure.specs.Lowest.{Yes}
use Rattle.structure.specs.Flaws.{Flawless}

-- each place is as it was, or empty
abbrev pub Thinner : List (Option Node) → List (Option Node) → Type 0
Thinner nodes less = (p : ℕ) → (node_at less p ≡ None) ⊎ (node_at less p ≡ node_at nodes p)

false_true : {B : Type 0} → ◌≡◌ {A = Bool} false true → B
false_true e = absurd (subst (λ b. elim b as (λ _. Type 0) [ true ↦ ⊥ | false ↦ Unit {0} ]) e tt)

module _ (nodes less : List (Option Node)) (thinner : Thinner nodes less) where
  outruns_still : (offset n : ℕ) → outruns offset (node_at less n) ≡ true → outruns offset (node_at nodes n) ≡ true
  outruns_still offset n y = ⊎_elim (λ e. false_true (ap (outruns offset) (sym e) ∙ y)) (λ e. ap (outruns offset) (sym e) ∙ y) (thinner n)

  body_late_still : (b : Body) → body_late less b ≡ true → body_late nodes b ≡ true
  body_late_still (Message next offset event) y = outruns_still offset next y
  body_late_still (Block next period alternatives) y = y
  body_late_still (Flow next offset target order) y = outruns_still offset next y

  node_late_still : (o : Option Node) → node_late less o ≡ true → node_late nodes o ≡ true
  node_late_still None y = y
  node_late_still (Some node) y = body_late_still node.body y

  late_still : (p : ℕ) → Yes (late less) p → Yes (late nodes) p
  late_still p y = ⊎_elim
      (λ e. false_true (ap (node_late less) (sym e) ∙ y))
      (λ e. node_late_still (node_at nodes p) (ap (node_late less) (sym e) ∙ y))
      (thinner p)

  misses_still : (n : ℕ) (d : Exit) → misses (node_at less n) d ≡ true → misses (node_at nodes n) d ≡ true
  misses_still n d y = ⊎_elim (λ e. false_true (ap (λ o. misses o d) (sym e) ∙ y)) (λ e. ap (λ o. misses o d) (sym e) ∙ y) (thinner n)

  body_unlisted_still : (b : Body) → body_unlisted less b ≡ true → body_unlisted nodes b ≡ true
  body_unlisted_still (Message next offset event) y = y
  body_unlisted_still (Block next period alternatives) y = y
  body_unlisted_still (Flow next offset target order) y = misses_still target order.destination y

  node_unlisted_still : (o : Option Node) → node_unlisted less o ≡ true → node_unlisted nodes o ≡ true
  node_unlisted_still None y = y
  node_unlisted_still (Some node) y = body_unlisted_still node.body y

  unlisted_still : (p : ℕ) → Yes (unlisted less) p → Yes (unlisted nodes) p
  unlisted_still p y = ⊎_elim
      (λ e. false_true (ap (node_unlisted less) (sym e) ∙ y))
      (λ e. node_unlisted_still (node_at nodes p) (ap (node_unlisted less) (sym e) ∙ y))
      (thinner p)

  still_ended : (k p : ℕ) → ComesOut nodes k p → WellEnded less p
  still_ended zero p w = ⊎_elim (λ e. (0, ap onward e)) (λ e. (0, ap onward e ∙ w)) (thinner p)
  still_ended (suc k) p w = ⊎_elim
      (λ e. (0, ap onward e))
      (λ e. let on = still_ended k w.0 w.2 in (suc on.0, (w.0, ap onward e ∙ w.1, on.1)))
      (thinner p)

  pub thinner_flawless : Flawless nodes → Flawless less
  thinner_flawless f = record {
    late = λ q l y. f.late q l (late_still q y);
    loop = λ q l e. f.loop q l (λ w. e (still_ended w.0 q w.1));
    listing = λ q l y. f.listing q l (unlisted_still q y);
  }
