-- What the lowest place of a kind among those that follow says of the lawful chains.
use Rattle.std.proofs.Common.{ℕ, Bool, ◌&&◌}
use Rattle.std.proofs.lemmas.Bool.{and_parts, and_from}
use Rattle.rules.specs.declared.derived.Derived.{Derived}
use Rattle.rules.specs.Chain.{Derivable}
use Rattle.rules.specs.Found.{marks, Found}
use Rattle.structure.specs.Lowest.{Nowhere, Yes}
use Rattle.reach.specs.Scenes.{Scene}
use Rattle.reach.specs.Views.{Bounded}
use Rattle.reach.specs.Book.{rule_count, reach_rule}
use Rattle.reach.specs.Verdicts.{ComesTo}
use Rattle.reach.proofs.Induction.{ended_reach, reach_small}
use Rattle.reach.proofs.Alike.{follows}

module _ (s : Scene) (says : ℕ → Bool) (d : Derived) (found : Found rule_count (reach_rule s) d) where
  -- of the kind, and among those that follow
  abbrev both : ℕ → Bool
  both p = marks d p && says p

  pub of_kind : (p : ℕ) → Yes both p → Yes says p
  of_kind p y = (and_parts (marks d p) (says p) y).1

  pub derived : (p : ℕ) → Yes both p → Derivable rule_count (reach_rule s) p
  derived p y = found.sound p (and_parts (marks d p) (says p) y).0

  pub nowhere : Bounded s → Nowhere (Yes both) → ComesTo s (Yes says) → ⊥
  nowhere bounded none (c, p, ends, kind) =
      let r = ended_reach s c p ends in
      none p (reach_small s p r) (and_from (marks d p) (says p) (found.complete p (follows s bounded p r)) kind)
