-- One more call, and the law after it.
use Rattle.std.proofs.Common.{List, [], ◌∷◌}
use Rattle.outlets.specs.Meaning.{Meaning}
use Rattle.table.specs.Tables.{cleared}
use Rattle.uses.specs.Uses.{Event, Use, clear}
use Rattle.uses.proofs.Law.{law}
use Rattle.sequencer.specs.declared.owner.Sequencer.{Sequencer}
use Rattle.sequencer.specs.Going.{Begins, GoesOn}

module _ {O : Type 0} (meaning : Meaning O) where
  pub begins : (o : O) → Begins meaning o
  begins o none = let u = clear none in (u, law meaning cleared o [] u)

  pub goes_on : (before : Sequencer O) (event : Event) (after : Sequencer O)
      → ((h : List Event) → Use meaning before.table before.outlet h → Use meaning after.table after.outlet (event ∷ h)) → GoesOn meaning before event after
  goes_on before event after more h u = let v = more h u in (v, law meaning after.table after.outlet (event ∷ h) v)
