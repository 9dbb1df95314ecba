-- A call leads from a use to a use that is one call longer, and the law holds there.
use Rattle.std.specs.Prelude.{List, [], ◌∷◌}
use Rattle.outlets.specs.Meaning.{Meaning}
use Rattle.table.specs.Tables.{cleared}
use Rattle.uses.specs.Uses.{Event, Vacant, Use}
use Rattle.uses.specs.Law.{Holds}
use Rattle.sequencer.specs.declared.owner.Sequencer.{Sequencer}

module _ {O : Type 0} (meaning : Meaning O) where
  -- a cleared table and an outlet in which nothing waits are a use with no call, and the law holds there
  abbrev pub Begins : O → Type 0
  Begins o = Vacant meaning o → Use meaning cleared o [] × Holds meaning.waits cleared o []

  -- whatever calls led to a sequencer, with this event they lead to what it is after, and the law holds there
  abbrev pub GoesOn : Sequencer O → Event → Sequencer O → Type 0
  GoesOn before event after = (h : List Event) → Use meaning before.table before.outlet h
      → Use meaning after.table after.outlet (event ∷ h) × Holds meaning.waits after.table after.outlet (event ∷ h)
