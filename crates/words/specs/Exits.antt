-- When two ways lead to the same place.
use Rattle.std.specs.Prelude.{Bool, true, false, ◌==◌}
use Rattle.words.specs.declared.node.Exit.{Exit}
use Rattle.words.specs.declared.node.Exit.TheVariants.{End, Place}

abbrev pub same : Exit → Exit → Bool
same End End = true
same End (Place n) = false
same (Place m) End = false
same (Place m) (Place n) = m == n
