-- Lists of waiting entries, the oldest first.
use Rattle.std.specs.Prelude.{List, [], ◌∷◌, Some, None, Option}
use Rattle.words.specs.declared.node.Entry.{Entry}
use Rattle.rows.specs.Entries.{spent_entry}

-- the oldest, if any waits
abbrev pub oldest : List Entry → Option Entry
oldest [] = None
oldest (e ∷ es) = Some e

-- one repeat less for the oldest
abbrev pub first_spent : List Entry → List Entry
first_spent [] = []
first_spent (e ∷ es) = spent_entry e ∷ es
