-- The rules of the two books, by their number.
use Rattle.std.specs.Prelude.{ℕ, ◌-◌, cond, List, [], ◌∷◌, Some, None, nat_lt, slice_index_or}
use Rattle.rules.specs.declared.book.Rule.{Rule}

abbrev knot_rules : List Rule
knot_rules =
    record { first = None; second = None; conclusion = Some 0 }
    ∷ record { first = Some 0; second = None; conclusion = Some 1 }
    ∷ record { first = Some 1; second = Some 0; conclusion = Some 2 }
    ∷ record { first = Some 3; second = None; conclusion = Some 3 }
    ∷ []

-- 0 from nothing, 1 from 0, 2 from 1 and 0, 3 from itself
abbrev pub knot_rule : ℕ → Rule
knot_rule i = slice_index_or knot_rules i (record { first = None; second = None; conclusion = None })

-- each place from the one below it, the highest first, and 0 from nothing
abbrev pub ladder_rule : ℕ → Rule
ladder_rule i =
    cond (nat_lt i 511)
    (record { first = Some (510 - i); second = None; conclusion = Some (511 - i) })
    (record { first = None; second = None; conclusion = Some 0 })
