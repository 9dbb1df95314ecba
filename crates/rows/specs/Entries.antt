-- What happens to one entry of a row.
use Rattle.std.specs.Prelude.{ℕ, ◌-◌, Bool, false, cond, List, slice_index_or}
use Rattle.words.specs.declared.node.Entry.{Entry}
use Rattle.words.specs.declared.node.Entry.TheVariants.{Pass, Order}
use Rattle.words.specs.declared.node.Exit.{Exit}
use Rattle.words.specs.declared.node.Exit.TheVariants.{End, Place}

-- what an unused slot holds: a pass that is good for no visit
abbrev pub blank : Entry
blank = Pass (record { repeats = 0; urgent = false })

-- how many visits an entry is still good for
abbrev pub repeats_of : Entry → ℕ
repeats_of (Pass p) = p.repeats
repeats_of (Order o) = o.repeats

-- the entry with so many repeats
abbrev pub with_repeats : ℕ → Entry → Entry
with_repeats n (Pass p) = Pass (record { repeats = n; urgent = p.urgent })
with_repeats n (Order o) = Order (record { repeats = n; lasting = o.lasting; urgent = o.urgent; destination = o.destination })

-- the entry with one repeat less, where it has one
abbrev pub spent_entry : Entry → Entry
spent_entry e = with_repeats (repeats_of e - 1) e

-- whether an exit is one of the marked places; no place past the marks is marked
abbrev pub leads_into : List Bool → Exit → Bool
leads_into places End = false
leads_into places (Place p) = slice_index_or places p false

-- whether an entry is an order to one of the marked places
abbrev pub is_order_into : List Bool → Entry → Bool
is_order_into places (Pass p) = false
is_order_into places (Order o) = leads_into places o.destination

-- the entry with no repeats where it is an order to one of the marked places
abbrev pub forgotten_entry : List Bool → Entry → Entry
forgotten_entry places e = cond (is_order_into places e) (with_repeats 0 e) e
