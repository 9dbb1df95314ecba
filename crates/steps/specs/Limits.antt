-- The limits of ticks, counts and rows.
use Rattle.std.specs.Prelude.{ℕ, Bool, nat_lt}
use Rattle.rows.specs.declared.plain.PlainRow.{PlainRow}

-- ticks and counts go up to 2^48 - 1
abbrev pub limit : ℕ
limit = 281474976710655

-- fewer than four wait in the row
abbrev pub has_room : PlainRow → Bool
has_room row = nat_lt row.count 4
