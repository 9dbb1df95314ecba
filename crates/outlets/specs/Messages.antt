-- How often a message stands in a list.
use Rattle.std.specs.Prelude.{ℕ, Bool, cond, ◌&&◌, List, sum_by, ◌==◌}
use Rattle.outlets.specs.declared.message.Message.{Message}

-- that two messages are the same: for the same lane, of the same event and due at the same tick
abbrev pub same : Message → Message → Bool
same a b = a.lane == b.lane && (a.event == b.event && a.due == b.due)

-- 1 where x is m, and 0 where it is another message
abbrev pub one : Message → Message → ℕ
one x m = cond (same x m) 1 0

-- how often x stands in a list
abbrev pub times : Message → List Message → ℕ
times x ms = sum_by (one x) ms

-- what is read where no message stands
abbrev pub blank : Message
blank = record { lane = 0; event = 0; due = 0 }
