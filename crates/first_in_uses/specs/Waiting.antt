-- Calls of which at most n wait.
use Rattle.std.specs.Prelude.{ℕ, ◌-◌, cond, List, length, drop, None, Option, nat_lt}
use Rattle.first_in.specs.Items.{oldest}
use Rattle.first_in_uses.specs.declared.waiting.Call.{Call}

-- the call that has to leave, where n wait already
abbrev pub pushed_out : ℕ → List Call → Option Call
pushed_out n calls = cond (nat_lt (length calls) n) None (oldest calls)

-- the last n
abbrev pub newest : ℕ → List Call → List Call
newest n calls = drop (length calls - n) calls
