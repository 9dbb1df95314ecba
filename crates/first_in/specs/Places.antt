-- Where the items of a ring stand.
use Rattle.std.specs.Prelude.{ℕ, ◌+◌, ◌-◌, cond, nat_lt}

-- where the oldest stands: a head past the end is read as 0
abbrev pub start_of : ℕ → ℕ → ℕ
start_of from size = cond (nat_lt from size) from 0

-- the slot of item n of a ring of `size` slots, counted from the oldest: behind it, or from the first slot on again
abbrev pub place_of : ℕ → ℕ → ℕ → ℕ
place_of from n size = cond (nat_lt n (size - start_of from size)) (start_of from size + n) (n - (size - start_of from size))
