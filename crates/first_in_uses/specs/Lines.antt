-- The lines that are gathered.
use Rattle.std.specs.Prelude.{ℕ}
use Rattle.first_in_uses.specs.declared.lines.Letter.TheVariants.{Sent}
use Rattle.first_in_uses.specs.declared.lines.Line.{Line}

-- that a message was sent at a place
abbrev pub line_of : ℕ → Line
line_of at = record { place = at; letter = Sent }
