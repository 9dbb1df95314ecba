-- A line of a script, and its parts between spaces and tabs.
use Rattle.std.specs.Prelude.{ℕ, suc, ◌-◌, Bool, true, cond, ◌||◌, List, [], ◌∷◌, length, take, ◌==◌, slice_index}
use Rattle.std.specs.Bool.{beq}

-- without a byte that may stand at the end
abbrev pub without_last : ℕ → List ℕ → List ℕ
without_last byte line = cond (slice_index line (length line - 1) == byte) (take (length line - 1) line) line

-- without the byte 10 that ends a line, and the byte 13 that may stand before it
abbrev pub line_text : List ℕ → List ℕ
line_text line = without_last 13 (without_last 10 line)

-- a space or a tab
abbrev pub blank : ℕ → Bool
blank byte = byte == 32 || byte == 9

-- no part goes on at the front of the line
abbrev pub apart : List ℕ → Bool
apart [] = true
apart (byte ∷ line) = blank byte

-- a byte more in front of the first part
abbrev pub lengthened : ℕ → List (List ℕ) → List (List ℕ)
lengthened byte [] = (byte ∷ []) ∷ []
lengthened byte (part ∷ parts) = (byte ∷ part) ∷ parts

abbrev pub parts_of : List ℕ → List (List ℕ)
parts_of [] = []
parts_of (byte ∷ line) = cond (blank byte) (parts_of line) (cond (apart line) ((byte ∷ []) ∷ parts_of line) (lengthened byte (parts_of line)))

-- how many bytes at the front are blank, or how many are not
abbrev pub leading : Bool → List ℕ → ℕ
leading blanks [] = 0
leading blanks (byte ∷ line) = cond (beq (blank byte) blanks) (suc (leading blanks line)) 0
