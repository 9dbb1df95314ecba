-- What writing an image answers and leaves.
use Rattle.std.specs.Prelude.{ℕ, ◌+◌, cond, List, [], ◌∷◌, ◌++◌, length, drop, Some, None, Ok, Err, Option, Result, nat_lt, slice_set}
use Rattle.words.specs.declared.node.Node.{Node}
use Rattle.image.specs.declared.places.TooShort.{TooShort}
use Rattle.image.specs.Nodes.{node_words, image_words}
use Rattle.image.specs.Reading.{body_size}

-- words put one after another, from a position on
abbrev pub puts : List ℕ → ℕ → List ℕ → List ℕ
puts out at [] = out
puts out at (w ∷ ws) = puts (slice_set out at w) (at + 1) ws

-- the words of one place
abbrev pub slot_words : ℕ → Option Node → List ℕ
slot_words place None = []
slot_words place (Some node) = node_words place node

-- how many words that are
abbrev pub slot_size : Option Node → ℕ
slot_size None = 0
slot_size (Some node) = 1 + body_size node.body

-- how many words were written, or how many are needed where room is too small
abbrev pub write_answer : List (Option Node) → ℕ → Result ℕ TooShort
write_answer places room = cond (nat_lt room (length (image_words places))) (Err (record { needed = length (image_words places) })) (Ok (length (image_words places)))

-- the image and then what was there before; nothing changes where room is too small
abbrev pub write_leaves : List (Option Node) → List ℕ → List ℕ
write_leaves places out = cond (nat_lt (length out) (length (image_words places))) out (image_words places ++ drop (length (image_words places)) out)
