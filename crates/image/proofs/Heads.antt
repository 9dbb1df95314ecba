-- A head at the front of the words that are left.
use Rattle.std.proofs.Common.{◌≡◌, ℕ, ◌+◌, ◌<◌, ◌≤◌, cond, List, length, get_or, drop, Some, Ok, Err, Option, Result, sym, ap, ◌∙◌}
use Rattle.std.proofs.lemmas.Bool.{cond_below, le-ltb}
use Rattle.std.specs.Option.{ok_or}
use Rattle.words.specs.declared.fault.Fault.{Fault}
use Rattle.words.specs.declared.fault.Fault.TheVariants.{BadWord, NotRising, Ragged}
use Rattle.words.specs.declared.node.Body.{Body}
use Rattle.words.specs.declared.word.Kind.{Kind}
use Rattle.words.specs.declared.word.Word.{Word}
use Rattle.words.specs.declared.word.Word.TheVariants.{Head}
use Rattle.words.specs.Format.{read}
use Rattle.image.specs.declared.reader.Placed.{Placed}
use Rattle.image.specs.Reading.{then, body_of, node_of, part_of}

-- the first word says x
pub said : (ws : List ℕ) (at floor count : ℕ) (x : Word) → 0 < length ws → read (get_or ws 0 0) ≡ Some x → node_of ws at floor count ≡ part_of ws at floor count x
said ws at floor count x h e =
    ap (λ r. then r (part_of ws at floor count)) (sym (cond_below 0 (length ws) (ok_or (read (get_or ws 0 0)) (BadWord at)) (Err (Ragged at)) h) ∙ ap (λ o. ok_or o (BadWord at)) e)

abbrev pub placed : ℕ → ℕ → Result Body Fault → Result (Option Placed) Fault
placed pattern place r = then r (λ b. Ok (Some (record { place = place; node = record { pattern = pattern; body = b } })))

pub head_read : (ws : List ℕ) (at floor count : ℕ) (k : Kind) (p n : ℕ) → 0 < length ws → read (get_or ws 0 0) ≡ Some (Head k p n) → floor ≤ n
    → (r : Result Body Fault) → r ≡ body_of k (drop 1 ws) (at + 1) → placed p n r ≡ node_of ws at floor count
head_read ws at floor count k p n h e f r is =
    ap (placed p n) is
    ∙ sym (ap (λ b. cond b (Err (NotRising at)) (placed p n (body_of k (drop 1 ws) (at + 1)))) (le-ltb n floor f))
    ∙ sym (said ws at floor count (Head k p n) h e)
