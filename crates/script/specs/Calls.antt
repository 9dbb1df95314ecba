-- The calls of a script, as its lines give them.
use Rattle.std.specs.Prelude.{ℕ, Bool, true, false, List, [], ◌∷◌, Some, None, vec_items, Option, ◌==◌, nat_lt}
use Rattle.words.specs.Format.{when, then, mapped}
use Rattle.script.specs.declared.call.Call.{Call}
use Rattle.script.specs.declared.call.Call.TheVariants as call
use Rattle.script.specs.declared.name.Name.{Name}
use Rattle.script.specs.declared.name.Name.TheVariants as name
use Rattle.script.specs.Names.{name_in}
use Rattle.script.specs.Numbers.{decimal_in, hexadecimal_in}

-- a call with the words that it gives
pub data Said : Type 0 where
  memory : ℕ → Said
  load : List ℕ → Said
  write : ℕ → Said
  start : ℕ → ℕ → ℕ → Said
  hold : ℕ → Said
  resume : ℕ → Said
  abort : ℕ → Said
  command : ℕ → ℕ → Said
  check : ℕ → Said
  remove : Said
  release : Said
  step : ℕ → Said
  take : Said
  lane : ℕ → Said
  reach : ℕ → Said
  row : ℕ → Said

abbrev pub said : Call → Said
said (call.Memory lines) = memory lines
said (call.Load words) = load (vec_items words)
said (call.Write room) = write room
said (call.Start number place tick) = start number place tick
said (call.Hold number) = hold number
said (call.Resume number) = resume number
said (call.Abort number) = abort number
said (call.Command block word) = command block word
said (call.Check pattern) = check pattern
said call.Remove = remove
said call.Release = release
said (call.Step number) = step number
said call.Take = take
said (call.Lane number) = lane number
said (call.Reach place) = reach place
said (call.Row block) = row block

abbrev pub remark : List (List ℕ) → Bool
remark [] = true
remark ([] ∷ parts) = false
remark ((byte ∷ part) ∷ parts) = byte == 35

-- ### the arguments

-- no part is left
abbrev pub alone : List (List ℕ) → Bool
alone [] = true
alone (part ∷ parts) = false

-- the one part that is left
abbrev pub only_in : List (List ℕ) → Option (List ℕ)
only_in [] = None
only_in (part ∷ []) = Some part
only_in (part ∷ more ∷ parts) = None

-- all parts as words
abbrev pub words_in : List (List ℕ) → Option (List ℕ)
words_in [] = Some []
words_in (part ∷ parts) = then (hexadecimal_in part) (λ word. mapped (λ words. word ∷ words) (words_in parts))

-- the one part as a number of so many bits
abbrev pub argument_in : ℕ → List (List ℕ) → Option ℕ
argument_in bits parts = then (only_in parts) (decimal_in bits)

-- the one part as a number below the limit
abbrev pub below_in : ℕ → List (List ℕ) → Option ℕ
below_in limit parts = then (argument_in 32 parts) (λ number. when (nat_lt number limit) number)

-- a number, and what is read of the parts after it
abbrev pub number_before : {A : Type 0} → List (List ℕ) → (ℕ → List (List ℕ) → Option A) → Option A
number_before [] rest = None
number_before (part ∷ parts) rest = then (decimal_in 32 part) (λ number. rest number parts)

-- ### the calls

-- a lane, a place and a tick, which may have 64 bits
abbrev pub start_in : List (List ℕ) → Option Said
start_in parts = number_before parts (λ number parts. number_before parts (λ place parts. mapped (start number place) (argument_in 64 parts)))

-- a block and a word
abbrev pub command_in : List (List ℕ) → Option Said
command_in parts = number_before parts (λ block parts. mapped (command block) (then (only_in parts) hexadecimal_in))

abbrev pub call_of : Name → List (List ℕ) → Option Said
call_of name.Memory parts = mapped memory (below_in 65537 parts)
call_of name.Load parts = mapped load (words_in parts)
call_of name.Write parts = mapped write (argument_in 32 parts)
call_of name.Start parts = start_in parts
call_of name.Hold parts = mapped hold (argument_in 32 parts)
call_of name.Resume parts = mapped resume (argument_in 32 parts)
call_of name.Abort parts = mapped abort (argument_in 32 parts)
call_of name.Command parts = command_in parts
call_of name.Check parts = mapped check (argument_in 32 parts)
call_of name.Remove parts = when (alone parts) remove
call_of name.Release parts = when (alone parts) release
call_of name.Step parts = mapped step (argument_in 32 parts)
call_of name.Take parts = when (alone parts) take
call_of name.Lane parts = mapped lane (below_in 8 parts)
call_of name.Reach parts = mapped reach (below_in 512 parts)
call_of name.Row parts = mapped row (below_in 512 parts)

abbrev pub call_in : List (List ℕ) → Option Said
call_in [] = None
call_in (part ∷ parts) = then (name_in part) (λ name. call_of name parts)
