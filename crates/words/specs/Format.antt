-- The words of an image, as the table of the format has them: a kind in bits 31 to 28, and the fields of that kind.
use Rattle.std.specs.Prelude.{ℕ, ◌+◌, ◌*◌, ◌/◌, ◌%◌, ◌^◌, ◌<◌, ◌≤◌, Bool, true, false, cond, ◌&&◌, Some, None, Ok, Err, Option, Result, ◌==◌, nat_lt}
use Rattle.words.specs.declared.fault.Fault.{Fault}
use Rattle.words.specs.declared.fault.Fault.TheVariants.{BadWord}
use Rattle.words.specs.declared.node.Exit.{Exit}
use Rattle.words.specs.declared.node.Exit.TheVariants as exit
use Rattle.words.specs.declared.node.Order.{Order}
use Rattle.words.specs.declared.node.Entry.{Entry}
use Rattle.words.specs.declared.node.Entry.TheVariants as entries
use Rattle.words.specs.declared.word.Kind.{Kind}
use Rattle.words.specs.declared.word.Kind.TheVariants.{Message, Block, Flow}
use Rattle.words.specs.declared.word.Word.{Word}
use Rattle.words.specs.declared.word.Word.TheVariants as word

-- ### reading

-- x where the test holds
abbrev pub when : {A : Type 0} → Bool → A → Option A
when b x = cond b (Some x) None

abbrev pub then : {A B : Type 0} → Option A → (A → Option B) → Option B
then None f = None
then (Some x) f = f x

abbrev pub mapped : {A B : Type 0} → (A → B) → Option A → Option B
mapped f o = then o (λ x. Some (f x))

-- the place that the low n bits name; a place is below 512, so the bits of the n above a place's are 0
abbrev pub place_by : ℕ → Option ℕ
place_by n = when (nat_lt n 512) n

abbrev pub place_in : ℕ → ℕ → Option ℕ
place_in w n = place_by (w % 2 ^ n)

-- the same, or 4095, which stands for the end of the programme
abbrev pub exit_by : ℕ → Option Exit
exit_by n = cond (nat_lt n 512) (Some (exit.Place n)) (when (n == 4095) exit.End)

abbrev pub exit_in : ℕ → ℕ → Option Exit
exit_in w n = exit_by (w % 2 ^ n)

abbrev pub kind_by : ℕ → Option Kind
kind_by n = cond (n == 1) (Some Message) (cond (n == 2) (Some Block) (cond (n == 3) (Some Flow) None))

-- type in bits 27 to 24, pattern in 23 to 16, place in 11 to 0
abbrev pub head_in : ℕ → Option Word
head_in w = then (kind_by (w / 2 ^ 24 % 2 ^ 4)) (λ k. mapped (word.Head k (w / 2 ^ 16 % 2 ^ 8)) (place_in w 16))

-- repeats in bits 27 to 20, at least 1
abbrev pub repeats_in : ℕ → Option ℕ
repeats_in w = when (nat_lt 0 (w / 2 ^ 20 % 2 ^ 8)) (w / 2 ^ 20 % 2 ^ 8)

-- repeats, the lasting mark in bit 19, the urgent mark in bit 18, destination in 11 to 0
abbrev pub order_in : ℕ → Option Word
order_in w = then (repeats_in w) (λ r. then (exit_in w 18) (λ d.
    Some (word.Order (record { repeats = r; lasting = (w / 2 ^ 19 % 2 ^ 1 == 1); urgent = (w / 2 ^ 18 % 2 ^ 1 == 1); destination = d }))))

-- repeats and the urgent mark in bit 18
abbrev pub pass_in : ℕ → Option Word
pass_in w = then (repeats_in w) (λ r.
    when (w / 2 ^ 19 % 2 ^ 1 == 0 && w / 2 ^ 0 % 2 ^ 18 == 0) (word.Pass (record { repeats = r; urgent = (w / 2 ^ 18 % 2 ^ 1 == 1) })))

-- number of nodes in bits 11 to 0
abbrev pub end_in : ℕ → Option Word
end_in w = when (nat_lt (w % 2 ^ 28) 4096) (word.End (w % 2 ^ 28))

abbrev pub read_kind : ℕ → ℕ → Option Word
read_kind k w =
    cond (k == 1) (head_in w)
    (cond (k == 2) (mapped word.Next (exit_in w 28))
    (cond (k == 3) (Some (word.Time (w % 2 ^ 28)))
    (cond (k == 4) (Some (word.Event (w % 2 ^ 28)))
    (cond (k == 5) (mapped word.Alternative (exit_in w 28))
    (cond (k == 6) (mapped word.Target (place_in w 28))
    (cond (k == 7) (order_in w)
    (cond (k == 8) (pass_in w)
    (cond (k == 15) (end_in w) None))))))))

-- what the number w says, if it is a word of the format
abbrev pub read : ℕ → Option Word
read w = read_kind (w / 2 ^ 28) w

-- ### writing: each field is cut to its bits

abbrev pub kind_number : Kind → ℕ
kind_number Message = 1
kind_number Block = 2
kind_number Flow = 3

abbrev pub bit : Bool → ℕ
bit true = 1
bit false = 0

abbrev pub exit_number : Exit → ℕ
exit_number exit.End = 4095
exit_number (exit.Place n) = n % 2 ^ 12

abbrev pub written : Word → ℕ
written (word.Head k p n) = 1 * 2 ^ 28 + kind_number k * 2 ^ 24 + p * 2 ^ 16 + n % 2 ^ 12
written (word.Next e) = 2 * 2 ^ 28 + exit_number e
written (word.Time t) = 3 * 2 ^ 28 + t % 2 ^ 28
written (word.Event e) = 4 * 2 ^ 28 + e % 2 ^ 28
written (word.Alternative e) = 5 * 2 ^ 28 + exit_number e
written (word.Target n) = 6 * 2 ^ 28 + n % 2 ^ 12
written (word.Order o) = 7 * 2 ^ 28 + o.repeats * 2 ^ 20 + bit o.lasting * 2 ^ 19 + bit o.urgent * 2 ^ 18 + exit_number o.destination
written (word.Pass p) = 8 * 2 ^ 28 + p.repeats * 2 ^ 20 + bit p.urgent * 2 ^ 18
written (word.End n) = 15 * 2 ^ 28 + n % 2 ^ 12

-- ### which fields are allowed

abbrev pub AllowedExit : Exit → Type 0
AllowedExit exit.End = Unit {0}
AllowedExit (exit.Place n) = n < 512

abbrev pub AllowedRepeats : ℕ → Type 0
AllowedRepeats n = (1 ≤ n) × (n < 256)

abbrev pub AllowedOrder : Order → Type 0
AllowedOrder o = AllowedRepeats o.repeats × AllowedExit o.destination

abbrev pub Allowed : Word → Type 0
Allowed (word.Head k p n) = (p < 256) × (n < 512)
Allowed (word.Next e) = AllowedExit e
Allowed (word.Time t) = t < 2 ^ 28
Allowed (word.Event e) = e < 2 ^ 28
Allowed (word.Alternative e) = AllowedExit e
Allowed (word.Target n) = n < 512
Allowed (word.Order o) = AllowedOrder o
Allowed (word.Pass p) = AllowedRepeats p.repeats
Allowed (word.End n) = n < 2 ^ 12

-- ### an order or a pass that is given alone

abbrev pub as_entry : Word → Option Entry
as_entry (word.Head k p n) = None
as_entry (word.Next e) = None
as_entry (word.Time t) = None
as_entry (word.Event e) = None
as_entry (word.Alternative e) = None
as_entry (word.Target n) = None
as_entry (word.Order o) = Some (entries.Order o)
as_entry (word.Pass p) = Some (entries.Pass p)
as_entry (word.End n) = None

abbrev pub entry_of : ℕ → Result Entry Fault
entry_of w = elim (then (read w) as_entry) [ Some e ↦ Ok e | None ↦ Err (BadWord 0) ]

abbrev pub entry_as_word : Entry → Word
entry_as_word (entries.Order o) = word.Order o
entry_as_word (entries.Pass p) = word.Pass p
