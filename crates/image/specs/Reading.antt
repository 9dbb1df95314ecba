-- What the reader finds, word by word: a word is judged where it stands, and the first bad position is told.
use Rattle.std.specs.Prelude.{ℕ, zero, suc, ◌+◌, ◌<◌, ◌≤◌, cond, List, [], ◌∷◌, length, drop, replicate, Some, None, Ok, Err, Option, Result, ◌==◌, nat_lt, slice_index, slice_set}
use Rattle.std.specs.List.{list_any}
use Rattle.std.specs.Option.{ok_or}
use Rattle.words.specs.declared.fault.Fault.{Fault}
use Rattle.words.specs.declared.fault.Fault.TheVariants.{BadWord, NotRising, Ragged}
use Rattle.words.specs.declared.node.Exit.{Exit}
use Rattle.words.specs.declared.node.Exit.TheVariants as exit
use Rattle.words.specs.declared.node.Alternatives.{Alternatives}
use Rattle.words.specs.declared.node.Alternatives.TheVariants as ways
use Rattle.words.specs.declared.node.Order.{Order}
use Rattle.words.specs.declared.node.Body.{Body}
use Rattle.words.specs.declared.node.Body.TheVariants as body
use Rattle.words.specs.declared.node.Node.{Node}
use Rattle.words.specs.declared.word.Kind.{Kind}
use Rattle.words.specs.declared.word.Kind.TheVariants as kinds
use Rattle.words.specs.declared.word.Word.{Word}
use Rattle.words.specs.declared.word.Word.TheVariants as word
use Rattle.words.specs.Exits.{same}
use Rattle.words.specs.Format.{read, then as maybe}
use Rattle.image.specs.declared.places.Image.{Image}
use Rattle.image.specs.declared.reader.Placed.{Placed}

abbrev pub then : {A B E : Type 0} → Result A E → (A → Result B E) → Result B E
then (Ok x) f = f x
then (Err e) f = Err e

-- ### what a word says where one kind of word is wanted

abbrev pub next_said : Word → Option Exit
next_said (word.Head k p n) = None
next_said (word.Next x) = Some x
next_said (word.Time t) = None
next_said (word.Event e) = None
next_said (word.Alternative x) = None
next_said (word.Target n) = None
next_said (word.Order o) = None
next_said (word.Pass p) = None
next_said (word.End n) = None

abbrev pub time_said : Word → Option ℕ
time_said (word.Head k p n) = None
time_said (word.Next x) = None
time_said (word.Time t) = Some t
time_said (word.Event e) = None
time_said (word.Alternative x) = None
time_said (word.Target n) = None
time_said (word.Order o) = None
time_said (word.Pass p) = None
time_said (word.End n) = None

abbrev pub event_said : Word → Option ℕ
event_said (word.Head k p n) = None
event_said (word.Next x) = None
event_said (word.Time t) = None
event_said (word.Event e) = Some e
event_said (word.Alternative x) = None
event_said (word.Target n) = None
event_said (word.Order o) = None
event_said (word.Pass p) = None
event_said (word.End n) = None

abbrev pub alternative_said : Word → Option Exit
alternative_said (word.Head k p n) = None
alternative_said (word.Next x) = None
alternative_said (word.Time t) = None
alternative_said (word.Event e) = None
alternative_said (word.Alternative x) = Some x
alternative_said (word.Target n) = None
alternative_said (word.Order o) = None
alternative_said (word.Pass p) = None
alternative_said (word.End n) = None

abbrev pub target_said : Word → Option ℕ
target_said (word.Head k p n) = None
target_said (word.Next x) = None
target_said (word.Time t) = None
target_said (word.Event e) = None
target_said (word.Alternative x) = None
target_said (word.Target n) = Some n
target_said (word.Order o) = None
target_said (word.Pass p) = None
target_said (word.End n) = None

abbrev pub order_said : Word → Option Order
order_said (word.Head k p n) = None
order_said (word.Next x) = None
order_said (word.Time t) = None
order_said (word.Event e) = None
order_said (word.Alternative x) = None
order_said (word.Target n) = None
order_said (word.Order o) = Some o
order_said (word.Pass p) = None
order_said (word.End n) = None

-- the next of a block may be the end
abbrev pub exit_of : ℕ → Option Exit
exit_of w = maybe (read w) next_said

-- the next of a message or a flow is a place
abbrev pub place_said : Exit → Option ℕ
place_said exit.End = None
place_said (exit.Place n) = Some n

abbrev pub place_of : ℕ → Option ℕ
place_of w = maybe (exit_of w) place_said

abbrev pub time_of : ℕ → Option ℕ
time_of w = maybe (read w) time_said

-- a block lasts at least one tick
abbrev pub period_of : ℕ → Option ℕ
period_of w = maybe (time_of w) (λ t. cond (nat_lt 0 t) (Some t) None)

abbrev pub event_of : ℕ → Option ℕ
event_of w = maybe (read w) event_said

abbrev pub target_of : ℕ → Option ℕ
target_of w = maybe (read w) target_said

abbrev pub order_of : ℕ → Option Order
order_of w = maybe (read w) order_said

abbrev pub alternative_of : ℕ → Option Exit
alternative_of w = maybe (read w) alternative_said

-- ### a word at a position

-- the word w, at the position given, is to be read by f
abbrev pub judged : {A : Type 0} → (ℕ → Option A) → ℕ → ℕ → Result A Fault
judged f w at = ok_or (f w) (BadWord at)

-- the word number i of ws, which is missing where ws is shorter
abbrev pub wanted : {A : Type 0} → (ℕ → Option A) → List ℕ → ℕ → ℕ → Result A Fault
wanted f ws i at = cond (nat_lt i (length ws)) (judged f (slice_index ws i) at) (Err (Ragged at))

-- ### the words after the next and the time of a node; at is the position of the next

abbrev pub message_of : ℕ → ℕ → List ℕ → ℕ → Result Body Fault
message_of next time rest at =
    then (judged place_of next at) (λ n. then (judged time_of time (at + 1)) (λ t. then (wanted event_of rest 0 (at + 1 + 1)) (λ e.
    Ok (body.Message n t e))))

-- the target and the order of a flow
abbrev pub queued_of : List ℕ → ℕ → Result (ℕ × Order) Fault
queued_of ws at = then (wanted target_of ws 0 at) (λ g. then (wanted order_of ws 1 (at + 1)) (λ o. Ok (g, o)))

abbrev pub flow_of : ℕ → ℕ → List ℕ → ℕ → Result Body Fault
flow_of next time rest at =
    then (judged place_of next at) (λ n. then (judged time_of time (at + 1)) (λ t. then (queued_of rest (at + 1 + 1)) (λ q.
    Ok (body.Flow n t q.0 q.1))))

-- the alternative that is word number i of ws, if there is one
abbrev pub alternative_in : List ℕ → ℕ → Option Exit
alternative_in ws i = cond (nat_lt i (length ws)) (alternative_of (slice_index ws i)) None

-- the same, which must be none of the known exits
abbrev pub fresh : List Exit → ℕ → Option Exit → Result (Option Exit) Fault
fresh known at None = Ok None
fresh known at (Some x) = cond (list_any (λ other. same x other) known) (Err (BadWord at)) (Ok (Some x))

abbrev pub third_of : List ℕ → ℕ → Exit → Exit → Exit → Result Alternatives Fault
third_of ws at next x y = then (fresh (next ∷ x ∷ y ∷ []) at (alternative_in ws 2)) (λ o. elim o [ None ↦ Ok (ways.Two x y) | Some z ↦ Ok (ways.Three x y z) ])

abbrev pub second_of : List ℕ → ℕ → Exit → Exit → Result Alternatives Fault
second_of ws at next x = then (fresh (next ∷ x ∷ []) at (alternative_in ws 1)) (λ o. elim o [ None ↦ Ok (ways.One x) | Some y ↦ third_of ws (at + 1) next x y ])

-- up to three alternatives, which differ from each other and from the next
abbrev pub alternatives_of : List ℕ → ℕ → Exit → Result Alternatives Fault
alternatives_of ws at next = then (fresh (next ∷ []) at (alternative_in ws 0)) (λ o. elim o [ None ↦ Ok ways.None | Some x ↦ second_of ws (at + 1) next x ])

abbrev pub block_of : ℕ → ℕ → List ℕ → ℕ → Result Body Fault
block_of next time rest at =
    then (judged exit_of next at) (λ n. then (judged period_of time (at + 1)) (λ t. then (alternatives_of rest (at + 1 + 1) n) (λ a.
    Ok (body.Block n t a))))

abbrev pub rest_of : Kind → ℕ → ℕ → List ℕ → ℕ → Result Body Fault
rest_of kinds.Message = message_of
rest_of kinds.Block = block_of
rest_of kinds.Flow = flow_of

-- a node whose last word is its next: what is wrong with the next comes first
abbrev pub cut_of : Kind → ℕ → ℕ → Result Body Fault
cut_of kinds.Message next at = then (judged place_of next at) (λ _. Err (Ragged (at + 1)))
cut_of kinds.Block next at = then (judged exit_of next at) (λ _. Err (Ragged (at + 1)))
cut_of kinds.Flow next at = then (judged place_of next at) (λ _. Err (Ragged (at + 1)))

-- the words ws after a head
abbrev pub body_of : Kind → List ℕ → ℕ → Result Body Fault
body_of kind ws at =
    cond (nat_lt 1 (length ws)) (rest_of kind (slice_index ws 0) (slice_index ws 1) (drop 2 ws) at)
    (cond (nat_lt 0 (length ws)) (cut_of kind (slice_index ws 0) at) (Err (Ragged at)))

abbrev pub alternatives_size : Alternatives → ℕ
alternatives_size ways.None = 0
alternatives_size (ways.One x) = 1
alternatives_size (ways.Two x y) = 2
alternatives_size (ways.Three x y z) = 3

-- how many words a node has after its head
abbrev pub body_size : Body → ℕ
body_size (body.Message n t e) = 3
body_size (body.Block n t a) = 2 + alternatives_size a
body_size (body.Flow n t g o) = 4

-- ### a node or the end, from the words ws that are left; at is the position of the first of them

-- the end word, with so many words after it: 6 there where its count is wrong, and at the next word where there is one
abbrev pub end_of : ℕ → ℕ → ℕ → ℕ → Result (Option Placed) Fault
end_of after at count n = cond (n == count) (cond (nat_lt 0 after) (Err (Ragged (at + 1))) (Ok None)) (Err (Ragged at))

-- a head: 5 there where its place is below floor, which is one above the last place
abbrev pub head_of : List ℕ → ℕ → ℕ → Kind → ℕ → ℕ → Result (Option Placed) Fault
head_of ws at floor kind pattern place =
    cond (nat_lt place floor) (Err (NotRising at))
    (then (body_of kind (drop 1 ws) (at + 1)) (λ b. Ok (Some (record { place = place; node = record { pattern = pattern; body = b } }))))

abbrev pub part_of : List ℕ → ℕ → ℕ → ℕ → Word → Result (Option Placed) Fault
part_of ws at floor count (word.Head k p n) = head_of ws at floor k p n
part_of ws at floor count (word.Next x) = Err (BadWord at)
part_of ws at floor count (word.Time t) = Err (BadWord at)
part_of ws at floor count (word.Event e) = Err (BadWord at)
part_of ws at floor count (word.Alternative x) = Err (BadWord at)
part_of ws at floor count (word.Target n) = Err (BadWord at)
part_of ws at floor count (word.Order o) = Err (BadWord at)
part_of ws at floor count (word.Pass p) = Err (BadWord at)
part_of ws at floor count (word.End n) = end_of (length (drop 1 ws)) at count n

abbrev pub node_of : List ℕ → ℕ → ℕ → ℕ → Result (Option Placed) Fault
node_of ws at floor count = then (wanted read ws 0 at) (part_of ws at floor count)

-- how many words that takes
abbrev pub part_size : Option Placed → ℕ
part_size None = 1
part_size (Some p) = 1 + body_size p.node.body

-- a node is at floor or above it, and below 512
abbrev pub above : ℕ → Option Placed → Type 0
above floor None = Unit {0}
above floor (Some p) = (floor ≤ p.place) × (p.place < 512)

-- ### the whole image

abbrev pub nothing : List (Option Node)
nothing = replicate 512 None

-- the nodes from a position on, stored into places. Places rise and are below 512, so fuel for 513 nodes never runs out
unfoldable pub nodes_from : ℕ → List ℕ → ℕ → ℕ → ℕ → List (Option Node) → Result Image Fault
nodes_from zero ws at floor count places = Err (Ragged at)
nodes_from (suc k) ws at floor count places = then (node_of (drop at ws) at floor count) (λ o. elim o [
  | None ↦ Ok (record { places = places; nodes = count })
  | Some p ↦ nodes_from k ws (at + part_size (Some p)) (p.place + 1) (count + 1) (slice_set places p.place (Some p.node))
])

unfoldable pub read_image : List ℕ → Result Image Fault
read_image ws = nodes_from 513 ws 0 0 0 nothing
