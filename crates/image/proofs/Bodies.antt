-- The words after a head, read one after another.
use Rattle.std.proofs.Common.{◌≡◌, ℕ, suc, ◌+◌, ◌<◌, ◌≤◌, Bool, true, false, cond, List, [], ◌∷◌, length, get_or, drop, Some, None, Ok, Err, Option, Result, sym, refl, ap, ◌∙◌, ⊎_elim, arith}
use Rattle.std.proofs.lemmas.Bool.{cond_below, cond_above, cases_lt}
use Rattle.std.specs.Option.{ok_or}
use Rattle.std.specs.List.{list_any}
use Rattle.words.specs.declared.fault.Fault.{Fault}
use Rattle.words.specs.declared.fault.Fault.TheVariants.{BadWord, Ragged}
use Rattle.words.specs.declared.node.Exit.{Exit}
use Rattle.words.specs.declared.node.Exit.TheVariants as exit
use Rattle.words.specs.declared.node.Alternatives.{Alternatives}
use Rattle.words.specs.declared.node.Alternatives.TheVariants as ways
use Rattle.words.specs.declared.node.Order.{Order}
use Rattle.words.specs.declared.node.Body.{Body}
use Rattle.words.specs.declared.node.Body.TheVariants as body
use Rattle.words.specs.declared.word.Kind.{Kind}
use Rattle.words.specs.declared.word.Kind.TheVariants as kinds
use Rattle.words.specs.Exits.{same}
use Rattle.image.specs.Reading.{then, judged, wanted, place_of, exit_of, time_of, period_of, event_of, target_of, order_of, alternative_of, alternative_in, fresh, queued_of, alternatives_of, second_of, third_of, rest_of, cut_of, body_of, body_size}
use Rattle.image.proofs.Wants.{goes, wants, goes_if, goes_or, may, Good, done_good, wants_good, may_good}

abbrev pub event_wanted : ℕ → ℕ → List ℕ → ℕ → Result Body Fault
event_wanted n t = wants event_of (λ e ws at. Ok (body.Message n t e))

abbrev pub message_offset : ℕ → List ℕ → ℕ → Result Body Fault
message_offset n = wants time_of (event_wanted n)

abbrev pub message : List ℕ → ℕ → Result Body Fault
message = wants place_of message_offset

abbrev pub order_wanted : ℕ → ℕ → ℕ → List ℕ → ℕ → Result Body Fault
order_wanted n t g = wants order_of (λ o ws at. Ok (body.Flow n t g o))

abbrev pub target_wanted : ℕ → ℕ → List ℕ → ℕ → Result Body Fault
target_wanted n t = wants target_of (order_wanted n t)

abbrev pub flow_offset : ℕ → List ℕ → ℕ → Result Body Fault
flow_offset n = wants time_of (target_wanted n)

abbrev pub flow : List ℕ → ℕ → Result Body Fault
flow = wants place_of flow_offset

abbrev pub used : List Exit → Exit → Bool
used known x = list_any (λ other. same x other) known

abbrev pub third : Exit → ℕ → Exit → Exit → List ℕ → ℕ → Result Body Fault
third n t x y = may alternative_of (used (n ∷ x ∷ y ∷ [])) (λ z ws at. Ok (body.Block n t (ways.Three x y z))) (body.Block n t (ways.Two x y))

abbrev pub second : Exit → ℕ → Exit → List ℕ → ℕ → Result Body Fault
second n t x = may alternative_of (used (n ∷ x ∷ [])) (λ y. third n t x y) (body.Block n t (ways.One x))

abbrev pub first : Exit → ℕ → List ℕ → ℕ → Result Body Fault
first n t = may alternative_of (used (n ∷ [])) (λ x. second n t x) (body.Block n t ways.None)

abbrev pub period_wanted : Exit → List ℕ → ℕ → Result Body Fault
period_wanted n = wants period_of (first n)

abbrev pub block : List ℕ → ℕ → Result Body Fault
block = wants exit_of period_wanted

abbrev pub reader : Kind → List ℕ → ℕ → Result Body Fault
reader kinds.Message = message
reader kinds.Block = block
reader kinds.Flow = flow

-- ### what follows of their faults

message_good : Good body_size 0 message
message_good =
    wants_good body_size 0 place_of _ 0x20000000 0 refl (λ n. wants_good body_size 1 time_of _ 0x30000000 0 refl (λ t. wants_good body_size 2 event_of _ 0x40000000 0 refl (λ e.
    done_good body_size 3 (body.Message n t e) refl)))

flow_good : Good body_size 0 flow
flow_good =
    wants_good body_size 0 place_of _ 0x20000000 0 refl (λ n. wants_good body_size 1 time_of _ 0x30000000 0 refl (λ t.
    wants_good body_size 2 target_of _ 0x60000000 0 refl (λ g. wants_good body_size 3 order_of _ 0x70100000 (record { repeats = 1; lasting = false; urgent = false; destination = exit.Place 0 }) refl (λ o.
    done_good body_size 4 (body.Flow n t g o) refl))))

block_good : Good body_size 0 block
block_good =
    wants_good body_size 0 exit_of _ 0x20000000 (exit.Place 0) refl (λ n. wants_good body_size 1 period_of _ 0x30000001 1 refl (λ t.
    may_good body_size 2 alternative_of (used (n ∷ [])) _ (body.Block n t ways.None) refl (λ x.
    may_good body_size 3 alternative_of (used (n ∷ x ∷ [])) _ (body.Block n t (ways.One x)) refl (λ y.
    may_good body_size 4 alternative_of (used (n ∷ x ∷ y ∷ [])) _ (body.Block n t (ways.Two x y)) refl (λ z.
    done_good body_size 5 (body.Block n t (ways.Three x y z)) refl)))))

pub reader_good : (kind : Kind) → Good body_size 0 (reader kind)
reader_good kinds.Message = message_good
reader_good kinds.Block = block_good
reader_good kinds.Flow = flow_good

-- ### they read what the definition reads

step : {A B : Type 0} (o : Option A) (at : ℕ) (K : A → Result B Fault) (k : A → List ℕ → ℕ → Result B Fault) (ws : List ℕ) → ((x : A) → K x ≡ k x ws (at + 1)) → then (ok_or o (BadWord at)) K ≡ goes o k ws at
step None at K k ws h = refl
step (Some x) at K k ws h = h x

-- the word number i is there, or it is missing
there : {A : Type 0} (f : ℕ → Option A) (ws : List ℕ) (i at : ℕ) → i < length ws → wanted f ws i at ≡ judged f (get_or ws i 0) at
there f ws i at h = sym (cond_below i (length ws) (judged f (get_or ws i 0) at) (Err (Ragged at)) h)

lacks : {A : Type 0} (f : ℕ → Option A) (ws : List ℕ) (i at : ℕ) → length ws ≤ i → wanted f ws i at ≡ Err (Ragged at)
lacks f ws i at h = sym (cond_above i (length ws) (judged f (get_or ws i 0) at) (Err (Ragged at)) _ h refl)

one : {A B : Type 0} (f : ℕ → Option A) (ws : List ℕ) (at : ℕ) (K : A → Result B Fault) (k : A → List ℕ → ℕ → Result B Fault) → ((x : A) → K x ≡ k x (drop 1 ws) (at + 1)) → then (wanted f ws 0 at) K ≡ wants f k ws at
one f [] at K k h = refl
one f (w ∷ ws) at K k h = ap (λ r. then r K) (there f (w ∷ ws) 0 at (omega arith)) ∙ step (f w) at K k ws h

-- the second word is the first of what is left
shifted : {A : Type 0} (f : ℕ → Option A) (w : ℕ) (ws : List ℕ) (i at : ℕ) → wanted f (w ∷ ws) (suc i) at ≡ wanted f ws i at
shifted f w ws i at = ⊎_elim
    (λ h. there f (w ∷ ws) (suc i) at (omega arith) ∙ sym (there f ws i at h))
    (λ h. lacks f (w ∷ ws) (suc i) at (omega arith) ∙ sym (lacks f ws i at h))
    (cases_lt i (length ws))

abbrev paired : ℕ → Result Order Fault → Result (ℕ × Order) Fault
paired g r = then r (λ o. Ok (g, o))

abbrev as_flow : ℕ → ℕ → Result (ℕ × Order) Fault → Result Body Fault
as_flow n t r = then r (λ q. Ok (body.Flow n t q.0 q.1))

order_link : (n t g : ℕ) (vs : List ℕ) (at : ℕ) → as_flow n t (paired g (wanted order_of vs 0 at)) ≡ order_wanted n t g vs at
order_link n t g [] at = refl
order_link n t g (v ∷ vs) at =
    ap (λ r. as_flow n t (paired g r)) (there order_of (v ∷ vs) 0 at (omega arith))
    ∙ (elim (order_of v) as (λ o. as_flow n t (paired g (ok_or o (BadWord at))) ≡ goes o (λ o vs at. Ok (body.Flow n t g o)) vs at) [ None ↦ refl | Some o ↦ refl ])

target_link : (n t w : ℕ) (ws : List ℕ) (at : ℕ) (o : Option ℕ) → as_flow n t (then (ok_or o (BadWord at)) (λ g. paired g (wanted order_of (w ∷ ws) 1 (at + 1)))) ≡ goes o (order_wanted n t) ws at
target_link n t w ws at None = refl
target_link n t w ws at (Some g) = ap (λ r. as_flow n t (paired g r)) (shifted order_of w ws 0 (at + 1)) ∙ order_link n t g ws (at + 1)

queued_link : (n t : ℕ) (ws : List ℕ) (at : ℕ) → as_flow n t (queued_of ws at) ≡ target_wanted n t ws at
queued_link n t [] at = refl
queued_link n t (w ∷ ws) at =
    ap (λ r. as_flow n t (then r (λ g. paired g (wanted order_of (w ∷ ws) 1 (at + 1))))) (there target_of (w ∷ ws) 0 at (omega arith)) ∙ target_link n t w ws at (target_of w)

-- an alternative that is word number i
alternative_there : (ws : List ℕ) (i : ℕ) → i < length ws → alternative_in ws i ≡ alternative_of (get_or ws i 0)
alternative_there ws i h = sym (cond_below i (length ws) (alternative_of (get_or ws i 0)) None h)

alternative_lacks : (ws : List ℕ) (i : ℕ) → length ws ≤ i → alternative_in ws i ≡ None
alternative_lacks ws i h = sym (cond_above i (length ws) (alternative_of (get_or ws i 0)) None _ h refl)

alternative_shifted : (w : ℕ) (ws : List ℕ) (i : ℕ) → alternative_in (w ∷ ws) (suc i) ≡ alternative_in ws i
alternative_shifted w ws i = ⊎_elim
    (λ h. alternative_there (w ∷ ws) (suc i) (omega arith) ∙ sym (alternative_there ws i h))
    (λ h. alternative_lacks (w ∷ ws) (suc i) (omega arith) ∙ sym (alternative_lacks ws i h))
    (cases_lt i (length ws))

-- one alternative more, which may not be there: K is what is read where it is
abbrev go : {B : Type 0} → Result (Option Exit) Fault → B → (Exit → Result B Fault) → Result B Fault
go r y K = then r (λ o. elim o [ None ↦ Ok y | Some x ↦ K x ])

fresh_link : {B : Type 0} (known : List Exit) (at : ℕ) (y : B) (K : Exit → Result B Fault) (k : Exit → List ℕ → ℕ → Result B Fault) (ws : List ℕ) (o : Option Exit)
    → ((x : Exit) → K x ≡ k x ws (at + 1)) → go (fresh known at o) y K ≡ goes_or o (used known) k y ws at
fresh_link known at y K k ws None h = refl
fresh_link known at y K k ws (Some x) h =
    elim (used known x) as (λ u. go (cond u (Err (BadWord at)) (Ok (Some x))) y K ≡ goes_if u (k x) ws at) [ true ↦ refl | false ↦ h x ]

abbrev as_block : Exit → ℕ → Result Alternatives Fault → Result Body Fault
as_block n t r = then r (λ a. Ok (body.Block n t a))

-- the block is made at the end or, just as well, after each alternative
pushed : (n : Exit) (t : ℕ) (r : Result (Option Exit) Fault) (y : Alternatives) (K : Exit → Result Alternatives Fault) → as_block n t (go r y K) ≡ go r (body.Block n t y) (λ x. as_block n t (K x))
pushed n t (Err e) y K = refl
pushed n t (Ok None) y K = refl
pushed n t (Ok (Some x)) y K = refl

third_link : (n : Exit) (t : ℕ) (x y : Exit) (v w : ℕ) (ws : List ℕ) (at : ℕ) → as_block n t (third_of (v ∷ w ∷ ws) at n x y) ≡ third n t x y ws at
third_link n t x y v w [] at = refl
third_link n t x y v w (u ∷ ws) at =
    ap (λ o. as_block n t (go (fresh (n ∷ x ∷ y ∷ []) at o) (ways.Two x y) (λ z. Ok (ways.Three x y z)))) (alternative_shifted v (w ∷ u ∷ ws) 1 ∙ alternative_shifted w (u ∷ ws) 0 ∙ alternative_there (u ∷ ws) 0 (omega arith))
    ∙ pushed n t (fresh (n ∷ x ∷ y ∷ []) at (alternative_of u)) (ways.Two x y) (λ z. Ok (ways.Three x y z))
    ∙ fresh_link (n ∷ x ∷ y ∷ []) at (body.Block n t (ways.Two x y)) (λ z. Ok (body.Block n t (ways.Three x y z))) (λ z vs at. Ok (body.Block n t (ways.Three x y z))) ws (alternative_of u) (λ z. refl)

second_link : (n : Exit) (t : ℕ) (x : Exit) (v : ℕ) (ws : List ℕ) (at : ℕ) → as_block n t (second_of (v ∷ ws) at n x) ≡ second n t x ws at
second_link n t x v [] at = refl
second_link n t x v (w ∷ ws) at =
    ap (λ o. as_block n t (go (fresh (n ∷ x ∷ []) at o) (ways.One x) (λ y. third_of (v ∷ w ∷ ws) (at + 1) n x y))) (alternative_shifted v (w ∷ ws) 0 ∙ alternative_there (w ∷ ws) 0 (omega arith))
    ∙ pushed n t (fresh (n ∷ x ∷ []) at (alternative_of w)) (ways.One x) (λ y. third_of (v ∷ w ∷ ws) (at + 1) n x y)
    ∙ fresh_link (n ∷ x ∷ []) at (body.Block n t (ways.One x)) (λ y. as_block n t (third_of (v ∷ w ∷ ws) (at + 1) n x y)) (λ y. third n t x y) ws (alternative_of w) (λ y. third_link n t x y v w ws (at + 1))

first_link : (n : Exit) (t : ℕ) (ws : List ℕ) (at : ℕ) → as_block n t (alternatives_of ws at n) ≡ first n t ws at
first_link n t [] at = refl
first_link n t (w ∷ ws) at =
    ap (λ o. as_block n t (go (fresh (n ∷ []) at o) ways.None (λ x. second_of (w ∷ ws) (at + 1) n x))) (alternative_there (w ∷ ws) 0 (omega arith))
    ∙ pushed n t (fresh (n ∷ []) at (alternative_of w)) ways.None (λ x. second_of (w ∷ ws) (at + 1) n x)
    ∙ fresh_link (n ∷ []) at (body.Block n t ways.None) (λ x. as_block n t (second_of (w ∷ ws) (at + 1) n x)) (λ x. second n t x) ws (alternative_of w) (λ x. second_link n t x w ws (at + 1))

rest_link : (kind : Kind) (n t : ℕ) (ws : List ℕ) (at : ℕ) → rest_of kind n t ws at ≡ reader kind (n ∷ t ∷ ws) at
rest_link kinds.Message n t ws at =
    step (place_of n) at _ _ (t ∷ ws) (λ x. step (time_of t) (at + 1) _ _ ws (λ y. one event_of ws (at + 1 + 1) _ _ (λ e. refl)))
rest_link kinds.Block n t ws at =
    step (exit_of n) at _ _ (t ∷ ws) (λ x. step (period_of t) (at + 1) _ _ ws (λ y. first_link x y ws (at + 1 + 1)))
rest_link kinds.Flow n t ws at =
    step (place_of n) at _ _ (t ∷ ws) (λ x. step (time_of t) (at + 1) _ _ ws (λ y. queued_link x y ws (at + 1 + 1)))

cut_link : (kind : Kind) (n at : ℕ) → cut_of kind n at ≡ reader kind (n ∷ []) at
cut_link kinds.Message n at = step (place_of n) at _ _ [] (λ x. refl)
cut_link kinds.Block n at = step (exit_of n) at _ _ [] (λ x. refl)
cut_link kinds.Flow n at = step (place_of n) at _ _ [] (λ x. refl)

none_link : (kind : Kind) (at : ℕ) → Err (Ragged at) ≡ reader kind [] at
none_link kinds.Message at = refl
none_link kinds.Block at = refl
none_link kinds.Flow at = refl

pub body_link : (kind : Kind) (ws : List ℕ) (at : ℕ) → body_of kind ws at ≡ reader kind ws at
body_link kind [] at = none_link kind at
body_link kind (n ∷ []) at = cut_link kind n at
body_link kind (n ∷ t ∷ ws) at =
    sym (cond_below 1 (length (n ∷ t ∷ ws)) (rest_of kind n t ws at) _ (omega arith)) ∙ rest_link kind n t ws at
