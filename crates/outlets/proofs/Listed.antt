-- The steps of an outlet whose messages stand in a list.
use Rattle.std.proofs.Common.{◌≡◌, ℕ, ◌+◌, ◌<◌, ◌≤◌, Bool, true, false, cond, ltb, List, [], ◌∷◌, ◌++◌, length, drop, Some, None, Option, sym, refl, ap, ◌∙◌, arith}
use Rattle.std.proofs.lemmas.List.{length_push}
use Rattle.std.proofs.lemmas.List.Sums.{sum_by_push, sum_by-cons}
use Rattle.std.proofs.lemmas.Bool.{ltb-true, ltb-false}
use Rattle.first_in.specs.Items.{oldest}
use Rattle.outlets.specs.declared.message.Message.{Message}
use Rattle.outlets.specs.declared.request.Request.TheVariants.{Take, Offer}
use Rattle.outlets.specs.declared.request.Reply.TheVariants.{Nothing, Took, Accepted, Refused}
use Rattle.outlets.specs.Messages.{one, times}
use Rattle.outlets.specs.Meaning.{Meaning, Step, listed}
use Rattle.outlets.specs.Replies.{offered, took}

zero_is_not_one : ◌≡◌ {A = ℕ} 0 1 → ⊥
zero_is_not_one e = omega arith

oldest_some : (ms : List Message) (m : Message) → Some m ≡ oldest ms → ms ≡ m ∷ drop 1 ms
oldest_some [] m e = let none : ◌≡◌ {A = ℕ} 0 1 = cc in absurd (zero_is_not_one none)
oldest_some (x ∷ xs) m e = let is : m ≡ x = cc in ap (λ y. y ∷ xs) (sym is)

oldest_none : (ms : List Message) → None ≡ oldest ms → ms ≡ []
oldest_none [] e = refl
oldest_none (x ∷ xs) e = let none : ◌≡◌ {A = ℕ} 0 1 = cc in absurd (zero_is_not_one none)

module _ {O : Type 0} (messages : O → List Message) (places : O → ℕ) where
  abbrev meaning : Meaning O
  meaning = listed messages places

  pub accepted : (o n : O) (m : Message) → length (messages o) < places o → messages n ≡ messages o ++ m ∷ [] → places n ≡ places o → Step meaning o (Offer m) Accepted n
  accepted o n m room joins fixed = (
    room,
    record {
      each = λ x. ap (times x) joins ∙ sum_by_push (one x) (messages o) m;
      all = ap length joins ∙ length_push (messages o) m;
      fixed = fixed;
    },
  )

  pub refused : (o n : O) (m : Message) → length (messages o) ≡ places o → messages n ≡ messages o → places n ≡ places o → Step meaning o (Offer m) Refused n
  refused o n m full same fixed = (full, record { each = λ x. ap (times x) same; all = ap length same; fixed = fixed })

  pub nothing : (o n : O) → length (messages o) ≡ 0 → messages n ≡ messages o → places n ≡ places o → Step meaning o Take Nothing n
  nothing o n none same fixed = (none, record { each = λ x. ap (times x) same; all = ap length same; fixed = fixed })

  pub taken : (o n : O) (m : Message) → ((x : Message) → times x (messages o) ≡ times x (messages n) + one x m) → length (messages o) ≡ length (messages n) + 1 → places n ≡ places o → Step meaning o Take (Took m) n
  taken o n m each all fixed = record { each = each; all = all; fixed = sym fixed }

  -- what joins at the end
  pub offer_last : (o n : O) (r : Bool) (m : Message) → length (messages o) ≤ places o → r ≡ ltb (length (messages o)) (places o) → messages n ≡ cond r (messages o ++ m ∷ []) (messages o) → places n ≡ places o → Step meaning o (Offer m) (offered r) n
  offer_last o n true m within answer joins fixed = accepted o n m (ltb-true _ _ (sym answer)) joins fixed
  offer_last o n false m within answer joins fixed = refused o n m (omega (arith, ltb-false _ _ (sym answer))) joins fixed

  -- what leaves at the front
  pub take_first : (o n : O) (r : Option Message) → r ≡ oldest (messages o) → messages n ≡ drop 1 (messages o) → places n ≡ places o → Step meaning o Take (took r) n
  take_first o n (Some m) answer leaves fixed =
      let split : messages o ≡ m ∷ messages n = oldest_some (messages o) m answer ∙ ap (λ t. m ∷ t) (sym leaves) in
      taken o n m (λ x. omega (arith, ap (times x) split, sum_by-cons (one x) m (messages n))) (omega (arith, ap length split)) fixed
  take_first o n None answer leaves fixed =
      let none = oldest_none (messages o) answer in
      nothing o n (ap length none) (leaves ∙ ap (drop 1) none ∙ sym none) fixed
