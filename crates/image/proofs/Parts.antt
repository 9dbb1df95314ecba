-- A node or the end word at the front of the words that are left: every way in which that can go.
use Rattle.std.proofs.Common.{◌≡◌, ℕ, ◌+◌, ◌<◌, ◌≤◌, cond, ltb, List, [], ◌∷◌, length, Some, None, Ok, Err, Option, Result, sym, refl, ap, ◌∙◌, ⊎_elim, arith}
use Rattle.std.proofs.lemmas.Bool.{cond_below, cases_lt, cases_eq, lt-ltb, eq-eqb, ne_eqb}
use Rattle.std.specs.Option.{ok_or}
use Rattle.words.specs.declared.fault.Fault.{Fault}
use Rattle.words.specs.declared.fault.Fault.TheVariants.{BadWord, NotRising, Ragged}
use Rattle.words.specs.declared.node.Body.{Body}
use Rattle.words.specs.declared.word.Kind.{Kind}
use Rattle.words.specs.declared.word.Word.{Word}
use Rattle.words.specs.declared.word.Word.TheVariants as word
use Rattle.words.specs.Format.{read}
use Rattle.image.specs.declared.reader.Placed.{Placed}
use Rattle.image.specs.Reading.{then, body_of, node_of, part_of}
use Rattle.image.proofs.Heads.{said, placed, head_read}

abbrev pub at_place : ℕ → ℕ → Body → Placed
at_place pattern place b = record { place = place; node = record { pattern = pattern; body = b } }

pub data Part (rest : List ℕ) (at floor count : ℕ) (r : Result (Option Placed) Fault) : Type 0 where
  missing : rest ≡ [] → r ≡ Err (Ragged at) → Part rest at floor count r
  strange : (w : ℕ) (after : List ℕ) → rest ≡ w ∷ after → ((more : List ℕ) → node_of (w ∷ more) at floor count ≡ Err (BadWord at)) → r ≡ Err (BadWord at) → Part rest at floor count r
  falling : (w : ℕ) (after : List ℕ) (k : Kind) (p n : ℕ) → rest ≡ w ∷ after → read w ≡ Some (word.Head k p n) → n < floor → r ≡ Err (NotRising at) → Part rest at floor count r
  broken : (w : ℕ) (after : List ℕ) (k : Kind) (p n : ℕ) (f : Fault) → rest ≡ w ∷ after → read w ≡ Some (word.Head k p n) → floor ≤ n → body_of k after (at + 1) ≡ Err f → r ≡ Err f → Part rest at floor count r
  whole : (w : ℕ) (after : List ℕ) (k : Kind) (p n : ℕ) (b : Body) → rest ≡ w ∷ after → read w ≡ Some (word.Head k p n) → floor ≤ n → body_of k after (at + 1) ≡ Ok b → r ≡ Ok (Some (at_place p n b)) → Part rest at floor count r
  miscounted : (w : ℕ) (after : List ℕ) (n : ℕ) → rest ≡ w ∷ after → read w ≡ Some (word.End n) → (n ≡ count → ⊥) → r ≡ Err (Ragged at) → Part rest at floor count r
  followed : (w v : ℕ) (after : List ℕ) → rest ≡ w ∷ v ∷ after → read w ≡ Some (word.End count) → r ≡ Err (Ragged (at + 1)) → Part rest at floor count r
  ended : (w : ℕ) → rest ≡ w ∷ [] → read w ≡ Some (word.End count) → r ≡ Ok None → Part rest at floor count r

-- ### what each first word leads to

module _ (at floor count : ℕ) (w : ℕ) (more : List ℕ) where
  pub says : (x : Word) → read w ≡ Some x → node_of (w ∷ more) at floor count ≡ part_of (w ∷ more) at floor count x
  says x e = said (w ∷ more) at floor count x (omega arith) e

  pub unsaid : read w ≡ None → node_of (w ∷ more) at floor count ≡ Err (BadWord at)
  unsaid e = ap (λ r. then r (part_of (w ∷ more) at floor count))
      (sym (cond_below 0 (length (w ∷ more)) (ok_or (read w) (BadWord at)) (Err (Ragged at)) (omega arith)) ∙ ap (λ o. ok_or o (BadWord at)) e)

  pub falls : (k : Kind) (p n : ℕ) → read w ≡ Some (word.Head k p n) → n < floor → node_of (w ∷ more) at floor count ≡ Err (NotRising at)
  falls k p n e l = says (word.Head k p n) e ∙ ap (λ b. cond b (Err (NotRising at)) (placed p n (body_of k more (at + 1)))) (lt-ltb n floor l)

  pub begins : (k : Kind) (p n : ℕ) → read w ≡ Some (word.Head k p n) → floor ≤ n → (r : Result Body Fault) → body_of k more (at + 1) ≡ r → node_of (w ∷ more) at floor count ≡ placed p n r
  begins k p n e l r is = sym (head_read (w ∷ more) at floor count k p n (omega arith) e l r (sym is))

  pub miscounts : (n : ℕ) → read w ≡ Some (word.End n) → (n ≡ count → ⊥) → node_of (w ∷ more) at floor count ≡ Err (Ragged at)
  miscounts n e d = says (word.End n) e ∙ ap (λ b. cond b (cond (ltb 0 (length more)) (Err (Ragged (at + 1))) (Ok None)) (Err (Ragged at))) (ne_eqb n count d)

  pub ends : read w ≡ Some (word.End count) → node_of (w ∷ more) at floor count ≡ cond (ltb 0 (length more)) (Err (Ragged (at + 1))) (Ok None)
  ends e = says (word.End count) e ∙ ap (λ b. cond b (cond (ltb 0 (length more)) (Err (Ragged (at + 1))) (Ok None)) (Err (Ragged at))) (eq-eqb count count refl)

-- a word follows the end word
pub follows : (at floor count w v : ℕ) (more : List ℕ) → read w ≡ Some (word.End count) → node_of (w ∷ v ∷ more) at floor count ≡ Err (Ragged (at + 1))
follows at floor count w v more e = ends at floor count w (v ∷ more) e ∙ sym (cond_below 0 (length (v ∷ more)) (Err (Ragged (at + 1))) (Ok None) (omega arith))

-- ### the view

module _ (at floor count w : ℕ) (after : List ℕ) where
  at_end : (n : ℕ) → read w ≡ Some (word.End n) → (vs : List ℕ) → after ≡ vs → Part (w ∷ after) at floor count (node_of (w ∷ after) at floor count)
  at_end n e vs is = ⊎_elim
      (λ same. let e' : read w ≡ Some (word.End count) = e ∙ ap (λ n. Some (word.End n)) same in
      elim vs as (λ vs. after ≡ vs → Part (w ∷ after) at floor count (node_of (w ∷ after) at floor count)) [
        | [] ↦ λ is. ended w (ap (λ l. w ∷ l) is) e' (ends at floor count w after e' ∙ ap (λ l. cond (ltb 0 (length l)) (Err (Ragged (at + 1))) (Ok None)) is)
        | v ∷ vs ↦ λ is. followed w v vs (ap (λ l. w ∷ l) is) e' (ap (λ l. node_of (w ∷ l) at floor count) is ∙ follows at floor count w v vs e')
      ] is)
      (λ d. miscounted w after n refl e d (miscounts at floor count w after n e d))
      (cases_eq n count)

  at_body : (k : Kind) (p n : ℕ) → read w ≡ Some (word.Head k p n) → floor ≤ n → (r : Result Body Fault) → body_of k after (at + 1) ≡ r → Part (w ∷ after) at floor count (node_of (w ∷ after) at floor count)
  at_body k p n e l (Ok b) is = whole w after k p n b refl e l is (begins at floor count w after k p n e l (Ok b) is)
  at_body k p n e l (Err f) is = broken w after k p n f refl e l is (begins at floor count w after k p n e l (Err f) is)

  at_head : (k : Kind) (p n : ℕ) → read w ≡ Some (word.Head k p n) → Part (w ∷ after) at floor count (node_of (w ∷ after) at floor count)
  at_head k p n e = ⊎_elim
      (λ l. falling w after k p n refl e l (falls at floor count w after k p n e l))
      (λ l. at_body k p n e l (body_of k after (at + 1)) refl)
      (cases_lt n floor)

  other : (x : Word) → read w ≡ Some x → ((more : List ℕ) → part_of (w ∷ more) at floor count x ≡ Err (BadWord at)) → Part (w ∷ after) at floor count (node_of (w ∷ after) at floor count)
  other x e h = strange w after refl (λ more. says at floor count w more x e ∙ h more) (says at floor count w after x e ∙ h after)

  at_word : (x : Word) → read w ≡ Some x → Part (w ∷ after) at floor count (node_of (w ∷ after) at floor count)
  at_word (word.Head k p n) e = at_head k p n e
  at_word (word.Next v) e = other (word.Next v) e (λ more. refl)
  at_word (word.Time v) e = other (word.Time v) e (λ more. refl)
  at_word (word.Event v) e = other (word.Event v) e (λ more. refl)
  at_word (word.Alternative v) e = other (word.Alternative v) e (λ more. refl)
  at_word (word.Target v) e = other (word.Target v) e (λ more. refl)
  at_word (word.Order v) e = other (word.Order v) e (λ more. refl)
  at_word (word.Pass v) e = other (word.Pass v) e (λ more. refl)
  at_word (word.End n) e = at_end n e after refl

  at_first : (o : Option Word) → read w ≡ o → Part (w ∷ after) at floor count (node_of (w ∷ after) at floor count)
  at_first None e = strange w after refl (λ more. unsaid at floor count w more e) (unsaid at floor count w after e)
  at_first (Some x) e = at_word x e

pub part : (rest : List ℕ) (at floor count : ℕ) → Part rest at floor count (node_of rest at floor count)
part [] at floor count = missing refl refl
part (w ∷ after) at floor count = at_first at floor count w after (read w) refl
