-- What a word says where one kind of word is wanted: only the word of that kind says it.
use Rattle.std.proofs.Common.{◌≡◌, ℕ, ◌^◌, ◌<◌, ◌≤◌, Bool, true, false, cond, ltb, Some, None, Option, sym, refl, ap, ◌∙◌, subst, arith}
use Rattle.std.proofs.lemmas.Bool.{ltb-true, lt-ltb, eqb-true, eq-eqb, ne_eqb, cond_both}
use Rattle.words.specs.declared.node.Exit.{Exit}
use Rattle.words.specs.declared.node.Exit.TheVariants as exit
use Rattle.words.specs.declared.node.Order.{Order}
use Rattle.words.specs.declared.word.Word.{Word}
use Rattle.words.specs.declared.word.Word.TheVariants as word
use Rattle.words.specs.Format.{read, written, then as maybe, Allowed, AllowedExit, AllowedOrder}
use Rattle.words.proofs.Back.{reads_back, writes_back}
use Rattle.words.specs.Exits.{same}
use Rattle.image.specs.Nodes.{Differ}
use Rattle.image.specs.Reading.{next_said, time_said, event_said, alternative_said, target_said, order_said, place_said, place_of, exit_of, time_of, period_of, event_of, target_of, order_of, alternative_of}

maybe_some : {A B : Type 0} (o : Option A) (f : A → Option B) (y : B) → maybe o f ≡ Some y → (x : A) × (o ≡ Some x) × (f x ≡ Some y)
maybe_some None f y h = let z : ◌≡◌ {A = ℕ} 0 1 = cc in absurd (omega arith)
maybe_some (Some x) f y h = (x, refl, h)

next_only : (x : Word) (v : Exit) → next_said x ≡ Some v → x ≡ word.Next v
next_only (word.Head k p n) v h = cc
next_only (word.Next e) v h = cc
next_only (word.Time t) v h = cc
next_only (word.Event e) v h = cc
next_only (word.Alternative e) v h = cc
next_only (word.Target n) v h = cc
next_only (word.Order o) v h = cc
next_only (word.Pass p) v h = cc
next_only (word.End n) v h = cc

time_only : (x : Word) (v : ℕ) → time_said x ≡ Some v → x ≡ word.Time v
time_only (word.Head k p n) v h = cc
time_only (word.Next e) v h = cc
time_only (word.Time t) v h = cc
time_only (word.Event e) v h = cc
time_only (word.Alternative e) v h = cc
time_only (word.Target n) v h = cc
time_only (word.Order o) v h = cc
time_only (word.Pass p) v h = cc
time_only (word.End n) v h = cc

event_only : (x : Word) (v : ℕ) → event_said x ≡ Some v → x ≡ word.Event v
event_only (word.Head k p n) v h = cc
event_only (word.Next e) v h = cc
event_only (word.Time t) v h = cc
event_only (word.Event e) v h = cc
event_only (word.Alternative e) v h = cc
event_only (word.Target n) v h = cc
event_only (word.Order o) v h = cc
event_only (word.Pass p) v h = cc
event_only (word.End n) v h = cc

alternative_only : (x : Word) (v : Exit) → alternative_said x ≡ Some v → x ≡ word.Alternative v
alternative_only (word.Head k p n) v h = cc
alternative_only (word.Next e) v h = cc
alternative_only (word.Time t) v h = cc
alternative_only (word.Event e) v h = cc
alternative_only (word.Alternative e) v h = cc
alternative_only (word.Target n) v h = cc
alternative_only (word.Order o) v h = cc
alternative_only (word.Pass p) v h = cc
alternative_only (word.End n) v h = cc

target_only : (x : Word) (v : ℕ) → target_said x ≡ Some v → x ≡ word.Target v
target_only (word.Head k p n) v h = cc
target_only (word.Next e) v h = cc
target_only (word.Time t) v h = cc
target_only (word.Event e) v h = cc
target_only (word.Alternative e) v h = cc
target_only (word.Target n) v h = cc
target_only (word.Order o) v h = cc
target_only (word.Pass p) v h = cc
target_only (word.End n) v h = cc

order_only : (x : Word) (v : Order) → order_said x ≡ Some v → x ≡ word.Order v
order_only (word.Head k p n) v h = cc
order_only (word.Next e) v h = cc
order_only (word.Time t) v h = cc
order_only (word.Event e) v h = cc
order_only (word.Alternative e) v h = cc
order_only (word.Target n) v h = cc
order_only (word.Order o) v h = cc
order_only (word.Pass p) v h = cc
order_only (word.End n) v h = cc

-- w is what the word x is written as, and x is allowed
abbrev pub Is : ℕ → Word → Type 0
Is w x = (w ≡ written x) × Allowed x

module _ {A : Type 0} (said : Word → Option A) (as_word : A → Word) (only : (x : Word) (v : A) → said x ≡ Some v → x ≡ as_word v) where
  only_word : (w : ℕ) (v : A) → maybe (read w) said ≡ Some v → Is w (as_word v)
  only_word w v h =
      let p = maybe_some (read w) said v h in
      let back = writes_back w p.0 p.1 in
      let is = only p.0 v p.2 in
      subst (Is w) is (sym back.0, back.1)

pub exit_is : (w : ℕ) (v : Exit) → exit_of w ≡ Some v → Is w (word.Next v)
exit_is = only_word next_said word.Next next_only

pub time_is : (w v : ℕ) → time_of w ≡ Some v → Is w (word.Time v)
time_is = only_word time_said word.Time time_only

pub event_is : (w v : ℕ) → event_of w ≡ Some v → Is w (word.Event v)
event_is = only_word event_said word.Event event_only

pub alternative_is : (w : ℕ) (v : Exit) → alternative_of w ≡ Some v → Is w (word.Alternative v)
alternative_is = only_word alternative_said word.Alternative alternative_only

pub target_is : (w v : ℕ) → target_of w ≡ Some v → Is w (word.Target v)
target_is = only_word target_said word.Target target_only

pub order_is : (w : ℕ) (v : Order) → order_of w ≡ Some v → Is w (word.Order v)
order_is = only_word order_said word.Order order_only

place_only : (x : Exit) (v : ℕ) → place_said x ≡ Some v → x ≡ exit.Place v
place_only exit.End v h = cc
place_only (exit.Place n) v h = cc

pub place_is : (w v : ℕ) → place_of w ≡ Some v → Is w (word.Next (exit.Place v))
place_is w v h = let p = maybe_some (exit_of w) place_said v h in subst (λ x. Is w (word.Next x)) (place_only p.0 v p.2) (exit_is w p.0 p.1)

pub period_is : (w v : ℕ) → period_of w ≡ Some v → Is w (word.Time v) × (1 ≤ v)
period_is w v h =
    let p = maybe_some (time_of w) (λ t. cond (ltb 0 t) (Some t) None) v h in
    let q : (p.0 ≡ v) × (1 ≤ v) = positive p.0 p.2 in
    (subst (λ t. Is w (word.Time t)) q.0 (time_is w p.0 p.1), q.1)
  where
    positive : (t : ℕ) → cond (ltb 0 t) (Some t) None ≡ Some v → (t ≡ v) × (1 ≤ v)
    positive t e = cond_both (ltb 0 t) (Some t) None (λ o. o ≡ Some v → (t ≡ v) × (1 ≤ v))
        (λ b e. let is : t ≡ v = cc in (is, omega (arith, ltb-true 0 t b)))
        (λ b e. let z : ◌≡◌ {A = ℕ} 0 1 = cc in absurd (omega arith)) e

-- ### what is written is said

pub exit_back : (x : Exit) → AllowedExit x → exit_of (written (word.Next x)) ≡ Some x
exit_back x h = ap (λ o. maybe o next_said) (reads_back (word.Next x) h).0

pub place_back : (n : ℕ) → n < 512 → place_of (written (word.Next (exit.Place n))) ≡ Some n
place_back n h = ap (λ o. maybe o place_said) (exit_back (exit.Place n) h)

pub time_back : (t : ℕ) → t < 2 ^ 28 → time_of (written (word.Time t)) ≡ Some t
time_back t h = ap (λ o. maybe o time_said) (reads_back (word.Time t) h).0

pub period_back : (t : ℕ) → 1 ≤ t → t < 2 ^ 28 → period_of (written (word.Time t)) ≡ Some t
period_back t p h = ap (λ o. maybe o (λ t. cond (ltb 0 t) (Some t) None)) (time_back t h) ∙ ap (λ b. cond b (Some t) None) (lt-ltb 0 t p)

pub event_back : (e : ℕ) → e < 2 ^ 28 → event_of (written (word.Event e)) ≡ Some e
event_back e h = ap (λ o. maybe o event_said) (reads_back (word.Event e) h).0

pub target_back : (n : ℕ) → n < 512 → target_of (written (word.Target n)) ≡ Some n
target_back n h = ap (λ o. maybe o target_said) (reads_back (word.Target n) h).0

pub order_back : (o : Order) → AllowedOrder o → order_of (written (word.Order o)) ≡ Some o
order_back o h = ap (λ o. maybe o order_said) (reads_back (word.Order o) h).0

pub alternative_back : (x : Exit) → AllowedExit x → alternative_of (written (word.Alternative x)) ≡ Some x
alternative_back x h = ap (λ o. maybe o alternative_said) (reads_back (word.Alternative x) h).0

-- ### exits that are the same

pub same_true : (x y : Exit) → same x y ≡ true → x ≡ y
same_true exit.End exit.End h = refl
same_true exit.End (exit.Place n) h = cc
same_true (exit.Place m) exit.End h = cc
same_true (exit.Place m) (exit.Place n) h = ap exit.Place (eqb-true m n h)

pub same_itself : (x : Exit) → same x x ≡ true
same_itself exit.End = refl
same_itself (exit.Place n) = eq-eqb n n refl

pub same_false : (x y : Exit) → same x y ≡ false → Differ x y
same_false x y h e = let t : same x y ≡ true = ap (λ z. same x z) (sym e) ∙ same_itself x in let z : ◌≡◌ {A = Bool} true false = cc in absurd (subst (λ b. elim b as (λ _. Type 0) [ true ↦ Unit {0} | false ↦ ⊥ ]) z tt)

pub differ_same : (x y : Exit) → Differ x y → same x y ≡ false
differ_same exit.End exit.End d = absurd (d refl)
differ_same exit.End (exit.Place n) d = refl
differ_same (exit.Place m) exit.End d = refl
differ_same (exit.Place m) (exit.Place n) d = ne_eqb m n (λ e. d (ap exit.Place e))
