-- At most one answer and one table after it fit a load.
use Rattle.std.proofs.Common.{◌≡◌, ℕ, List, Some, Ok, Err, Option, Result, sym, refl, ap, ◌∙◌, subst, ⊎_elim, arith}
use Rattle.std.proofs.lemmas.Bool.{cases_order}
use Rattle.words.specs.declared.fault.Fault as words
use Rattle.words.specs.declared.node.Node.{Node}
use Rattle.image.specs.declared.places.Image.{Image}
use Rattle.image.specs.Reading.{read_image}
use Rattle.structure.specs.declared.judge.Flaw as flaws
use Rattle.structure.specs.declared.judge.Flaw.TheVariants.{Late, Loop, Listing}
use Rattle.structure.specs.Lowest.{Nowhere, Lowest}
use Rattle.structure.specs.Flaws.{Flawless, Told}
use Rattle.table.specs.declared.fault.Fault.{Fault}
use Rattle.table.specs.declared.fault.Fault.TheVariants.{Words, Taken, Flaw}
use Rattle.table.specs.declared.state.Table.{Table}
use Rattle.table.specs.Tables.{loaded}
use Rattle.table.specs.Loading.{RefusedNodes, Welcome, Loads}

lowest_once : (P : ℕ → Type 0) (p q : ℕ) → Lowest P p → Lowest P q → p ≡ q
lowest_once P p q a b = ⊎_elim (λ e. e) (⊎_elim (λ l. absurd (b.below p l a.here)) (λ l. absurd (a.below q l b.here))) (cases_order p q)

not_lowest : (P : ℕ → Type 0) (p : ℕ) → Nowhere P → Lowest P p → ⊥
not_lowest P p n l = n p l.small l.here

told_once : (nodes : List (Option Node)) (x y : flaws.Flaw) → Told nodes (Some x) → Told nodes (Some y) → x ≡ y
told_once nodes (Late p) (Late q) a b = ap Late (lowest_once _ p q a b)
told_once nodes (Late p) (Loop q) a b = absurd (not_lowest _ p b.0 a)
told_once nodes (Late p) (Listing q) a b = absurd (not_lowest _ p b.0 a)
told_once nodes (Loop p) (Late q) a b = absurd (not_lowest _ q a.0 b)
told_once nodes (Loop p) (Loop q) a b = ap Loop (lowest_once _ p q a.1 b.1)
told_once nodes (Loop p) (Listing q) a b = absurd (not_lowest _ p b.1 a.1)
told_once nodes (Listing p) (Late q) a b = absurd (not_lowest _ q a.0 b)
told_once nodes (Listing p) (Loop q) a b = absurd (not_lowest _ q a.1 b.1)
told_once nodes (Listing p) (Listing q) a b = ap Listing (lowest_once _ p q a.2 b.2)

flawless_once : (nodes : List (Option Node)) (x : flaws.Flaw) → Told nodes (Some x) → Flawless nodes → ⊥
flawless_once nodes (Late p) a f = not_lowest _ p f.late a
flawless_once nodes (Loop p) a f = not_lowest _ p f.loop a.1
flawless_once nodes (Listing p) a f = not_lowest _ p f.listing a.2

module _ (old new : List (Option Node)) where
  refused_once : (f g : Fault) → RefusedNodes old new f → RefusedNodes old new g → f ≡ g
  refused_once (Words x) g a b = absurd a
  refused_once (Taken p) (Words y) a b = absurd b
  refused_once (Taken p) (Taken q) a b = ap Taken (lowest_once _ p q a b)
  refused_once (Taken p) (Flaw y) a b = absurd (not_lowest _ p b.0 a)
  refused_once (Flaw x) (Words y) a b = absurd b
  refused_once (Flaw x) (Taken q) a b = absurd (not_lowest _ q a.0 b)
  refused_once (Flaw x) (Flaw y) a b = ap Flaw (told_once _ x y a.1 b.1)

  welcome_once : (f : Fault) → RefusedNodes old new f → Welcome old new → ⊥
  welcome_once (Words x) a w = a
  welcome_once (Taken p) a w = not_lowest _ p w.apart a
  welcome_once (Flaw x) a w = flawless_once _ x a.1 w.flawless

-- every load in one form: a fault of the words, or the image and what is told of its nodes
pub data Seen (before : Table) (ws : List ℕ) (answer : Result ℕ Fault) (after : Table) : Type 0 where
  bad : (f : words.Fault) → answer ≡ Err (Words f) → read_image ws ≡ Err f → after ≡ before → Seen before ws answer after
  no_place : (f : Fault) (image : Image) → answer ≡ Err f → read_image ws ≡ Ok image → RefusedNodes before.nodes image.places f → after ≡ before → Seen before ws answer after
  fine : (image : Image) → answer ≡ Ok image.nodes → read_image ws ≡ Ok image → Welcome before.nodes image.places → after ≡ loaded before image.places → Seen before ws answer after

seen : (before : Table) (ws : List ℕ) (answer : Result ℕ Fault) (after : Table) → Loads before ws answer after → Seen before ws answer after
seen before ws (Err (Words f)) after l = bad f refl l.0 l.1
seen before ws (Err (Taken p)) after l = no_place (Taken p) l.0 refl l.1 l.2 l.3
seen before ws (Err (Flaw x)) after l = no_place (Flaw x) l.0 refl l.1 l.2 l.3
seen before ws (Ok n) after l = fine l.0 (ap Ok l.3) l.1 l.2 l.4

refuted : {A : Type 0} {B : Type 0} {C : Type 0} (e : B) (y : A) (r : Result A B) → r ≡ Err e → r ≡ Ok y → C
refuted e y r a b = let z : ◌≡◌ {A = ℕ} 0 1 = cc in absurd (omega arith)

module _ (before : Table) (ws : List ℕ) (r s : Result ℕ Fault) (t u : Table) where
  both : Seen before ws r t → Seen before ws s u → (r ≡ s) × (t ≡ u)
  both (bad f a b c) (bad g x y z) = (cc, cc)
  both (bad f a b c) (no_place g image x y n z) = refuted f image (read_image ws) b y
  both (bad f a b c) (fine image x y w z) = refuted f image (read_image ws) b y
  both (no_place f image a b n c) (bad g x y z) = refuted g image (read_image ws) y b
  both (no_place f image a b n c) (no_place g other x y m z) =
      let same : image ≡ other = cc in
      let fault : f ≡ g = refused_once before.nodes other.places f g (subst (λ (i : Image). RefusedNodes before.nodes i.places f) same n) m in
      (a ∙ ap Err fault ∙ sym x, c ∙ sym z)
  both (no_place f image a b n c) (fine other x y w z) =
      let same : image ≡ other = cc in
      absurd (welcome_once before.nodes other.places f (subst (λ (i : Image). RefusedNodes before.nodes i.places f) same n) w)
  both (fine image a b w c) (bad g x y z) = refuted g image (read_image ws) y b
  both (fine image a b w c) (no_place g other x y m z) =
      let same : image ≡ other = cc in
      absurd (welcome_once before.nodes image.places g (subst (λ (i : Image). RefusedNodes before.nodes i.places g) (sym same) m) w)
  both (fine image a b w c) (fine other x y v z) =
      let same : image ≡ other = cc in
      (a ∙ ap (λ (i : Image). Ok i.nodes) same ∙ sym x, c ∙ ap (λ (i : Image). loaded before i.places) same ∙ sym z)

pub loads_once : (before : Table) (ws : List ℕ) (r s : Result ℕ Fault) (t u : Table) → Loads before ws r t → Loads before ws s u → (r ≡ s) × (t ≡ u)
loads_once before ws r s t u a b = both before ws r s t u (seen before ws r t a) (seen before ws s u b)
