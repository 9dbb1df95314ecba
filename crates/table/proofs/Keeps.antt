-- What keeps a table sound.
use Rattle.std.proofs.Common.{◌≡◌, ℕ, zero, suc, Bool, true, false, ◌&&◌, ◌⊎◌, List, [], ◌∷◌, length, replicate, is_some, Some, None, Ok, Err, Option, Result, sym, refl, ap, ◌∙◌, subst, inl, inr, arith}
use Rattle.std.specs.List.{AllByRecursion}
use Rattle.words.specs.declared.node.Node.{Node}
use Rattle.image.specs.declared.places.TooShort.{TooShort}
use Rattle.image.specs.Laws.{ReadsBack}
use Rattle.image.proofs.Run.{only_accepted}
use Rattle.image.specs.Nodes.{Proper, AllowedPlace, image_words, live}
use Rattle.each.specs.Each.{zipped}
use Rattle.structure.specs.Nodes.{node_at, onward}
use Rattle.structure.specs.Structure.{node_late, node_unlisted}
use Rattle.structure.specs.Lowest.{Nowhere, Yes}
use Rattle.structure.specs.Flaws.{Flawless}
use Rattle.structure.proofs.Thinner.{Thinner, thinner_flawless}
use Rattle.table.specs.declared.state.Table.{Table}
use Rattle.table.specs.declared.fault.Fault.{Fault}
use Rattle.table.specs.declared.fault.Fault.TheVariants.{Words, Taken, Flaw}
use Rattle.table.specs.Tables.{cleared, taken, over, merged, without, marked, emptied}
use Rattle.table.specs.Loading.{Loads}
use Rattle.table.specs.Laws.{Sound, WrittenBack, LoadsBack}

-- ### a cleared table

none_at : (n p : ℕ) → node_at (replicate n None) p ≡ None
none_at zero p = refl
none_at (suc n) zero = refl
none_at (suc n) (suc p) = none_at n p

none_allowed : (n : ℕ) → AllByRecursion AllowedPlace (replicate n None)
none_allowed zero = tt
none_allowed (suc n) = (tt, none_allowed n)

false_true : {B : Type 0} → ◌≡◌ {A = Bool} false true → B
false_true e = absurd (subst (λ b. elim b as (λ _. Type 0) [ true ↦ ⊥ | false ↦ Unit {0} ]) e tt)

abbrev nothing : List (Option Node)
nothing = replicate 512 None

pub cleared_sound : Sound cleared
cleared_sound = record {
  proper = record { count = refl; each = none_allowed 512 };
  flawless = record {
    late = λ q l y. false_true (ap (node_late nothing) (sym (none_at 512 q)) ∙ y);
    loop = λ q l e. e (0, ap onward (none_at 512 q));
    listing = λ q l y. false_true (ap (node_unlisted nothing) (sym (none_at 512 q)) ∙ y);
  };
}

-- ### loading

over_allowed : (old new : Option Node) → AllowedPlace old → AllowedPlace new → AllowedPlace (over old new)
over_allowed old None a b = a
over_allowed old (Some node) a b = b

pub zipped_long : {X Y : Type 0} (f : X → Y → X) (xs : List X) (ys : List Y) → length (zipped f xs ys) ≡ length xs
zipped_long f [] ys = refl
zipped_long f (x ∷ xs) [] = refl
zipped_long f (x ∷ xs) (y ∷ ys) = ap suc (zipped_long f xs ys)

merged_allowed : (old new : List (Option Node)) → AllByRecursion AllowedPlace old → AllByRecursion AllowedPlace new → AllByRecursion AllowedPlace (merged old new)
merged_allowed [] new a b = tt
merged_allowed (x ∷ old) [] a b = a
merged_allowed (x ∷ old) (y ∷ new) a b = (over_allowed x y a.0 b.0, merged_allowed old new a.1 b.1)

pub merged_proper : (old new : List (Option Node)) → Proper old → Proper new → Proper (merged old new)
merged_proper old new a b = record { count = zipped_long over old new ∙ a.count; each = merged_allowed old new a.each b.each }

-- ### emptying

without_cases : (x : Option Node) (mark : Bool) → (without x mark ≡ None) ⊎ (without x mark ≡ x)
without_cases x true = inl refl
without_cases x false = inr refl

pub without_thinner : (nodes : List (Option Node)) (marks : List Bool) → Thinner nodes (zipped without nodes marks)
without_thinner [] marks p = inl refl
without_thinner (x ∷ nodes) [] p = inr refl
without_thinner (x ∷ nodes) (m ∷ marks) zero = without_cases x m
without_thinner (x ∷ nodes) (m ∷ marks) (suc p) = without_thinner nodes marks p

without_allowed : (nodes : List (Option Node)) (marks : List Bool) → AllByRecursion AllowedPlace nodes → AllByRecursion AllowedPlace (zipped without nodes marks)
without_allowed [] marks a = tt
without_allowed (x ∷ nodes) [] a = a
without_allowed (x ∷ nodes) (true ∷ marks) a = (tt, without_allowed nodes marks a.1)
without_allowed (x ∷ nodes) (false ∷ marks) a = (a.0, without_allowed nodes marks a.1)

pub emptied_sound : (t : Table) (pattern : ℕ) → Sound t → Sound (emptied t pattern)
emptied_sound t pattern s =
    let marks = marked pattern t.nodes in
    record {
      proper = record { count = zipped_long without t.nodes marks ∙ s.proper.count; each = without_allowed t.nodes marks s.proper.each };
      flawless = thinner_flawless t.nodes (zipped without t.nodes marks) (without_thinner t.nodes marks) s.flawless;
    }

-- ### what a load leaves

pub loads_sound : (before : Table) (ws : List ℕ) (answer : Result ℕ Fault) (after : Table) → Loads before ws answer after → Sound before → Sound after
loads_sound before ws (Err (Words f)) after l s = subst Sound (sym l.1) s
loads_sound before ws (Err (Taken p)) after l s = subst Sound (sym l.3) s
loads_sound before ws (Err (Flaw x)) after l s = subst Sound (sym l.3) s
loads_sound before ws (Ok n) after l s =
    let accepted = only_accepted ws l.0 l.1 in
    subst Sound (sym l.4) (record { proper = merged_proper before.nodes l.0.places s.proper accepted.proper; flawless = l.2.flawless })

-- ### the nodes of a table that was cleared are those of the image

over_none : (new : Option Node) → over None new ≡ new
over_none None = refl
over_none (Some node) = refl

pub merged_nothing : (new : List (Option Node)) → merged (replicate (length new) None) new ≡ new
merged_nothing [] = refl
merged_nothing (x ∷ new) = ap (λ y. y ∷ merged (replicate (length new) None) new) (over_none x) ∙ ap (λ l. x ∷ l) (merged_nothing new)

pub merged_cleared : (new : List (Option Node)) → length new ≡ 512 → merged cleared.nodes new ≡ new
merged_cleared new e = ap (λ n. merged (replicate n None) new) (sym e) ∙ merged_nothing new

refused : {A B : Type 0} (e : B) (y : A) → ◌≡◌ {A = Result A B} (Err e) (Ok y) → ⊥
refused e y h = let z : ◌≡◌ {A = ℕ} 0 1 = cc in omega arith

pub loads_written : (before : Table) (ws : List ℕ) (answer : Result ℕ Fault) (after : Table) → Loads before ws answer after → WrittenBack before ws answer after
loads_written before ws (Err f) after l c n e = absurd (refused f n e)
loads_written before ws (Ok m) after l c n e =
    let accepted = only_accepted ws l.0 l.1 in
    let nodes : after.nodes ≡ l.0.places =
    ap (λ (t : Table). t.nodes) l.4 ∙ ap (λ (t : Table). merged t.nodes l.0.places) c ∙ merged_cleared l.0.places accepted.proper.count in
    ap image_words nodes ∙ sym accepted.words

-- ### what is written loads

free : (new : List (Option Node)) → Nowhere (Yes (taken cleared.nodes new))
free new q l y = false_true (sym (ap (λ o. is_some o && is_some (node_at new q)) (none_at 512 q)) ∙ y)

pub writes_loaded : (t : Table) (answer : Result ℕ TooShort) (out : List ℕ) → ReadsBack t.nodes answer out → LoadsBack t answer out
writes_loaded t answer out back s n e =
    let same = merged_cleared t.nodes s.proper.count in
    ((record { places = t.nodes; nodes = live t.nodes }, back s.proper n e, record { apart = free t.nodes; flawless = subst Flawless (sym same) s.flawless }, refl, refl), same)
