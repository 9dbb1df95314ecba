-- A block that a lasting order changes lists the same exits, is allowed, and makes no flaw.
use Rattle.std.proofs.Common.{◌≡◌, ℕ, zero, suc, Bool, true, false, cond, not, ◌||◌, List, Some, None, Option, sym, refl, ap, ◌∙◌, subst, ⊎_elim}
use Rattle.std.proofs.lemmas.Bool.{both_ways, cond_both, or_cases, or_from, false≢true}
use Rattle.words.specs.declared.node.Alternatives.{Alternatives}
use Rattle.words.specs.declared.node.Alternatives.TheVariants as ways
use Rattle.words.specs.declared.node.Body.{Body}
use Rattle.words.specs.declared.node.Body.TheVariants.{Message, Block, Flow}
use Rattle.words.specs.declared.node.Entry.{Entry}
use Rattle.words.specs.declared.node.Entry.TheVariants as entry
use Rattle.words.specs.declared.node.Exit.{Exit}
use Rattle.words.specs.declared.node.Node.{Node}
use Rattle.words.specs.Exits.{same}
use Rattle.words.specs.Format.{AllowedExit}
use Rattle.image.specs.Nodes.{AllowedAlternatives, AllowedBody, AllowedNode}
use Rattle.image.proofs.Said.{same_true}
use Rattle.structure.specs.Nodes.{node_at, onward, among, body_lists}
use Rattle.structure.specs.Structure.{outruns, body_late, node_late, misses, body_unlisted, node_unlisted, ComesOut}
use Rattle.structure.specs.Flaws.{Flawless}
use Rattle.table.specs.Changes.{exchanged, turned}
use Rattle.calls.specs.Refusals.{may_wait}

-- ### nodes that are asked the same questions with the same answers

pub record Alike (a b : Option Node) : Type 0 where
  pub leads : onward a ≡ onward b
  pub outrun : (offset : ℕ) → outruns offset a ≡ outruns offset b
  pub missing : (e : Exit) → misses a e ≡ misses b e
  pub lateness : (nodes : List (Option Node)) → node_late nodes a ≡ node_late nodes b
  pub listing : (nodes : List (Option Node)) → node_unlisted nodes a ≡ node_unlisted nodes b
  pub waits : (e : Entry) → may_wait a e ≡ may_wait b e

pub alike_self : (a : Option Node) → Alike a a
alike_self a = record { leads = refl; outrun = λ _. refl; missing = λ _. refl; lateness = λ _. refl; listing = λ _. refl; waits = λ _. refl }

module _ (nodes other : List (Option Node)) (alike : (p : ℕ) → Alike (node_at nodes p) (node_at other p)) where
  body_late_same : (b : Body) → body_late other b ≡ body_late nodes b
  body_late_same (Message next offset event) = sym ((alike next).outrun offset)
  body_late_same (Block next period alternatives) = refl
  body_late_same (Flow next offset target order) = sym ((alike next).outrun offset)

  node_late_same : (o : Option Node) → node_late other o ≡ node_late nodes o
  node_late_same None = refl
  node_late_same (Some node) = body_late_same node.body

  body_unlisted_same : (b : Body) → body_unlisted other b ≡ body_unlisted nodes b
  body_unlisted_same (Message next offset event) = refl
  body_unlisted_same (Block next period alternatives) = refl
  body_unlisted_same (Flow next offset target order) = sym ((alike target).missing order.destination)

  node_unlisted_same : (o : Option Node) → node_unlisted other o ≡ node_unlisted nodes o
  node_unlisted_same None = refl
  node_unlisted_same (Some node) = body_unlisted_same node.body

  comes_out_same : (k p : ℕ) → ComesOut nodes k p → ComesOut other k p
  comes_out_same zero p w = sym (alike p).leads ∙ w
  comes_out_same (suc k) p w = (w.0, sym (alike p).leads ∙ w.1, comes_out_same k w.0 w.2)

  pub alike_flawless : Flawless nodes → Flawless other
  alike_flawless f = record {
    late = λ q l y. f.late q l (sym (node_late_same (node_at nodes q)) ∙ (alike q).lateness other ∙ y);
    loop = λ q l e. f.loop q l (λ w. e (w.0, comes_out_same w.0 q w.1));
    listing = λ q l y. f.listing q l (sym (node_unlisted_same (node_at nodes q)) ∙ (alike q).listing other ∙ y);
  }

-- ### the exits of a changed block

second_first : (a b r : Bool) → (a || (b || r)) ≡ (b || (a || r))
second_first true true r = refl
second_first true false r = refl
second_first false b r = refl

swapped : (a b : Bool) → (a || b) ≡ (b || a)
swapped true true = refl
swapped true false = refl
swapped false true = refl
swapped false false = refl

third_first : (a b c r : Bool) → (a || (b || (c || r))) ≡ (c || (b || (a || r)))
third_first true b true r = refl
third_first true true false r = refl
third_first true false false r = refl
third_first false true true r = refl
third_first false false true r = refl
third_first false b false r = refl

ends_swapped : (a b r : Bool) → (a || (b || r)) ≡ (r || (b || a))
ends_swapped true b true = refl
ends_swapped true true false = refl
ends_swapped true false false = refl
ends_swapped false true true = refl
ends_swapped false false true = refl
ends_swapped false b false = refl

or_joined : (a b c : Bool) → (a || (b || c)) ≡ ((a || b) || c)
or_joined true b c = refl
or_joined false b c = refl

fourth_first : (a b c r : Bool) → (a || (b || (c || r))) ≡ (r || (b || (c || a)))
fourth_first a b c r = ap (λ x. a || x) (or_joined b c r) ∙ ends_swapped a (b || c) r ∙ ap (λ x. r || x) (sym (or_joined b c a))

-- the exits d and `new` are those that were next and `old`, and are allowed
record SameExits (next : Exit) (old : Alternatives) (d : Exit) (new : Alternatives) : Type 0 where
  listed : (e : Exit) → (same d e || among new e) ≡ (same next e || among old e)
  first : AllowedExit d
  others : AllowedAlternatives d new

-- where the destination is the next already, nothing moves
unmoved : (x d : Exit) → cond (same x d) d x ≡ x
unmoved x d = cond_both (same x d) d x (λ z. z ≡ x) (λ y. sym (same_true x d y)) (λ n. refl)

exchanged_self : (old : Alternatives) (d : Exit) → exchanged old d d ≡ old
exchanged_self ways.None d = refl
exchanged_self (ways.One x) d = ap ways.One (unmoved x d)
exchanged_self (ways.Two x y) d =
    cond_both (same x d) _ _ (λ a. a ≡ ways.Two x y) (λ e. ap (λ z. ways.Two z y) (sym (same_true x d e))) (λ n. ap (ways.Two x) (unmoved y d))
exchanged_self (ways.Three x y z) d =
    cond_both (same x d) _ _ (λ a. a ≡ ways.Three x y z) (λ e. ap (λ w. ways.Three w y z) (sym (same_true x d e)))
    (λ n. cond_both (same y d) _ _ (λ a. a ≡ ways.Three x y z) (λ e. ap (λ w. ways.Three x w z) (sym (same_true y d e))) (λ n. ap (ways.Three x y) (unmoved z d)))

same_next : (next : Exit) (old : Alternatives) (d : Exit) → AllowedExit next → AllowedAlternatives next old → next ≡ d → SameExits next old d (exchanged old d next)
same_next next old d f a q =
    subst (λ z. SameExits next old z (exchanged old z next)) q
    (subst (SameExits next old next) (sym (exchanged_self old next)) (record { listed = λ e. refl; first = f; others = a }))

module _ (next d : Exit) (f : AllowedExit next) where
  one_exchanged : (x : Exit) → AllowedAlternatives next (ways.One x) → same x d ≡ true → SameExits next (ways.One x) d (exchanged (ways.One x) d next)
  one_exchanged x a h =
      cond_both (same x d) next x (λ z. SameExits next (ways.One x) d (ways.One z))
      (λ e. subst (λ z. SameExits next (ways.One x) z (ways.One next)) (same_true x d e)
      (record { listed = λ e. swapped (same x e) (same next e); first = a.0; others = (f, λ q. a.1 (sym q)) }))
      (λ n. absurd (both_ways (same x d) n h))

  two_exchanged : (x y : Exit) → AllowedAlternatives next (ways.Two x y) → (same x d || same y d) ≡ true → SameExits next (ways.Two x y) d (exchanged (ways.Two x y) d next)
  two_exchanged x y a h =
      cond_both (same x d) _ _ (SameExits next (ways.Two x y) d)
      (λ e. subst (λ z. SameExits next (ways.Two x y) z (ways.Two next y)) (same_true x d e)
      (record {
        listed = λ e. second_first (same x e) (same next e) (same y e);
        first = a.0.0;
        others = ((f, λ q. a.0.1 (sym q)), (a.1.0, a.1.2, a.1.1));
      }))
      (λ n. cond_both (same y d) next y (λ z. SameExits next (ways.Two x y) d (ways.Two x z))
      (λ e. subst (λ z. SameExits next (ways.Two x y) z (ways.Two x next)) (same_true y d e)
      (record {
        listed = λ e. ends_swapped (same y e) (same x e) (same next e);
        first = a.1.0;
        others = ((a.0.0, λ q. a.1.2 (sym q)), (f, (λ q. a.1.1 (sym q)), λ q. a.0.1 (sym q)));
      }))
      (λ m. absurd (both_ways _ (or_from _ _ n m) h)))

  three_exchanged : (x y z : Exit) → AllowedAlternatives next (ways.Three x y z) → (same x d || (same y d || same z d)) ≡ true
      → SameExits next (ways.Three x y z) d (exchanged (ways.Three x y z) d next)
  three_exchanged x y z a h =
      cond_both (same x d) _ _ (SameExits next (ways.Three x y z) d)
      (λ e. subst (λ w. SameExits next (ways.Three x y z) w (ways.Three next y z)) (same_true x d e)
      (record {
        listed = λ e. second_first (same x e) (same next e) (same y e || same z e);
        first = a.0.0;
        others = ((f, λ q. a.0.1 (sym q)), (a.1.0, a.1.2, a.1.1), (a.2.0, a.2.2, a.2.1, a.2.3));
      }))
      (λ n. cond_both (same y d) _ _ (SameExits next (ways.Three x y z) d)
      (λ e. subst (λ w. SameExits next (ways.Three x y z) w (ways.Three x next z)) (same_true y d e)
      (record {
        listed = λ e. third_first (same y e) (same x e) (same next e) (same z e);
        first = a.1.0;
        others = ((a.0.0, λ q. a.1.2 (sym q)), (f, (λ q. a.1.1 (sym q)), λ q. a.0.1 (sym q)), (a.2.0, a.2.3, a.2.2, a.2.1));
      }))
      (λ m. cond_both (same z d) next z (λ w. SameExits next (ways.Three x y z) d (ways.Three x y w))
      (λ e. subst (λ w. SameExits next (ways.Three x y z) w (ways.Three x y next)) (same_true z d e)
      (record {
        listed = λ e. fourth_first (same z e) (same x e) (same y e) (same next e);
        first = a.2.0;
        others = ((a.0.0, λ q. a.2.2 (sym q)), (a.1.0, (λ q. a.2.3 (sym q)), a.1.2), (f, (λ q. a.2.1 (sym q)), (λ q. a.0.1 (sym q)), λ q. a.1.1 (sym q)));
      }))
      (λ k. absurd (both_ways _ (or_from _ _ n (or_from _ _ m k)) h))))

  among_exchanged : (old : Alternatives) → AllowedAlternatives next old → among old d ≡ true → SameExits next old d (exchanged old d next)
  among_exchanged ways.None a h = absurd (false≢true h)
  among_exchanged (ways.One x) a h = one_exchanged x a h
  among_exchanged (ways.Two x y) a h = two_exchanged x y a h
  among_exchanged (ways.Three x y z) a h = three_exchanged x y z a h

  same_exits : (old : Alternatives) → AllowedAlternatives next old → (same next d || among old d) ≡ true → SameExits next old d (exchanged old d next)
  same_exits old a h = ⊎_elim (λ y. same_next next old d f a (same_true next d y)) (among_exchanged old a) (or_cases (same next d) (among old d) h)

-- ### a changed node

abbrev node_of : ℕ → Body → Node
node_of pattern b = record { pattern = pattern; body = b }

pub turned_alike : (pattern : ℕ) (b : Body) (d : Exit) → AllowedBody b → body_lists b d ≡ true → Alike (Some (node_of pattern b)) (Some (turned (node_of pattern b) d))
turned_alike pattern (Message next offset event) d a h = absurd (false≢true h)
turned_alike pattern (Flow next offset target order) d a h = absurd (false≢true h)
turned_alike pattern (Block next period old) d a h =
    let s = same_exits next d a.0 old a.2 h in
    record {
      leads = refl;
      outrun = λ _. refl;
      missing = λ e. ap not (sym (s.listed e));
      lateness = λ _. refl;
      listing = λ _. refl;
      waits = λ e. elim e as (λ e. may_wait (Some (node_of pattern (Block next period old))) e ≡ may_wait (Some (turned (node_of pattern (Block next period old)) d)) e)
          [ entry.Pass pass ↦ refl | entry.Order order ↦ sym (s.listed order.destination) ];
    }

pub turned_allowed : (pattern : ℕ) (b : Body) (d : Exit) → AllowedNode (node_of pattern b) → body_lists b d ≡ true → AllowedNode (turned (node_of pattern b) d)
turned_allowed pattern (Message next offset event) d a h = a
turned_allowed pattern (Flow next offset target order) d a h = a
turned_allowed pattern (Block next period old) d a h =
    let s = same_exits next d a.1.0 old a.1.2 h in
    (a.0, (s.first, a.1.1, s.others))

-- every exit that an allowed node lists is allowed
pub listed_allowed : (b : Body) (d : Exit) → AllowedBody b → body_lists b d ≡ true → AllowedExit d
listed_allowed (Message next offset event) d a h = absurd (false≢true h)
listed_allowed (Flow next offset target order) d a h = absurd (false≢true h)
listed_allowed (Block next period old) d a h = (same_exits next d a.0 old a.2 h).first
