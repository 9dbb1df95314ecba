-- The words after a head are read exactly as what they are written from.
use Rattle.std.proofs.Common.{◌≡◌, ℕ, ◌+◌, ◌≤◌, false, List, [], ◌∷◌, ◌++◌, length, Ok, sym, refl, ap, ◌∙◌, subst, ⊎_elim, arith, length-append}
use Rattle.std.proofs.lemmas.Bool.{or_parts, or_from}
use Rattle.std.specs.List.{AllByRecursion}
use Rattle.words.specs.declared.node.Exit.{Exit}
use Rattle.words.specs.declared.node.Exit.TheVariants as exit
use Rattle.words.specs.declared.node.Alternatives.{Alternatives}
use Rattle.words.specs.declared.node.Alternatives.TheVariants as ways
use Rattle.words.specs.declared.node.Body.{Body}
use Rattle.words.specs.declared.node.Body.TheVariants as body
use Rattle.words.specs.declared.word.Kind.{Kind}
use Rattle.words.specs.declared.word.Kind.TheVariants as kinds
use Rattle.words.specs.declared.word.Word.TheVariants as word
use Rattle.words.specs.Format.{written, AllowedExit}
use Rattle.words.specs.Exits.{same}
use Rattle.image.specs.Nodes.{kind_of, body_words, alternative_words, Differ, AllowedBody, AllowedAlternatives}
use Rattle.image.specs.Reading.{place_of, exit_of, time_of, period_of, event_of, target_of, order_of, alternative_of, body_of, body_size, alternatives_size}
use Rattle.image.proofs.Said.{exit_is, place_is, time_is, period_is, event_is, target_is, order_is, alternative_is, exit_back, place_back, time_back, period_back, event_back, target_back, order_back, alternative_back, same_false, differ_same}
use Rattle.image.proofs.Wants.{wants_ok, wants_some, may_ok, may_none, may_some, Closed}
use Rattle.image.proofs.Bodies.{message, message_offset, event_wanted, flow, flow_offset, target_wanted, order_wanted, block, period_wanted, used, first, second, third, reader, body_link}

-- ### what is read was written

-- ws begins with the words of b, which is allowed and of that kind
pub record Read (kind : Kind) (ws : List ℕ) (b : Body) : Type 0 where
  pub rest : List ℕ
  pub words : ws ≡ body_words b ++ rest
  pub allowed : AllowedBody b
  pub sort : kind_of b ≡ kind

message_read : (ws : List ℕ) (at : ℕ) (b : Body) → message ws at ≡ Ok b → Read kinds.Message ws b
message_read ws at b h =
    let p = wants_ok place_of _ ws at b h in
    let q = wants_ok time_of _ p.1 (at + 1) b p.5 in
    let r = wants_ok event_of _ q.1 (at + 1 + 1) b q.5 in
    let n = place_is p.0 p.2 p.4 in
    let t = time_is q.0 q.2 q.4 in
    let e = event_is r.0 r.2 r.4 in
    let is : body.Message p.2 q.2 r.2 ≡ b = cc r.5 in
    let one = p.3 in let two = q.3 in let three = r.3 in
    let a = n.0 in let b = t.0 in let c = e.0 in
    subst (Read kinds.Message ws) is (record { rest = r.1; words = cc; allowed = (n.1, t.1, e.1); sort = refl })

flow_read : (ws : List ℕ) (at : ℕ) (b : Body) → flow ws at ≡ Ok b → Read kinds.Flow ws b
flow_read ws at b h =
    let p = wants_ok place_of _ ws at b h in
    let q = wants_ok time_of _ p.1 (at + 1) b p.5 in
    let r = wants_ok target_of _ q.1 (at + 1 + 1) b q.5 in
    let s = wants_ok order_of _ r.1 (at + 1 + 1 + 1) b r.5 in
    let n = place_is p.0 p.2 p.4 in
    let t = time_is q.0 q.2 q.4 in
    let g = target_is r.0 r.2 r.4 in
    let o = order_is s.0 s.2 s.4 in
    let is : body.Flow p.2 q.2 r.2 s.2 ≡ b = cc s.5 in
    let one = p.3 in let two = q.3 in let three = r.3 in let four = s.3 in
    let a = n.0 in let b = t.0 in let c = g.0 in let d = o.0 in
    subst (Read kinds.Flow ws) is (record { rest = s.1; words = cc; allowed = (n.1, t.1, g.1, o.1); sort = refl })

unused : (known : List Exit) (x : Exit) → used known x ≡ false → AllByRecursion (Differ x) known
unused [] x h = tt
unused (other ∷ known) x h = let p = or_parts (same x other) _ h in (same_false x other p.0, unused known x p.1)

-- the alternatives at the front of ws, after those that were read before
module _ (n : Exit) (t : ℕ) where
  third_read : (x y : Exit) (ws : List ℕ) (at : ℕ) (b : Body) → third n t x y ws at ≡ Ok b → (a : Alternatives) × (vs rest : List ℕ) × (body.Block n t a ≡ b) × (ws ≡ vs ++ rest)
      × (alternative_words a ≡ written (word.Alternative x) ∷ written (word.Alternative y) ∷ vs)
      × ((AllowedExit x × Differ x n) → (AllowedExit y × Differ y n × Differ y x) → AllowedAlternatives n a)
  third_read x y ws at b h = ⊎_elim
      (λ is. (ways.Two x y, [], ws, is, refl, refl, λ p q. (p, q)))
      (λ r.
      let z = alternative_is r.0 r.2 r.4 in
      let u = unused (n ∷ x ∷ y ∷ []) r.2 r.5 in
      let three = r.3 in let c = z.0 in
      (ways.Three x y r.2, written (word.Alternative r.2) ∷ [], r.1, cc r.6, cc, refl, λ p q. (p, q, (z.1, u.0, u.1.0, u.1.1.0))))
      (may_ok alternative_of (used (n ∷ x ∷ y ∷ [])) _ (body.Block n t (ways.Two x y)) ws at b h)

  second_read : (x : Exit) (ws : List ℕ) (at : ℕ) (b : Body) → second n t x ws at ≡ Ok b → (a : Alternatives) × (vs rest : List ℕ) × (body.Block n t a ≡ b) × (ws ≡ vs ++ rest)
      × (alternative_words a ≡ written (word.Alternative x) ∷ vs)
      × ((AllowedExit x × Differ x n) → AllowedAlternatives n a)
  second_read x ws at b h = ⊎_elim
      (λ is. (ways.One x, [], ws, is, refl, refl, λ p. p))
      (λ r.
      let y = alternative_is r.0 r.2 r.4 in
      let u = unused (n ∷ x ∷ []) r.2 r.5 in
      let more = third_read x r.2 r.1 (at + 1) b r.6 in
      let two = r.3 in let c = y.0 in let then = more.4 in let is = more.5 in
      (more.0, written (word.Alternative r.2) ∷ more.1, more.2, more.3, cc, is, λ p. more.6 p (y.1, u.0, u.1.0)))
      (may_ok alternative_of (used (n ∷ x ∷ [])) _ (body.Block n t (ways.One x)) ws at b h)

  first_read : (ws : List ℕ) (at : ℕ) (b : Body) → first n t ws at ≡ Ok b
      → (a : Alternatives) × (rest : List ℕ) × (body.Block n t a ≡ b) × (ws ≡ alternative_words a ++ rest) × AllowedAlternatives n a
  first_read ws at b h = ⊎_elim
      (λ is. (ways.None, ws, is, refl, tt))
      (λ r.
      let x = alternative_is r.0 r.2 r.4 in
      let u = unused (n ∷ []) r.2 r.5 in
      let more = second_read r.2 r.1 (at + 1) b r.6 in
      let one = r.3 in let c = x.0 in let then = more.4 in let is = more.5 in
      (more.0, more.2, more.3, cc, more.6 (x.1, u.0)))
      (may_ok alternative_of (used (n ∷ [])) _ (body.Block n t ways.None) ws at b h)

block_read : (ws : List ℕ) (at : ℕ) (b : Body) → block ws at ≡ Ok b → Read kinds.Block ws b
block_read ws at b h =
    let p = wants_ok exit_of _ ws at b h in
    let q = wants_ok period_of _ p.1 (at + 1) b p.5 in
    let r = first_read p.2 q.2 q.1 (at + 1 + 1) b q.5 in
    let n = exit_is p.0 p.2 p.4 in
    let t = period_is q.0 q.2 q.4 in
    let one = p.3 in let two = q.3 in let rest = r.3 in
    let a = n.0 in let c = t.0.0 in
    subst (Read kinds.Block ws) r.2 (record { rest = r.1; words = cc; allowed = (n.1, (t.1, t.0.1), r.4); sort = refl })

reader_read : (kind : Kind) (ws : List ℕ) (at : ℕ) (b : Body) → reader kind ws at ≡ Ok b → Read kind ws b
reader_read kinds.Message = message_read
reader_read kinds.Block = block_read
reader_read kinds.Flow = flow_read

pub body_read : (kind : Kind) (ws : List ℕ) (at : ℕ) (b : Body) → body_of kind ws at ≡ Ok b → Read kind ws b
body_read kind ws at b h = reader_read kind ws at b (sym (body_link kind ws at) ∙ h)

-- ### what is written is read

unlike : (known : List Exit) (x : Exit) → AllByRecursion (Differ x) known → used known x ≡ false
unlike [] x h = refl
unlike (other ∷ known) x h = or_from (same x other) _ (differ_same x other h.0) (unlike known x h.1)

module _ (n : Exit) (t : ℕ) (rest : List ℕ) (at : ℕ) (closed : Closed alternative_of rest) where
  first_back : (a : Alternatives) → AllowedAlternatives n a → first n t (alternative_words a ++ rest) at ≡ Ok (body.Block n t a)
  first_back ways.None h = may_none alternative_of (used (n ∷ [])) _ (body.Block n t ways.None) rest at closed
  first_back (ways.One x) h =
      may_some alternative_of (used (n ∷ [])) _ _ (written (word.Alternative x)) rest at x (alternative_back x h.0) (unlike (n ∷ []) x (h.1, tt))
      ∙ may_none alternative_of (used (n ∷ x ∷ [])) _ (body.Block n t (ways.One x)) rest (at + 1) closed
  first_back (ways.Two x y) h =
      may_some alternative_of (used (n ∷ [])) _ _ (written (word.Alternative x)) _ at x (alternative_back x h.0.0) (unlike (n ∷ []) x (h.0.1, tt))
      ∙ may_some alternative_of (used (n ∷ x ∷ [])) _ _ (written (word.Alternative y)) rest (at + 1) y (alternative_back y h.1.0) (unlike (n ∷ x ∷ []) y (h.1.1, (h.1.2, tt)))
      ∙ may_none alternative_of (used (n ∷ x ∷ y ∷ [])) _ (body.Block n t (ways.Two x y)) rest (at + 1 + 1) closed
  first_back (ways.Three x y z) h =
      may_some alternative_of (used (n ∷ [])) _ _ (written (word.Alternative x)) _ at x (alternative_back x h.0.0) (unlike (n ∷ []) x (h.0.1, tt))
      ∙ may_some alternative_of (used (n ∷ x ∷ [])) _ _ (written (word.Alternative y)) _ (at + 1) y (alternative_back y h.1.0) (unlike (n ∷ x ∷ []) y (h.1.1, (h.1.2, tt)))
      ∙ may_some alternative_of (used (n ∷ x ∷ y ∷ [])) _ (body.Block n t (ways.Two x y)) (written (word.Alternative z)) rest (at + 1 + 1) z (alternative_back z h.2.0) (unlike (n ∷ x ∷ y ∷ []) z (h.2.1, (h.2.2, (h.2.3, tt))))

reader_back : (b : Body) (rest : List ℕ) (at : ℕ) → AllowedBody b → Closed alternative_of rest → reader (kind_of b) (body_words b ++ rest) at ≡ Ok b
reader_back (body.Message n t e) rest at h c =
    wants_some place_of message_offset (written (word.Next (exit.Place n))) (written (word.Time t) ∷ written (word.Event e) ∷ rest) at n (place_back n h.0)
    ∙ wants_some time_of (event_wanted n) (written (word.Time t)) (written (word.Event e) ∷ rest) (at + 1) t (time_back t h.1)
    ∙ wants_some event_of (λ e ws at. Ok (body.Message n t e)) (written (word.Event e)) rest (at + 1 + 1) e (event_back e h.2)
reader_back (body.Block n t a) rest at h c =
    wants_some exit_of period_wanted (written (word.Next n)) (written (word.Time t) ∷ alternative_words a ++ rest) at n (exit_back n h.0)
    ∙ wants_some period_of (first n) (written (word.Time t)) (alternative_words a ++ rest) (at + 1) t (period_back t h.1.0 h.1.1)
    ∙ first_back n t rest (at + 1 + 1) c a h.2
reader_back (body.Flow n t g o) rest at h c =
    wants_some place_of flow_offset (written (word.Next (exit.Place n))) (written (word.Time t) ∷ written (word.Target g) ∷ written (word.Order o) ∷ rest) at n (place_back n h.0)
    ∙ wants_some time_of (target_wanted n) (written (word.Time t)) (written (word.Target g) ∷ written (word.Order o) ∷ rest) (at + 1) t (time_back t h.1)
    ∙ wants_some target_of (order_wanted n t) (written (word.Target g)) (written (word.Order o) ∷ rest) (at + 1 + 1) g (target_back g h.2)
    ∙ wants_some order_of (λ o ws at. Ok (body.Flow n t g o)) (written (word.Order o)) rest (at + 1 + 1 + 1) o (order_back o h.3)

pub body_back : (b : Body) (rest : List ℕ) (at : ℕ) → AllowedBody b → Closed alternative_of rest → body_of (kind_of b) (body_words b ++ rest) at ≡ Ok b
body_back b rest at h c = body_link (kind_of b) (body_words b ++ rest) at ∙ reader_back b rest at h c

-- ### how many words that are

alternatives_long : (a : Alternatives) → length (alternative_words a) ≡ alternatives_size a
alternatives_long ways.None = refl
alternatives_long (ways.One x) = refl
alternatives_long (ways.Two x y) = refl
alternatives_long (ways.Three x y z) = refl

pub body_long : (b : Body) → length (body_words b) ≡ body_size b
body_long (body.Message n t e) = refl
body_long (body.Block n t a) = omega (arith, alternatives_long a)
body_long (body.Flow n t g o) = refl

alternatives_short : (a : Alternatives) → alternatives_size a ≤ 3
alternatives_short ways.None = omega arith
alternatives_short (ways.One x) = omega arith
alternatives_short (ways.Two x y) = omega arith
alternatives_short (ways.Three x y z) = omega arith

pub body_short : (b : Body) → body_size b ≤ 5
body_short (body.Message n t e) = omega arith
body_short (body.Block n t a) = omega (arith, alternatives_short a)
body_short (body.Flow n t g o) = omega arith

-- the words of a body that is read are there
pub body_fits : (kind : Kind) (ws : List ℕ) (at : ℕ) (b : Body) → body_of kind ws at ≡ Ok b → body_size b ≤ length ws
body_fits kind ws at b h =
    let r = body_read kind ws at b h in
    let long : length ws ≡ body_size b + length r.rest = ap length r.words ∙ length-append (body_words b) r.rest ∙ ap (λ n. n + length r.rest) (body_long b) in
    omega arith
