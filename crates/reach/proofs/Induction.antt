-- Lawful chains grow by one line and begin with lawful ones, so what is in reach is the smallest set that is closed under the four grounds.
use Rattle.std.proofs.Common.{◌≡◌, ℕ, zero, suc, ◌+◌, ◌<◌, ◌≤◌, ◌⊎◌, List, [], ◌∷◌, ◌++◌, length, take, sym, refl, ap, ◌∙◌, subst, inl, inr, arith}
use Rattle.std.proofs.lemmas.List.{get_or_append_left, get_or_push, length_push, get_or-take, length-take-le}
use Rattle.std.proofs.lemmas.Bool.{cases_lt, cases_eq}
use Rattle.reach.specs.declared.line.Letter.{Letter}
use Rattle.reach.specs.declared.line.Letter.TheVariants as letter
use Rattle.reach.specs.declared.line.Line.{Line}
use Rattle.reach.specs.Scenes.{Scene, Gives, Backed}
use Rattle.reach.specs.Chains.{line_at, Among, Right, Lawful, InReach, Ends}
use Rattle.reach.specs.Laws.{Closed}

abbrev no_line : Line
no_line = record { place = 0; letter = letter.Lane; first = 0; second = 0 }

-- ### the places of a chain

pub among_more : (c : List Line) (m n p : ℕ) → m ≤ n → Among c m p → Among c n p
among_more c m n p h a = (a.0, omega (arith, a.1), a.2)

pub among_front : (c d : List Line) (n p : ℕ) → n ≤ length c → Among c n p → Among (c ++ d) n p
among_front c d n p h a =
    let lt : a.0 < length c = omega (arith, a.1) in
    (a.0, a.1, ap (λ l. l.place) (get_or_append_left c d no_line a.0 lt) ∙ a.2)

pub among_push : (c : List Line) (l : Line) (p : ℕ) → Among c (length c) p → Among (c ++ (l ∷ [])) (length (c ++ (l ∷ []))) p
among_push c l p a = among_more _ (length c) _ p (omega (arith, length_push c l)) (among_front c (l ∷ []) (length c) p (omega arith) a)

pub among_last : (c : List Line) (l : Line) → Among (c ++ (l ∷ [])) (length (c ++ (l ∷ []))) l.place
among_last c l = (length c, omega (arith, length_push c l), ap (λ x. x.place) (get_or_push c l no_line (length c) refl))

-- a place on the first n + 1 lines is on the first n, or on the line n
pub among_suc : (c : List Line) (n p : ℕ) → Among c (suc n) p → Among c n p ⊎ ((line_at c n).place ≡ p)
among_suc c n p a =
    elim (cases_lt a.0 n) [
      | inl lt ↦ inl (a.0, lt, a.2)
      | inr ge ↦ let e : a.0 ≡ n = omega (arith, a.1) in inr (subst (λ j. (line_at c j).place ≡ p) e a.2)
    ]

pub among_dec : (c : List Line) (n p : ℕ) → Among c n p ⊎ (Among c n p → ⊥)
among_dec c zero p = inr (λ a. omega (arith, a.1))
among_dec c (suc n) p =
    elim (cases_eq (line_at c n).place p) [
      | inl e ↦ inl (n, omega arith, e)
      | inr ne ↦
          elim (among_dec c n p) [
            | inl a ↦ inl (among_more c n (suc n) p (omega arith) a)
            | inr none ↦ inr (λ a. elim (among_suc c n p a) [ inl b ↦ none b | inr e ↦ ne e ])
          ]
    ]

-- what holds of each line of c and of l holds of each line of c with l at its end
pub at_push : (P : ℕ → Line → Type 0) (c : List Line) (l : Line) → ((i : ℕ) → i < length c → P i (line_at c i)) → P (length c) l
    → (i : ℕ) → i < length (c ++ (l ∷ [])) → P i (line_at (c ++ (l ∷ [])) i)
at_push P c l f g i h =
    elim (cases_lt i (length c)) [
      | inl lt ↦ subst (P i) (sym (get_or_append_left c (l ∷ []) no_line i lt)) (f i lt)
      | inr ge ↦
          let e : length c ≡ i = omega (arith, length_push c l) in
          subst (P i) (sym (get_or_push c l no_line i e)) (subst (λ j. P j l) e g)
    ]

-- ### grounds

pub backed_weaker : (S U : ℕ → Type 0) → ((p : ℕ) → S p → U p) → (x : Letter) (m n : ℕ) → Backed S x m n → Backed U x m n
backed_weaker S U f letter.Lane m n b = b
backed_weaker S U f letter.Next m n b = f m b
backed_weaker S U f letter.Queue m n b = f m b
backed_weaker S U f letter.Flow m n b = (f m b.0, f n b.1)

module _ (s : Scene) where
  pub right_weaker : (S U : ℕ → Type 0) → ((p : ℕ) → S p → U p) → (l : Line) → Right s S l → Right s U l
  right_weaker S U f l r = (r.0, backed_weaker S U f l.letter l.first l.second r.1)

  -- ### lawful chains

  pub lawful_none : Lawful s []
  lawful_none = record { once = λ i j h k. absurd (omega arith); places = λ i h. absurd (omega arith); right = λ i h. absurd (omega arith) }

  -- one line more, at the end
  pub lawful_push : (c : List Line) (l : Line) → Lawful s c → l.place < 512 → Right s (Among c (length c)) l → (Among c (length c) l.place → ⊥) → Lawful s (c ++ (l ∷ []))
  lawful_push c l law small r new =
      let d : List Line = c ++ (l ∷ []) in
      record {
        once = λ i j lt h e. at_push (λ n x. (m : ℕ) → m < n → (line_at d m).place ≡ x.place → ⊥) c l
            (λ n within m less same. law.once m n less within (sym (ap (λ x. x.place) (get_or_append_left c (l ∷ []) no_line m (omega arith))) ∙ same))
            (λ m less same. new (m, less, sym (ap (λ x. x.place) (get_or_append_left c (l ∷ []) no_line m less)) ∙ same))
            j h i lt e;
        places = at_push (λ i x. x.place < 512) c l law.places small;
        right = at_push (λ i x. Right s (Among d i) x) c l
            (λ i h. right_weaker (Among c i) (Among d i) (λ q. among_front c (l ∷ []) i q (omega arith)) (line_at c i) (law.right i h))
            (right_weaker (Among c (length c)) (Among d (length c)) (λ q. among_front c (l ∷ []) (length c) q (omega arith)) l r);
      }

  -- the first n lines
  pub lawful_front : (c : List Line) (n : ℕ) → n ≤ length c → Lawful s c → Lawful s (take n c)
  lawful_front c n within law =
      let len : length (take n c) ≡ n = length-take-le n c within in
      let same : (i : ℕ) → i < n → line_at (take n c) i ≡ line_at c i = λ i h. get_or-take n c i no_line h in
      record {
        once = λ i j lt h e. let jn : j < n = omega (arith, len) in
            law.once i j lt (omega arith) (sym (ap (λ x. x.place) (same i (omega arith))) ∙ e ∙ ap (λ x. x.place) (same j jn));
        places = λ i h. let lt : i < n = omega (arith, len) in subst (λ x. x.place < 512) (sym (same i lt)) (law.places i (omega arith));
        right = λ i h. let lt : i < n = omega (arith, len) in
            subst (λ x. Right s (Among (take n c) i) x) (sym (same i lt))
            (right_weaker (Among c i) (Among (take n c) i) (λ q a. (a.0, a.1, ap (λ x. x.place) (same a.0 (omega (arith, a.1))) ∙ a.2)) (line_at c i) (law.right i (omega arith)));
      }

  -- one place more, where it has a ground
  add : (x : Letter) (m n p : ℕ) (c : List Line) → Lawful s c → p < 512 → Gives s x m n p → Backed (Among c (length c)) x m n → InReach s p
  add x m n p c law small g b =
      elim (among_dec c (length c) p) [
        | inl old ↦ (c, law, old)
        | inr new ↦
            let l : Line = record { place = p; letter = x; first = m; second = n } in
            (c ++ (l ∷ []), lawful_push c l law small (g, b) new, among_last c l)
      ]

  -- c goes on to a lawful chain that has the places of d too
  pub extend : (c d : List Line) → Lawful s c → Lawful s d → (n : ℕ) → n ≤ length d
      → (e : List Line) × Lawful s e × ((p : ℕ) → Among c (length c) p → Among e (length e) p) × ((p : ℕ) → Among d n p → Among e (length e) p)
  extend c d lc ld zero h = (c, lc, (λ p a. a), (λ p a. absurd (omega (arith, a.1))))
  extend c d lc ld (suc n) h =
      let prev = extend c d lc ld n (omega arith) in
      let e : List Line = prev.0 in
      let l : Line = line_at d n in
      elim (among_dec e (length e) l.place) [
        | inl old ↦ (e, prev.1, prev.2, (λ p a. elim (among_suc d n p a) [ inl b ↦ prev.3 p b | inr q ↦ subst (Among e (length e)) q old ]))
        | inr new ↦
            let f : List Line = e ++ (l ∷ []) in (
              f,
              lawful_push e l prev.1 (ld.places n h) (right_weaker (Among d n) (Among e (length e)) prev.3 l (ld.right n h)) new,
              (λ p a. among_push e l p (prev.2 p a)),
              (λ p a. elim (among_suc d n p a) [ inl b ↦ among_push e l p (prev.3 p b) | inr q ↦ subst (Among f (length f)) q (among_last e l) ]),
            )
      ]

  -- ### what is in reach

  -- with the places that a ground names, the place that it gives
  pub reach_closed : Closed s (InReach s)
  reach_closed letter.Lane m n p small g b = add letter.Lane m n p [] lawful_none small g tt
  reach_closed letter.Next m n p small g b = add letter.Next m n p b.0 b.1 small g b.2
  reach_closed letter.Queue m n p small g b = add letter.Queue m n p b.0 b.1 small g b.2
  reach_closed letter.Flow m n p small g b =
      let r = extend b.0.0 b.1.0 b.0.1 b.1.1 (length b.1.0) (omega arith) in
      add letter.Flow m n p r.0 r.1 small g (r.2 m b.0.2, r.3 n b.1.2)

  -- the chain cut behind the place
  pub reach_ended : (p : ℕ) → InReach s p → (c : List Line) × Ends s c p
  reach_ended p d =
      let c = d.0 in
      let j = d.2.0 in
      let lt : j + 1 ≤ length c = omega (arith, d.2.1) in (
        take (j + 1) c,
        record {
          lawful = lawful_front c (j + 1) lt d.1;
          last = (j, length-take-le (j + 1) c lt, ap (λ x. x.place) (get_or-take (j + 1) c j no_line (omega arith)) ∙ d.2.2);
        },
      )

  pub ended_reach : (c : List Line) (p : ℕ) → Ends s c p → InReach s p
  ended_reach c p e = let w = e.last in (c, e.lawful, (w.0, omega (arith, w.1), w.2))

  pub reach_small : (p : ℕ) → InReach s p → p < 512
  reach_small p d = subst (λ q. q < 512) d.2.2 (d.1.places d.2.0 d.2.1)

  module _ (S : ℕ → Type 0) (closed : Closed s S) where
    -- a closed set has every place of a lawful chain
    pub chain_in : (c : List Line) → Lawful s c → (n : ℕ) → n ≤ length c → (p : ℕ) → Among c n p → S p
    chain_in c law zero h p a = absurd (omega (arith, a.1))
    chain_in c law (suc n) h p a =
        let before : (q : ℕ) → Among c n q → S q = chain_in c law n (omega arith) in
        let l : Line = line_at c n in
        elim (among_suc c n p a) [
          | inl b ↦ before p b
          | inr e ↦
              let r : Right s S l = right_weaker (Among c n) S before l (law.right n h) in
              subst S e (closed l.letter l.first l.second l.place (law.places n h) r.0 r.1)
        ]

    pub reach_in : (p : ℕ) → InReach s p → S p
    reach_in p d = chain_in d.0 d.1 (length d.0) (omega arith) p d.2
