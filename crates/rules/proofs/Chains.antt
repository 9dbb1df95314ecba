-- Lawful chains: the empty one, one line more, a beginning, what two have together; and derivable places: the induction, and that they are
-- closed under every rule.
use Rattle.std.proofs.Common.{◌≡◌, ℕ, zero, suc, ◌+◌, ◌<◌, ◌≤◌, ◌⊎◌, List, [], ◌∷◌, ◌++◌, length, get_or, take, Some, None, Option, sym, refl, ap, ◌∙◌, subst, inl, inr, arith}
use Rattle.std.proofs.lemmas.List.{get_or_append_left, get_or_push, length_push, get_or-take, length-take-le, take_all}
use Rattle.std.proofs.lemmas.Bool.{cases_lt, cases_eq, cases_order}
use Rattle.rules.specs.declared.book.Rule.{Rule}
use Rattle.rules.specs.declared.chain.Line.{Line}
use Rattle.rules.specs.Chain.{line_at, Among, On, Met, Grounded, Ground, Concludes, Lawful, Derivable, Ends}
use Rattle.rules.specs.Laws.{Closed}

abbrev pub line : ℕ → ℕ → Line
line k p = record { rule = k; place = p }

abbrev pub no_line : Line
no_line = line 0 0

pub met_weaker : (S T : ℕ → Type 0) → ((p : ℕ) → S p → T p) → (o : Option ℕ) → Met S o → Met T o
met_weaker S T f None m = tt
met_weaker S T f (Some p) m = f p m

pub grounded_weaker : (S T : ℕ → Type 0) → ((p : ℕ) → S p → T p) → (r : Rule) → Grounded S r → Grounded T r
grounded_weaker S T f r g = (met_weaker S T f r.first g.0, met_weaker S T f r.second g.1)

pub grounded_both : (S T : ℕ → Type 0) (r : Rule) → Grounded S r → Grounded T r → Grounded (λ p. S p × T p) r
grounded_both S T r g h = (both r.first g.0 h.0, both r.second g.1 h.1)
  where
    both : (o : Option ℕ) → Met S o → Met T o → Met (λ p. S p × T p) o
    both None m n = tt
    both (Some p) m n = (m, n)

-- a ground that is met is in the set
pub met_at : (S : ℕ → Type 0) (o : Option ℕ) (p : ℕ) → o ≡ Some p → Met S o → S p
met_at S o p e m = subst (Met S) e m

pub ground_in : (S : ℕ → Type 0) (r : Rule) (p : ℕ) → Grounded S r → Ground r p → S p
ground_in S r p g (inl e) = met_at S r.first p e g.0
ground_in S r p g (inr e) = met_at S r.second p e g.1

-- ### places on lines

pub among_more : (c : List Line) (m n p : ℕ) → m ≤ n → Among c m p → Among c n p
among_more c m n p h a = (a.0, omega (arith, a.1), a.2)

pub among_front : (c d : List Line) (n p : ℕ) → n ≤ length c → Among c n p → Among (c ++ d) n p
among_front c d n p h a =
    let lt : a.0 < length c = omega (arith, a.1) in
    (a.0, a.1, ap (λ l. l.place) (get_or_append_left c d no_line a.0 lt) ∙ a.2)

pub among_push : (c : List Line) (l : Line) (p : ℕ) → On c p → On (c ++ (l ∷ [])) p
among_push c l p a = among_more _ (length c) _ p (omega (arith, length_push c l)) (among_front c (l ∷ []) (length c) p (omega arith) a)

pub among_last : (c : List Line) (l : Line) → On (c ++ (l ∷ [])) l.place
among_last c l = (length c, omega (arith, length_push c l), ap (λ x. x.place) (get_or_push c l no_line (length c) refl))

pub among_push_cases : (c : List Line) (l : Line) (p : ℕ) → On (c ++ (l ∷ [])) p → On c p ⊎ (l.place ≡ p)
among_push_cases c l p a =
    elim (cases_lt a.0 (length c)) [
      | inl lt ↦ inl (a.0, lt, sym (ap (λ x. x.place) (get_or_append_left c (l ∷ []) no_line a.0 lt)) ∙ a.2)
      | inr ge ↦
          let e : length c ≡ a.0 = omega (arith, length_push c l, a.1) in
          inr (sym (ap (λ x. x.place) (get_or_push c l no_line a.0 e)) ∙ a.2)
    ]

pub among_dec : (c : List Line) (n p : ℕ) → Among c n p ⊎ (Among c n p → ⊥)
among_dec c zero p = inr (λ a. omega (arith, a.1))
among_dec c (suc n) p =
    elim (cases_eq (line_at c n).place p) [
      | inl e ↦ inl (n, omega arith, e)
      | inr ne ↦
          elim (among_dec c n p) [
            | inl a ↦ inl (among_more c n (suc n) p (omega arith) a)
            | inr none ↦
                inr (λ a. elim (cases_lt a.0 n) [
                  | inl lt ↦ none (a.0, lt, a.2)
                  | inr ge ↦ let e : a.0 ≡ n = omega (arith, a.1) in ne (subst (λ j. (line_at c j).place ≡ p) e a.2)
                ])
          ]
    ]

-- ### lawful chains

-- what holds of each line of c and of l holds of each line of c with l at its end
pub at_push : {X : Type 0} (d : X) (P : ℕ → X → Type 0) (c : List X) (l : X) → ((i : ℕ) → i < length c → P i (get_or c i d)) → P (length c) l → (i : ℕ) → i < length (c ++ (l ∷ [])) → P i (get_or (c ++ (l ∷ [])) i d)
at_push d P c l f g i h =
    elim (cases_lt i (length c)) [
      | inl lt ↦ subst (P i) (sym (get_or_append_left c (l ∷ []) d i lt)) (f i lt)
      | inr ge ↦
          let e : length c ≡ i = omega (arith, length_push c l) in
          subst (P i) (sym (get_or_push c l d i e)) (subst (λ j. P j l) e g)
    ]

module _ (count : ℕ) (rule : ℕ → Rule) where
  pub lawful_none : Lawful count rule []
  lawful_none = record { named = λ i h. absurd (omega arith); once = λ i j h k. absurd (omega arith); grounded = λ i h. absurd (omega arith) }

  -- one line more: a rule whose grounds stand in the chain, and whose conclusion does not
  pub lawful_push : (c : List Line) (k p : ℕ) → Lawful count rule c → k < count → Concludes (rule k) p → Grounded (On c) (rule k) → (On c p → ⊥) → Lawful count rule (c ++ (line k p ∷ []))
  lawful_push c k p law kin con g new =
      let l : Line = line k p in
      let d : List Line = c ++ (l ∷ []) in
      record {
        named = at_push no_line (λ i x. (x.rule < count) × Concludes (rule x.rule) x.place) c l law.named (kin, con);
        once = λ i j lt h e. at_push no_line (λ n x. (m : ℕ) → m < n → (line_at d m).place ≡ x.place → ⊥) c l
            (λ n within m less same. law.once m n less within (sym (ap (λ x. x.place) (get_or_append_left c (l ∷ []) no_line m (omega arith))) ∙ same))
            (λ m less same. new (m, less, sym (ap (λ x. x.place) (get_or_append_left c (l ∷ []) no_line m less)) ∙ same))
            j h i lt e;
        grounded = at_push no_line (λ i x. Grounded (Among d i) (rule x.rule)) c l
            (λ i h. grounded_weaker (Among c i) (Among d i) (λ q. among_front c (l ∷ []) i q (omega arith)) (rule (line_at c i).rule) (law.grounded i h))
            (grounded_weaker (On c) (Among d (length c)) (λ q. among_front c (l ∷ []) (length c) q (omega arith)) (rule k) g);
      }

  -- a place stands on one line only
  pub place_once : (c : List Line) → Lawful count rule c → (i j : ℕ) → i < length c → j < length c → (line_at c i).place ≡ (line_at c j).place → i ≡ j
  place_once c law i j h k e =
      elim (cases_order i j) [
        | inl same ↦ same
        | inr less ↦ elim less [ inl lt ↦ absurd (law.once i j lt k e) | inr gt ↦ absurd (law.once j i gt h (sym e)) ]
      ]

  -- the first n lines
  lawful_front : (c : List Line) (n : ℕ) → n ≤ length c → Lawful count rule c → Lawful count rule (take n c)
  lawful_front c n within law =
      let len : length (take n c) ≡ n = length-take-le n c within in
      let same : (i : ℕ) → i < n → line_at (take n c) i ≡ line_at c i = λ i h. get_or-take n c i no_line h in
      record {
        named = λ i h. let lt : i < n = omega (arith, len) in
            subst (λ x. (x.rule < count) × Concludes (rule x.rule) x.place) (sym (same i lt)) (law.named i (omega arith));
        once = λ i j lt h e. let jn : j < n = omega (arith, len) in
            law.once i j lt (omega arith) (sym (ap (λ x. x.place) (same i (omega arith))) ∙ e ∙ ap (λ x. x.place) (same j jn));
        grounded = λ i h. let lt : i < n = omega (arith, len) in
            subst (λ x. Grounded (Among (take n c) i) (rule x.rule)) (sym (same i lt))
            (grounded_weaker (Among c i) (Among (take n c) i) (λ q a. (a.0, a.1, ap (λ x. x.place) (same a.0 (omega (arith, a.1))) ∙ a.2)) (rule (line_at c i).rule) (law.grounded i (omega arith)));
      }

  pub lawful_beginning : (c : List Line) → Lawful count rule c → (n : ℕ) → Lawful count rule (take n c)
  lawful_beginning c law n =
      elim (cases_lt n (length c)) [
        | inl lt ↦ lawful_front c n (omega arith) law
        | inr ge ↦ subst (Lawful count rule) (sym (take_all n c ge)) law
      ]

  -- the beginning up to a line ends on that line's place
  pub ends_at : (c : List Line) (i p : ℕ) → Lawful count rule c → i < length c → (line_at c i).place ≡ p → Ends count rule (take (i + 1) c) p
  ends_at c i p law h e = record {
    lawful = lawful_front c (i + 1) (omega arith) law;
    last = (i, length-take-le (i + 1) c (omega arith), ap (λ l. l.place) (get_or-take (i + 1) c i no_line (omega arith)) ∙ e);
  }

  module _ (S : ℕ → Type 0) (closed : (k : ℕ) → k < count → Closed S (rule k)) where
    chain_in : (c : List Line) → Lawful count rule c → (n : ℕ) → n ≤ length c → (p : ℕ) → Among c n p → S p
    chain_in c law zero h p a = absurd (omega (arith, a.1))
    chain_in c law (suc n) h p a =
        let before : (q : ℕ) → Among c n q → S q = chain_in c law n (omega arith) in
        let l : Line = line_at c n in
        elim (cases_lt a.0 n) [
          | inl lt ↦ before p (a.0, lt, a.2)
          | inr ge ↦
              let e : a.0 ≡ n = omega (arith, a.1) in
              let here : S l.place = closed l.rule (law.named n h).0 l.place (law.named n h).1 (grounded_weaker (Among c n) S before (rule l.rule) (law.grounded n h)) in
              subst S (subst (λ j. (line_at c j).place ≡ p) e a.2) here
        ]

    -- The induction: a set of places that is closed under each rule has every derivable place.
    pub derivable_in : (p : ℕ) → Derivable count rule p → S p
    derivable_in p d = chain_in d.0 d.1 (length d.0) (omega arith) p d.2

  -- c goes on to a lawful chain that has the places of d too
  extend : (c d : List Line) → Lawful count rule c → Lawful count rule d → (n : ℕ) → n ≤ length d → (e : List Line) × Lawful count rule e × ((p : ℕ) → On c p → On e p) × ((p : ℕ) → Among d n p → On e p)
  extend c d lc ld zero h = (c, lc, (λ p a. a), (λ p a. absurd (omega (arith, a.1))))
  extend c d lc ld (suc n) h =
      let prev = extend c d lc ld n (omega arith) in
      let e : List Line = prev.0 in
      let l : Line = line_at d n in
      let at_n : (p : ℕ) → Among d (suc n) p → Among d n p ⊎ (l.place ≡ p) =
      λ p a. elim (cases_lt a.0 n) [
        | inl lt ↦ inl (a.0, lt, a.2)
        | inr ge ↦ let q : a.0 ≡ n = omega (arith, a.1) in inr (subst (λ j. (line_at d j).place ≡ p) q a.2)
      ] in
      elim (among_dec e (length e) l.place) [
        | inl old ↦ (e, prev.1, prev.2, (λ p a. elim (at_n p a) [ inl b ↦ prev.3 p b | inr q ↦ subst (On e) q old ]))
        | inr new ↦
            let f : List Line = e ++ (l ∷ []) in (
              f,
              lawful_push e l.rule l.place prev.1 (ld.named n h).0 (ld.named n h).1 (grounded_weaker (Among d n) (On e) prev.3 (rule l.rule) (ld.grounded n h)) new,
              (λ p a. among_push e l p (prev.2 p a)),
              (λ p a. elim (at_n p a) [ inl b ↦ among_push e l p (prev.3 p b) | inr q ↦ subst (On f) q (among_last e l) ]),
            )
      ]

  with_ground : (c : List Line) → Lawful count rule c → (o : Option ℕ) → Met (Derivable count rule) o → (e : List Line) × Lawful count rule e × ((p : ℕ) → On c p → On e p) × Met (On e) o
  with_ground c lc None m = (c, lc, (λ p a. a), tt)
  with_ground c lc (Some p) m =
      let r = extend c m.0 lc m.1 (length m.0) (omega arith) in
      (r.0, r.1, r.2, r.3 p m.2)

  -- The derivable places are closed under each rule of the book.
  pub derivable_closed : (k : ℕ) → k < count → Closed (Derivable count rule) (rule k)
  derivable_closed k kin p con g =
      let one = with_ground [] lawful_none (rule k).first g.0 in
      let two = with_ground one.0 one.1 (rule k).second g.1 in
      let c : List Line = two.0 in
      let both : Grounded (On c) (rule k) = (met_weaker (On one.0) (On c) two.2 (rule k).first one.3, two.3) in
      elim (among_dec c (length c) p) [
        | inl old ↦ (c, two.1, old)
        | inr new ↦ (c ++ (line k p ∷ []), lawful_push c k p two.1 kin con both new, among_last c (line k p))
      ]
