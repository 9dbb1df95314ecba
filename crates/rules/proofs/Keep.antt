-- A lawful chain kept to what its last line needs.
use Rattle.std.proofs.Common.{◌≡◌, ℕ, zero, suc, ◌+◌, ◌<◌, ◌≤◌, Bool, true, false, cond, List, [], ◌∷◌, ◌++◌, length, take, sym, refl, ap, ◌∙◌, subst, inl, inr, add-one, arith}
use Rattle.std.proofs.lemmas.List.{take_more, take_all, get_or_push, get_or_append_left, length_push}
use Rattle.std.proofs.lemmas.Bool.{cases_lt, cases_Bool, both_ways, cond-true, cond-false, cond_both}
use Rattle.rules.specs.declared.book.Rule.{Rule}
use Rattle.rules.specs.declared.chain.Chain.{Chain}
use Rattle.rules.specs.declared.chain.Line.{Line}
use Rattle.rules.specs.declared.places.Places.{Places}
use Rattle.rules.specs.Chain.{lines_of, line_at, Among, On, Ground, Lawful, Ends, Needed, Leads}
use Rattle.rules.specs.Found.{holds}
use Rattle.rules.specs.Laws.{Has, kept, Needs, Keeping}
use Rattle.rules.specs.Steps.{pushed, kept_line}
use Rattle.rules.proofs.Lines.{lines_pushed, pushed_long, pushed_len}
use Rattle.rules.proofs.Chains.{no_line, grounded_weaker, grounded_both, ground_in, among_more, among_push_cases, lawful_none, lawful_push, place_once, ends_at}

pub kept_push : (s : ℕ → Bool) (c : List Line) (l : Line) → kept s (c ++ (l ∷ [])) ≡ cond (s l.place) (kept s c ++ (l ∷ [])) (kept s c)
kept_push s [] l = refl
kept_push s (m ∷ c) l = ap (λ k. cond (s m.place) (m ∷ k) k) (kept_push s c l) ∙ swap (s m.place) (s l.place) m (kept s c)
  where
    swap : (a b : Bool) (m : Line) (k : List Line) → cond a (m ∷ cond b (k ++ (l ∷ [])) k) (cond b (k ++ (l ∷ [])) k) ≡ cond b (cond a (m ∷ k) k ++ (l ∷ [])) (cond a (m ∷ k) k)
    swap true true m k = refl
    swap true false m k = refl
    swap false true m k = refl
    swap false false m k = refl

pub kept_length : (s : ℕ → Bool) (c : List Line) → length (kept s c) ≤ length c
kept_length s [] = omega arith
kept_length s (l ∷ c) =
    let few : length (kept s c) ≤ length c = kept_length s c in
    cond_both (s l.place) (l ∷ kept s c) (kept s c) (λ k. length k ≤ length (l ∷ c)) (λ _. omega arith) (λ _. omega arith)

-- one line more that is kept, and one that is not
pub kept_more : (s : ℕ → Bool) (c : List Line) (n : ℕ) → n < length c → s (line_at c n).place ≡ true → kept s (take (n + 1) c) ≡ kept s (take n c) ++ (line_at c n ∷ [])
kept_more s c n h e = ap (kept s) (take_more c n no_line h) ∙ kept_push s (take n c) (line_at c n) ∙ cond-true (s (line_at c n).place) _ _ e

pub kept_same : (s : ℕ → Bool) (c : List Line) (n : ℕ) → n < length c → s (line_at c n).place ≡ false → kept s (take (n + 1) c) ≡ kept s (take n c)
kept_same s c n h e = ap (kept s) (take_more c n no_line h) ∙ kept_push s (take n c) (line_at c n) ∙ cond-false (s (line_at c n).place) _ _ e

module _ (count : ℕ) (rule : ℕ → Rule) (c : List Line) (p : ℕ) (s : ℕ → Bool) (law : Lawful count rule c) (needs : Needs rule c p s) where
  -- what is kept of the first n lines
  record Held (n : ℕ) (k : List Line) : Type 0 where
    lawful : Lawful count rule k
    from : (q : ℕ) → On k q → Among c n q × Has s q
    to : (j : ℕ) → j < n → Has s (line_at c j).place → (m : ℕ) × (m < length k) × (line_at k m ≡ line_at c j)

  held_none : Held 0 []
  held_none = record { lawful = lawful_none count rule; from = λ q a. absurd (omega (arith, a.1)); to = λ j h. absurd (omega arith) }

  held_same : (n : ℕ) (k : List Line) → s (line_at c n).place ≡ false → Held n k → Held (n + 1) k
  held_same n k e held = record {
    lawful = held.lawful;
    from = λ q a. let b = held.from q a in (among_more c n (n + 1) q (omega arith) b.0, b.1);
    to = λ j h w. elim (cases_lt j n) [
      | inl lt ↦ held.to j lt w
      | inr ge ↦ let same : j ≡ n = omega arith in absurd (both_ways (s (line_at c n).place) e (subst (λ i. Has s (line_at c i).place) same w))
    ];
  }

  held_more : (n : ℕ) (k : List Line) → n < length c → s (line_at c n).place ≡ true → Held n k → Held (n + 1) (k ++ (line_at c n ∷ []))
  held_more n k h e held =
      let l : Line = line_at c n in
      let place : (q : ℕ) → Among c n q × Has s q → On k q = λ q a.
      let m = held.to a.0.0 a.0.1 (subst (Has s) (sym a.0.2) a.1) in
      (m.0, m.1, ap (λ x. x.place) m.2 ∙ a.0.2) in
      record {
        lawful = lawful_push count rule k l.rule l.place held.lawful (law.named n h).0 (law.named n h).1
            (grounded_weaker (λ q. Among c n q × Has s q) (On k) place (rule l.rule)
            (grounded_both (Among c n) (Has s) (rule l.rule) (law.grounded n h) (needs.grounds n h e)))
            (λ a. let b = (held.from l.place a).0 in law.once b.0 n b.1 h b.2);
        from = λ q a. elim (among_push_cases k l q a) [
          | inl old ↦ let b = held.from q old in (among_more c n (n + 1) q (omega arith) b.0, b.1)
          | inr new ↦ ((n, omega arith, new), subst (Has s) new e)
        ];
        to = λ j i w. elim (cases_lt j n) [
          | inl lt ↦ let m = held.to j lt w in
              (m.0, omega (arith, m.1, length_push k l), get_or_append_left k (l ∷ []) no_line m.0 m.1 ∙ m.2)
          | inr ge ↦ let same : n ≡ j = omega arith in
              (length k, omega (arith, length_push k l), get_or_push k l no_line (length k) refl ∙ ap (line_at c) same)
        ];
      }

  held : (n : ℕ) → n ≤ length c → Held n (kept s (take n c))
  held zero h = held_none
  held (suc n) h =
      let before : Held n (kept s (take n c)) = held n (omega arith) in
      subst (λ m. Held m (kept s (take m c))) (add-one n)
      (elim (cases_Bool (s (line_at c n).place)) [
        | inl e ↦ subst (Held (n + 1)) (sym (kept_more s c n h e)) (held_more n (kept s (take n c)) h e before)
        | inr e ↦ subst (Held (n + 1)) (sym (kept_same s c n h e)) (held_same n (kept s (take n c)) e before)
      ])

  whole : Held (length c) (kept s c)
  whole = subst (λ d. Held (length c) (kept s d)) (take_all (length c) c (omega arith)) (held (length c) (omega arith))

  ends : (i : ℕ) → length c ≡ i + 1 → (line_at c i).place ≡ p → Ends count rule (kept s c) p
  ends i long e =
      let front : List Line = kept s (take i c) in
      let l : Line = line_at c i in
      let all : kept s c ≡ front ++ (l ∷ []) =
      ap (kept s) (sym (take_all (i + 1) c (omega arith))) ∙ kept_more s c i (omega arith) (subst (Has s) (sym e) needs.own) in
      record {
        lawful = whole.lawful;
        last = (length front, ap length all ∙ length_push front l, ap (λ k. (line_at k (length front)).place) all ∙ ap (λ x. x.place) (get_or_push front l no_line (length front) refl) ∙ e);
      }

  needed : (i : ℕ) → length c ≡ i + 1 → (line_at c i).place ≡ p → Needed rule (kept s c)
  needed i long e j more =
      let k : List Line = kept s c in
      let q : ℕ = (line_at k j).place in
      let end = (ends i long e).last in
      let own : (q ≡ p) → ⊥ = λ same. whole.lawful.once j end.0 (omega (arith, end.1)) (omega (arith, end.1)) (same ∙ sym end.2) in
      elim (needs.other q (whole.from q (j, omega arith, refl)).1) [
        | inl same ↦ absurd (own same)
        | inr other ↦
            let m = whole.to other.0 other.1 other.2 in
            let ground : Ground (rule (line_at k m.0).rule) q = subst (λ l. Ground (rule l.rule) q) (sym m.2) other.3 in
            let before : Among k m.0 q = ground_in (Among k m.0) (rule (line_at k m.0).rule) q (whole.lawful.grounded m.0 m.1) ground in
            let at : before.0 ≡ j = place_once count rule k whole.lawful before.0 j (omega (arith, before.1, m.1)) (omega arith) before.2 in
            (m.0, omega (arith, at, before.1), m.1, ground)
      ]

  pub leads : (i : ℕ) → length c ≡ i + 1 → (line_at c i).place ≡ p → Leads count rule (kept s c) p
  leads i long e = record { ends = ends i long e; needed = needed i long e }

pub keep_ends : (count : ℕ) (rule : ℕ → Rule) (c : List Line) (p : ℕ) (s : ℕ → Bool) → Ends count rule c p → Needs rule c p s → Leads count rule (kept s c) p
keep_ends count rule c p s end needs = leads count rule c p s end.lawful needs end.last.0 end.last.1 end.last.2

pub keeping : (count : ℕ) (rule : ℕ → Rule) → Keeping count rule
keeping count rule c law i h s needs = keep_ends count rule (take (i + 1) c) (line_at c i).place s (ends_at count rule c i (line_at c i).place law h refl) needs

-- what is kept of the first i lines, in a chain with room for more
abbrev pub Kept : (ℕ → Bool) → List Line → ℕ → Chain → Type 0
Kept s c i k = (length k.lines ≡ 512) × (k.len ≤ i) × (lines_of k ≡ kept s (take i c))

pub kept_step : (s : Places) (c : List Line) (i : ℕ) (k : Chain) → i < length c → length c ≤ 512 → Kept (holds s) c i k → Kept (holds s) c (i + 1) (kept_line s k (line_at c i))
kept_step s c i k h few (long, len, is) =
    let l : Line = line_at c i in
    let less : k.len < 512 = omega arith in
    cond_both (holds s l.place) (pushed k l) k (Kept (holds s) c (i + 1))
    (λ e. (pushed_long k l long less, omega (arith, pushed_len k l less), lines_pushed k l long less ∙ ap (λ d. d ++ (l ∷ [])) is ∙ sym (kept_more (holds s) c i h e)))
    (λ e. (long, omega arith, is ∙ sym (kept_same (holds s) c i h e)))
