-- The walk down a chain that gathers what its last line needs.
use Rattle.std.proofs.Common.{◌≡◌, ℕ, ◌+◌, ◌<◌, ◌≤◌, true, false, ◌⊎◌, List, length, sym, ◌∙◌, subst, inl, inr, arith}
use Rattle.std.proofs.lemmas.List.{length-set, length-replicate}
use Rattle.std.proofs.lemmas.Bool.{cases_lt, cases_Bool, both_ways, cond-true, cond-false}
use Rattle.rules.specs.declared.book.Rule.{Rule}
use Rattle.rules.specs.declared.chain.Line.{Line}
use Rattle.rules.specs.declared.places.Places.{Places}
use Rattle.rules.specs.Chain.{line_at, Among, Grounded, Ground, Ends}
use Rattle.rules.specs.Found.{holds}
use Rattle.rules.specs.Laws.{Has, Needs}
use Rattle.rules.specs.Steps.{no_places, with_place, with_ground, with_grounds}
use Rattle.rules.proofs.Chains.{met_weaker, grounded_weaker, ground_in}
use Rattle.rules.proofs.Marks.{none_holds, place_there, place_cases, ground_wide, ground_more, ground_cases, ground_met}

abbrev both : Places → Rule → Places
both s r = with_ground (with_ground s r.first) r.second

both_more : (s : Places) (r : Rule) (q : ℕ) → Has (holds s) q → Has (holds (both s r)) q
both_more s r q h = ground_more (with_ground s r.first) r.second q (ground_more s r.first q h)

both_cases : (s : Places) (r : Rule) (q : ℕ) → Has (holds (both s r)) q → Has (holds s) q ⊎ Ground r q
both_cases s r q h =
    elim (ground_cases (with_ground s r.first) r.second q h) [
      | inl old ↦ elim (ground_cases s r.first q old) [ inl older ↦ inl older | inr e ↦ inr (inl e) ]
      | inr e ↦ inr (inr e)
    ]

both_met : (s : Places) (r : Rule) → Grounded (λ q. q < length s.marked) r → Grounded (Has (holds (both s r))) r
both_met s r g =
    let t : Places = with_ground s r.first in
    let wide : length t.marked ≡ length s.marked = ground_wide s r.first in (
      met_weaker (Has (holds t)) (Has (holds (both s r))) (ground_more t r.second) r.first (ground_met s r.first g.0),
      ground_met t r.second (met_weaker (λ q. q < length s.marked) (λ q. q < length t.marked) (λ q h. omega arith) r.second g.1),
    )

-- what is gathered of a chain that ends on p, from its lines at i and after
pub record Walked (rule : ℕ → Rule) (c : List Line) (p i : ℕ) (s : Places) : Type 0 where
  pub wide : length s.marked ≡ 512
  pub own : Has (holds s) p
  pub grounds : (j : ℕ) → i ≤ j → j < length c → Has (holds s) (line_at c j).place → Grounded (Has (holds s)) (rule (line_at c j).rule)
  pub other : (q : ℕ) → Has (holds s) q → (q ≡ p) ⊎ ((j : ℕ) × (j < length c) × Has (holds s) (line_at c j).place × Ground (rule (line_at c j).rule) q)

module _ (count : ℕ) (rule : ℕ → Rule) (c : List Line) (p : ℕ) (end : Ends count rule c p) where
  below : (i : ℕ) → i < length c → (line_at c i).place < 512
  below i h = (end.lawful.named i h).1.1

  pub walk_start : (i : ℕ) → length c ≤ i → Walked rule c p i (with_place no_places p)
  walk_start i h =
      let last = end.last in
      let small : p < 512 = subst (λ q. q < 512) last.2 (below last.0 (omega (arith, last.1))) in
      let wide : length no_places.marked ≡ 512 = length-replicate 512 false in
      record {
        wide = length-set no_places.marked p true ∙ wide;
        own = place_there no_places p (omega (arith, wide));
        grounds = λ j less more. absurd (omega arith);
        other = λ q m. elim (place_cases no_places p q m) [ inl old ↦ absurd (both_ways (holds no_places q) (none_holds q) old) | inr e ↦ inl e ];
      }

  gathered : (i : ℕ) (s : Places) → i < length c → Walked rule c p (i + 1) s → Has (holds s) (line_at c i).place → Walked rule c p i (both s (rule (line_at c i).rule))
  gathered i s h w here =
      let r : Rule = rule (line_at c i).rule in
      let t : Places = both s r in
      let ground : Grounded (Among c i) r = end.lawful.grounded i h in
      let small : Grounded (λ q. q < length s.marked) r =
      grounded_weaker (Among c i) (λ q. q < length s.marked) (λ q a. omega (arith, a.2, below a.0 (omega (arith, a.1)), w.wide)) r ground in
      let mine : Grounded (Has (holds t)) r = both_met s r small in
      let more : (q : ℕ) → Has (holds s) q → Has (holds t) q = both_more s r in
      record {
        wide = ground_wide (with_ground s r.first) r.second ∙ ground_wide s r.first ∙ w.wide;
        own = more p w.own;
        grounds = λ j from within m. elim (cases_lt i j) [
          | inl lt ↦ elim (both_cases s r (line_at c j).place m) [
            | inl old ↦ grounded_weaker (Has (holds s)) (Has (holds t)) more (rule (line_at c j).rule) (w.grounds j (omega arith) within old)
            | inr g ↦
                let a = ground_in (Among c i) r (line_at c j).place ground g in
                absurd (end.lawful.once a.0 j (omega (arith, a.1)) within a.2)
          ]
          | inr ge ↦ let same : i ≡ j = omega arith in subst (λ n. Grounded (Has (holds t)) (rule (line_at c n).rule)) same mine
        ];
        other = λ q m. elim (both_cases s r q m) [
          | inl old ↦ elim (w.other q old) [ inl e ↦ inl e | inr o ↦ inr (o.0, o.1, more (line_at c o.0).place o.2, o.3) ]
          | inr g ↦ inr (i, h, more (line_at c i).place here, g)
        ];
      }

  passed : (i : ℕ) (s : Places) → i < length c → Walked rule c p (i + 1) s → holds s (line_at c i).place ≡ false → Walked rule c p i s
  passed i s h w not = record {
    wide = w.wide;
    own = w.own;
    grounds = λ j from within m. elim (cases_lt i j) [
      | inl lt ↦ w.grounds j (omega arith) within m
      | inr ge ↦ let same : j ≡ i = omega arith in absurd (both_ways (holds s (line_at c i).place) not (subst (λ n. Has (holds s) (line_at c n).place) same m))
    ];
    other = w.other;
  }

  -- one line more
  pub walk_line : (i : ℕ) (s : Places) → i < length c → Walked rule c p (i + 1) s → Walked rule c p i (with_grounds s (line_at c i).place (rule (line_at c i).rule))
  walk_line i s h w =
      elim (cases_Bool (holds s (line_at c i).place)) [
        | inl is ↦ subst (Walked rule c p i) (sym (cond-true (holds s (line_at c i).place) _ _ is)) (gathered i s h w is)
        | inr not ↦ subst (Walked rule c p i) (sym (cond-false (holds s (line_at c i).place) _ _ not)) (passed i s h w not)
      ]

  pub walk_end : (s : Places) → Walked rule c p 0 s → Needs rule c p (holds s)
  walk_end s w = record { own = w.own; grounds = λ j h m. w.grounds j (omega arith) h m; other = w.other }
