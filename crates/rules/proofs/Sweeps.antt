-- What is found so far is lawful, and a sweep that finds nothing new leaves nothing to find.
use Rattle.std.proofs.Common.{◌≡◌, ℕ, zero, suc, ◌+◌, ◌<◌, ◌≤◌, Bool, true, false, List, [], ◌∷◌, ◌++◌, length, sym, ap, ◌∙◌, subst, inl, inr, arith}
use Rattle.std.proofs.lemmas.List.{length-take-le, length-set, length-replicate}
use Rattle.std.proofs.lemmas.Bool.{cases_lt, both_ways}
use Rattle.rules.specs.declared.book.Rule.{Rule}
use Rattle.rules.specs.declared.chain.Line.{Line}
use Rattle.rules.specs.declared.derived.Derived.{Derived}
use Rattle.rules.specs.Chain.{On, Grounded, Concludes, Lawful}
use Rattle.rules.specs.Found.{holds, marks, recorded, Found}
use Rattle.rules.specs.Laws.{Closed, Has, Laws}
use Rattle.rules.specs.Steps.{nothing_found, no_places, added, with_place, Step, Swept}
use Rattle.rules.proofs.Chains.{line, no_line, grounded_weaker, among_push, among_last, among_push_cases, lawful_none, lawful_push, lawful_beginning, derivable_in, derivable_closed, ends_at}
use Rattle.rules.proofs.Keep.{keeping}
use Rattle.rules.proofs.Lines.{lines_pushed, pushed_long, pushed_len}
use Rattle.rules.proofs.Marks.{trues, trues_le, trues_set, trues_none, room, none_holds, place_there, place_more, place_cases}

pub record Good (count : ℕ) (rule : ℕ → Rule) (s : Derived) : Type 0 where
  pub wide : length s.places.marked ≡ 512
  pub long : length s.chain.lines ≡ 512
  pub counted : trues s.places.marked ≡ s.chain.len
  pub lawful : Lawful count rule (recorded s)
  pub to : (p : ℕ) → Has (marks s) p → On (recorded s) p
  pub from : (p : ℕ) → On (recorded s) p → Has (marks s) p

module _ (count : ℕ) (rule : ℕ → Rule) where
  pub good_nothing : Good count rule nothing_found
  good_nothing = record {
    wide = length-replicate 512 false;
    long = length-replicate 512 no_line;
    counted = trues_none 512;
    lawful = lawful_none count rule;
    to = λ p m. absurd (both_ways (holds no_places p) (none_holds p) m);
    from = λ p a. absurd (omega (arith, a.1));
  }

  good_added : (s : Derived) (k p : ℕ) → Good count rule s → k < count → Concludes (rule k) p → Grounded (Has (marks s)) (rule k) → marks s p ≡ false → Good count rule (added s k p)
  good_added s k p good kin con g new =
      let m : List Bool = s.places.marked in
      let l : Line = line k p in
      let at : p < length m = omega (arith, con.1, good.wide) in
      let less : s.chain.len < 512 = omega (arith, room m p at new, good.counted, good.wide) in
      let more : recorded (added s k p) ≡ recorded s ++ (l ∷ []) = lines_pushed s.chain l good.long less in
      record {
        wide = length-set m p true ∙ good.wide;
        long = pushed_long s.chain l good.long less;
        counted = trues_set m p at new ∙ ap (λ n. n + 1) good.counted ∙ sym (pushed_len s.chain l less);
        lawful = subst (Lawful count rule) (sym more)
            (lawful_push count rule (recorded s) k p good.lawful kin con (grounded_weaker (Has (marks s)) (On (recorded s)) good.to (rule k) g) (λ a. both_ways (marks s p) new (good.from p a)));
        to = λ q marked. subst (λ d. On d q) (sym more)
            (elim (place_cases s.places p q marked) [
              | inl old ↦ among_push (recorded s) l q (good.to q old)
              | inr e ↦ subst (On (recorded s ++ (l ∷ []))) (sym e) (among_last (recorded s) l)
            ]);
        from = λ q a. elim (among_push_cases (recorded s) l q (subst (λ d. On d q) more a)) [
          | inl old ↦ place_more s.places p q (good.from q old)
          | inr e ↦ subst (Has (holds (with_place s.places p))) e (place_there s.places p at)
        ];
      }

  pub recorded_length : (s : Derived) → Good count rule s → length (recorded s) ≡ s.chain.len
  recorded_length s good =
      length-take-le s.chain.len s.chain.lines (omega (arith, trues_le s.places.marked, good.wide, good.counted, good.long))

  pub few : (s : Derived) → Good count rule s → length (recorded s) ≤ 512
  few s good = omega (arith, recorded_length s good, trues_le s.places.marked, good.wide, good.counted)

  -- what is found from s after the rules below n: no less, and where there is no more, it is closed under those rules
  record Since (n : ℕ) (s t : Derived) : Type 0 where
    good : Good count rule t
    more : s.chain.len ≤ t.chain.len
    closed : t.chain.len ≡ s.chain.len → (k : ℕ) → k < n → Closed (Has (marks t)) (rule k)

  since_step : (n : ℕ) (s m t : Derived) → n < count → Since n s m → Step (rule n) n m t → Since (suc n) s t
  since_step n s m t h before (inl same) =
      subst (Since (suc n) s) (sym same.0) (record {
        good = before.good;
        more = before.more;
        closed = λ e k less. elim (cases_lt k n) [
          | inl lt ↦ before.closed e k lt
          | inr ge ↦ let here : n ≡ k = omega arith in subst (λ j. Closed (Has (marks m)) (rule j)) here same.1
        ];
      })
  since_step n s m t h before (inr new) =
      let p : ℕ = new.0 in
      let at : p < length m.places.marked = omega (arith, new.1.1, before.good.wide) in
      let less : m.chain.len < 512 = omega (arith, room m.places.marked p at new.3, before.good.counted, before.good.wide) in
      let one : (added m n p).chain.len ≡ m.chain.len + 1 = pushed_len m.chain (line n p) less in
      subst (Since (suc n) s) (sym new.4) (record {
        good = good_added m n p before.good h new.1 new.2 new.3;
        more = omega (arith, before.more);
        closed = λ e. absurd (omega (arith, before.more));
      })

  since : (n : ℕ) (s t : Derived) → n ≤ count → Good count rule s → Swept rule n s t → Since n s t
  since zero s t h good same = subst (Since zero s) (sym same) (record { good = good; more = omega arith; closed = λ e k less. absurd (omega arith) })
  since (suc n) s t h good (m, before, step) = since_step n s m t h (since n s m (omega arith) good before) step

  pub swept_good : (s t : Derived) → Good count rule s → Swept rule count s t → Good count rule t
  swept_good s t good swept = (since count s t (omega arith) good swept).good

  pub swept_more : (s t : Derived) → Good count rule s → Swept rule count s t → length (recorded s) ≤ length (recorded t)
  swept_more s t good swept =
      let a = since count s t (omega arith) good swept in
      omega (arith, a.more, recorded_length s good, recorded_length t a.good)

  -- Once a sweep adds nothing, the marked places are the derivable ones.
  pub swept_found : (s t : Derived) → Good count rule s → Swept rule count s t → length (recorded t) ≡ length (recorded s) → Found count rule t
  swept_found s t good swept same =
      let a = since count s t (omega arith) good swept in
      let closed = a.closed (omega (arith, recorded_length s good, recorded_length t a.good)) in
      let complete = derivable_in count rule (Has (marks t)) closed in
      record {
        sound = λ p m. (recorded t, a.good.lawful, a.good.to p m);
        complete = complete;
        lawful = a.good.lawful;
        listed = a.good.to;
        only = a.good.from;
        begun = λ p d. let on = a.good.to p (complete p d) in (on.0 + 1, ends_at count rule (recorded t) on.0 p a.good.lawful on.1 on.2);
      }

  pub the_laws : Laws count rule
  the_laws = record {
    least = λ s closed. derivable_in count rule (Has s) closed;
    whole = derivable_closed count rule;
    beginnings = lawful_beginning count rule;
    keeping = keeping count rule;
  }
