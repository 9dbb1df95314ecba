-- The answer of each call, computed, and that it is as the call's definition says.
use Rattle.std.proofs.Common.{◌≡◌, ℕ, ◌≤◌, Bool, true, cond, not, ◌&&◌, ◌⊎◌, List, ◌++◌, length, drop, is_some, Some, None, Ok, Err, Option, Result, sym, refl, ap, ◌∙◌, subst, inl, inr, arith, length-append, length-drop}
use Rattle.std.proofs.lemmas.Bool.{and_parts, false≢true}
use Rattle.words.specs.declared.fault.Fault.{Fault as WordFault}
use Rattle.words.specs.declared.node.Node.{Node}
use Rattle.image.specs.declared.places.Image.{Image}
use Rattle.image.specs.Reading.{read_image}
use Rattle.structure.specs.declared.judge.Flaw.{Flaw as NodeFlaw}
use Rattle.table.specs.declared.fault.Fault.TheVariants as table
use Rattle.table.specs.declared.state.Table.{Table}
use Rattle.table.specs.Tables.{merged, loaded, in_pattern}
use Rattle.table.specs.Changes.{check_changed, queued}
use Rattle.table.proofs.Once.{loads_once}
use Rattle.reach.specs.declared.fault.Fault.TheVariants as reach
use Rattle.reach.specs.declared.line.Line.{Line}
use Rattle.reach.specs.Scenes.{Scene, scene_of, node_in, Empty, IsOfPattern}
use Rattle.reach.specs.Verdicts.{ComesTo}
use Rattle.calls.specs.declared.fault.Fault.{Fault}
use Rattle.calls.specs.declared.fault.Fault.TheVariants.{Range, Memory, Busy, Below, State, Row, Bare, Permit}
use Rattle.calls.specs.Refusals.{start_refusal, command_refusal, check_refusal, entry_in}
use Rattle.calls.specs.Judging.{Told, Tested, Judged}
use Rattle.calls.specs.Calls.{carried, LoadsIf, Load, started, Start, Command, HasNode, Checked, Check, is_open, permit_told, removed}
use Rattle.cases.specs.Plays.{Alike}
use Rattle.cases.proofs.Judged.{Finding, Finding.clear, Finding.led, finding, sure, ToldBy, sure_means}
use Rattle.cases.proofs.Loaded.{apart, apart_is, first, flaw_of, flaw_sure, flaw_is}

-- an answer, the table after it, and whether its grounds stood up when they were examined
pub record Outcome (X : Type 0) : Type 0 where
  pub said : X
  pub table : Table
  pub sure : Bool

-- ### load

abbrev pub load_nodes : Table → Image → Option NodeFlaw → Outcome (Result ℕ Fault)
load_nodes t image None = record {
  said = Ok image.nodes;
  table = loaded t image.places;
  sure = apart t.nodes image.places && flaw_sure (merged t.nodes image.places) None;
}
load_nodes t image (Some flaw) = record {
  said = Err (Below (reach.Table (table.Flaw flaw)));
  table = t;
  sure = apart t.nodes image.places && flaw_sure (merged t.nodes image.places) (Some flaw);
}

abbrev pub load_read : Table → Result Image WordFault → Outcome (Result ℕ Fault)
load_read t (Err fault) = record { said = Err (Below (reach.Table (table.Words fault))); table = t; sure = true }
load_read t (Ok image) = load_nodes t image (flaw_of (merged t.nodes image.places))

abbrev pub load_if : Table → List ℕ → Option ℕ → Outcome (Result ℕ Fault)
load_if t words (Some pattern) = record { said = Err (Busy pattern); table = t; sure = true }
load_if t words None = load_read t (read_image words)

abbrev pub load_out : Table → List ℕ → Outcome (Result ℕ Fault)
load_out t words = load_if t words t.check

module _ (t : Table) (words : List ℕ) where
  load_nodes_is : (image : Image) (flaw : Option NodeFlaw) → read_image words ≡ Ok image → (load_nodes t image flaw).sure ≡ true
      → LoadsIf None t words (load_nodes t image flaw).said (load_nodes t image flaw).table
  load_nodes_is image None e h =
      let a = and_parts (apart t.nodes image.places) _ h in
      (Ok image.nodes, (image, e, record { apart = λ q small. apart_is t.nodes image.places a.0 q; flawless = flaw_is _ None a.1 }, refl, refl), refl)
  load_nodes_is image (Some flaw) e h =
      let a = and_parts (apart t.nodes image.places) _ h in
      (Err (table.Flaw flaw), (image, e, ((λ q small. apart_is t.nodes image.places a.0 q), flaw_is _ (Some flaw) a.1), refl), refl)

  load_read_is : (r : Result Image WordFault) → read_image words ≡ r → (load_read t r).sure ≡ true → LoadsIf None t words (load_read t r).said (load_read t r).table
  load_read_is (Err fault) e h = (Err (table.Words fault), (e, refl), refl)
  load_read_is (Ok image) e h = load_nodes_is image (flaw_of (merged t.nodes image.places)) e h

  load_if_is : (check : Option ℕ) → (load_if t words check).sure ≡ true → LoadsIf check t words (load_if t words check).said (load_if t words check).table
  load_if_is (Some pattern) h = (refl, refl)
  load_if_is None h = load_read_is (read_image words) refl h

  pub load_is : (load_out t words).sure ≡ true → Load t words (load_out t words).said (load_out t words).table
  load_is h = load_if_is t.check h

  -- two answers to a load are the same
  loads_if_once : (check : Option ℕ) (r s : Result ℕ Fault) (u v : Table) → LoadsIf check t words r u → LoadsIf check t words s v → (s ≡ r) × (u ≡ v)
  loads_if_once (Some pattern) r s u v a b = (cc, cc)
  loads_if_once None r s u v a b =
      let once = loads_once t words a.0 b.0 u v a.1 b.1 in
      (b.2 ∙ ap carried (sym once.0) ∙ sym a.2, once.1)

  pub load_only : (load_out t words).sure ≡ true → (other : Result ℕ Fault) (then : Table) → Load t words other then
      → (other ≡ (load_out t words).said) × ((load_out t words).table ≡ then)
  load_only h other then l = loads_if_once t.check _ other _ then (load_is h) l

-- ### calls that are judged by reach

-- a refusal of an earlier question, or else what is judged
abbrev pub tested : {X : Type 0} → Option Fault → Table → Outcome (Result X Fault) → Outcome (Result X Fault)
tested (Some fault) t later = record { said = Err fault; table = t; sure = true }
tested None t later = later

-- some memory of 512 lines is there after the call
abbrev pub Comes : {X : Type 0} → Outcome (Result X Fault) → (Result X Fault → Table → List Line → Type 0) → Type 0
Comes out P = (after : List Line) × (length after ≡ 512) × P out.said out.table after

-- every other answer is alike, and leaves the same table and 512 lines of memory
abbrev pub Only : {X : Type 0} → Outcome (Result X Fault) → (Result X Fault → Table → List Line → Type 0) → Type 0
Only {X} out P = (other : Result X Fault) (then : Table) (after : List Line) → P other then after → Alike out.said other × (out.table ≡ then) × (length after ≡ 512)

-- the earlier questions take the number of lines, which is 512
module _ {X : Type 0} (t : Table) (memory : List Line) (long : length memory ≡ 512) (later : Outcome (Result X Fault)) (P : Result X Fault → Table → List Line → Type 0) where
  abbrev Asked : Option Fault → Result X Fault → Table → List Line → Type 0
  Asked r answer then after = Tested r answer t then memory after (P answer then after)

  asked_is : (r : Option Fault) → (later.sure ≡ true → Comes later P) → (tested r t later).sure ≡ true → Comes (tested r t later) (Asked r)
  asked_is (Some fault) f h = (memory, long, (refl, refl, refl))
  asked_is None f h = f h

  asked_only : (r : Option Fault) → (later.sure ≡ true → Only later P) → (tested r t later).sure ≡ true → Only (tested r t later) (Asked r)
  asked_only (Some fault) f h other then after p = (inl p.0, sym p.1, ap length p.2 ∙ long)
  asked_only None f h other then after p = f h other then after p

  tested_is : (r : ℕ → Option Fault) → (later.sure ≡ true → Comes later P) → (tested (r 512) t later).sure ≡ true
      → Comes (tested (r 512) t later) (Asked (r (length memory)))
  tested_is r f h = subst (λ n. Comes (tested (r 512) t later) (Asked (r n))) (sym long) (asked_is (r 512) f h)

  tested_only : (r : ℕ → Option Fault) → (later.sure ≡ true → Only later P) → (tested (r 512) t later).sure ≡ true
      → Only (tested (r 512) t later) (Asked (r (length memory)))
  tested_only r f h = subst (λ n. Only (tested (r 512) t later) (Asked (r n))) (sym long) (asked_only (r 512) f h)

-- a memory of 512 lines keeps its size when a chain is written into it
with_chain_long : (c memory : List Line) → length memory ≡ 512 → length c ≤ 512 → length (c ++ drop (length c) memory) ≡ 512
with_chain_long c memory long few = omega (arith, length-append c (drop (length c) memory), length-drop (length c) memory)

-- the outcome of a finding: what is granted where the way is clear (if a further question is answered yes), and a refusal where it is not
abbrev pub by_finding : {X : Type 0} → Table → X → Table → Bool → Scene → (ℕ → Bool) → Finding → Outcome (Result X Fault)
by_finding t granted trial further s kind (clear ps) = record { said = Ok granted; table = trial; sure = sure s kind (clear ps) && further }
by_finding t granted trial further s kind (led p c) = record { said = Err (Below (reach.Reach p)); table = t; sure = sure s kind (led p c) }

-- all that a call that is judged by reach can come to: granted, refused for reach, or refused where a further condition fails
abbrev Ways : {X : Type 0} → Table → X → Table → Type 0 → Scene → (ℕ → Type 0) → List Line → Result X Fault → Table → List Line → Type 0
Ways t granted trial Further s Kind memory answer then after =
    ((answer ≡ Ok granted) × (then ≡ trial) × (after ≡ memory) × (ComesTo s Kind → ⊥))
    ⊎ (((q : ℕ) × (answer ≡ Err (Below (reach.Reach q))) × Told s Kind q memory after × (then ≡ t)) ⊎ ((ComesTo s Kind → ⊥) × (Further → ⊥)))

module _ {X : Type 0} (t : Table) (granted : X) (trial : Table) (further : Bool) (s : Scene) (Kind : ℕ → Type 0) (kind : ℕ → Bool)
    (told : ToldBy Kind kind) (memory : List Line) (long : length memory ≡ 512) (P : Result X Fault → Table → List Line → Type 0) where
  finding_is : ((ComesTo s Kind → ⊥) → further ≡ true → P (Ok granted) trial memory)
      → ((q : ℕ) (after : List Line) → Told s Kind q memory after → P (Err (Below (reach.Reach q))) t after)
      → (f : Finding) → (by_finding t granted trial further s kind f).sure ≡ true → Comes (by_finding t granted trial further s kind f) P
  finding_is grant refuse (clear ps) h =
      let a = and_parts (sure s kind (clear ps)) further h in
      (memory, long, grant (sure_means s Kind kind told (clear ps) a.0) a.1)
  finding_is grant refuse (led p c) h =
      let m = sure_means s Kind kind told (led p c) h in
      (c ++ drop (length c) memory, with_chain_long c memory long m.1.few, refuse p _ (m.0, (c, m.1, refl)))

  finding_only : (Further : Type 0) → (further ≡ true → Further)
      → ((other : Result X Fault) (then : Table) (after : List Line) → P other then after → Ways t granted trial Further s Kind memory other then after)
      → (f : Finding) → (by_finding t granted trial further s kind f).sure ≡ true → Only (by_finding t granted trial further s kind f) P
  finding_only Further more ways (clear ps) h other then after p =
      let a = and_parts (sure s kind (clear ps)) further h in
      let none = sure_means s Kind kind told (clear ps) a.0 in
      elim (ways other then after p) [
        | inl w ↦ (inl w.0, sym w.1, ap length w.2 ∙ long)
        | inr v ↦ elim v [
          | inl w ↦ absurd (none (w.2.1.0, w.0, w.2.1.1.ends, w.2.0))
          | inr w ↦ absurd (w.1 (more a.1))
        ]
      ]
  finding_only Further more ways (led p c) h other then after x =
      let m = sure_means s Kind kind told (led p c) h in
      let found : ComesTo s Kind = (c, p, m.1.ends, m.0) in
      elim (ways other then after x) [
        | inl w ↦ absurd (w.3 found)
        | inr v ↦ elim v [
          | inl w ↦ (inr (p, w.0, refl, w.1), sym w.3, ap length w.2.1.2 ∙ with_chain_long w.2.1.0 memory long w.2.1.1.few)
          | inr w ↦ absurd (w.0 found)
        ]
      ]

-- ### start and command

abbrev pub empty_at : Scene → ℕ → Bool
empty_at s p = not (is_some (node_in s p))

none_empty : (o : Option Node) → not (is_some o) ≡ true → o ≡ None
none_empty None h = refl
none_empty (Some node) h = absurd (false≢true h)

empty_told : (s : Scene) → ToldBy (Empty s) (empty_at s)
empty_told s = record { yes = λ p e. ap (λ o. not (is_some o)) e; is = λ p. none_empty (node_in s p) }

abbrev pub judged : Table → Table → Outcome (Result (Unit {0}) Fault)
judged t trial = by_finding t tt trial true (scene_of trial) (empty_at (scene_of trial)) (finding (scene_of trial) (empty_at (scene_of trial)))

module _ (t trial : Table) (memory : List Line) (long : length memory ≡ 512) where
  judged_is : (judged t trial).sure ≡ true → Comes (judged t trial) (λ answer then after. Judged trial answer t then memory after)
  judged_is h =
      finding_is t tt trial true (scene_of trial) (Empty (scene_of trial)) (empty_at (scene_of trial)) (empty_told (scene_of trial)) memory long
      (λ answer then after. Judged trial answer t then memory after)
      (λ none e. (none, refl, refl)) (λ q after told. (told, refl)) (finding (scene_of trial) (empty_at (scene_of trial))) h

  judged_ways : (other : Result (Unit {0}) Fault) (then : Table) (after : List Line) → Judged trial other t then memory after
      → Ways t tt trial (Unit {0}) (scene_of trial) (Empty (scene_of trial)) memory other then after
  judged_ways (Ok done) then after j = inl (refl, j.1, j.2, j.0)
  judged_ways (Err (Below (reach.Reach q))) then after j = inr (inl (q, refl, j.0, j.1))
  judged_ways (Err (Below (reach.Table fault))) then after j = absurd j
  judged_ways (Err (Range argument)) then after j = absurd j
  judged_ways (Err (Memory needed)) then after j = absurd j
  judged_ways (Err (Busy pattern)) then after j = absurd j
  judged_ways (Err (State lane)) then after j = absurd j
  judged_ways (Err (Row block)) then after j = absurd j
  judged_ways (Err (Bare pattern)) then after j = absurd j
  judged_ways (Err (Permit pattern)) then after j = absurd j

  judged_only : (judged t trial).sure ≡ true → Only (judged t trial) (λ answer then after. Judged trial answer t then memory after)
  judged_only h =
      finding_only t tt trial true (scene_of trial) (Empty (scene_of trial)) (empty_at (scene_of trial)) (empty_told (scene_of trial)) memory long
      (λ answer then after. Judged trial answer t then memory after) (Unit {0}) (λ e. tt) judged_ways (finding (scene_of trial) (empty_at (scene_of trial))) h

abbrev pub start_out : Table → ℕ → ℕ → ℕ → Outcome (Result (Unit {0}) Fault)
start_out t lane place tick = tested (start_refusal t lane place tick 512) t (judged t (started t lane place tick))

abbrev pub command_out : Table → ℕ → ℕ → Outcome (Result (Unit {0}) Fault)
command_out t block word = tested (command_refusal t block word 512) t (judged t (queued t block (entry_in word)))

module _ (t : Table) (memory : List Line) (long : length memory ≡ 512) where
  trial_is : (r : ℕ → Option Fault) (trial : Table) → (tested (r 512) t (judged t trial)).sure ≡ true
      → Comes (tested (r 512) t (judged t trial)) (λ answer then after. Tested (r (length memory)) answer t then memory after (Judged trial answer t then memory after))
  trial_is r trial h = tested_is t memory long (judged t trial) (λ answer then after. Judged trial answer t then memory after) r (judged_is t trial memory long) h

  trial_only : (r : ℕ → Option Fault) (trial : Table) → (tested (r 512) t (judged t trial)).sure ≡ true
      → Only (tested (r 512) t (judged t trial)) (λ answer then after. Tested (r (length memory)) answer t then memory after (Judged trial answer t then memory after))
  trial_only r trial h = tested_only t memory long (judged t trial) (λ answer then after. Judged trial answer t then memory after) r (judged_only t trial memory long) h

  pub start_is : (lane place tick : ℕ) → (start_out t lane place tick).sure ≡ true
      → Comes (start_out t lane place tick) (λ answer then after. Start t lane place tick answer then memory after)
  start_is lane place tick h = trial_is (start_refusal t lane place tick) (started t lane place tick) h

  pub start_only : (lane place tick : ℕ) → (start_out t lane place tick).sure ≡ true
      → Only (start_out t lane place tick) (λ answer then after. Start t lane place tick answer then memory after)
  start_only lane place tick h = trial_only (start_refusal t lane place tick) (started t lane place tick) h

  pub command_is : (block word : ℕ) → (command_out t block word).sure ≡ true
      → Comes (command_out t block word) (λ answer then after. Command t block word answer then memory after)
  command_is block word h = trial_is (command_refusal t block word) (queued t block (entry_in word)) h

  pub command_only : (block word : ℕ) → (command_out t block word).sure ≡ true
      → Only (command_out t block word) (λ answer then after. Command t block word answer then memory after)
  command_only block word h = trial_only (command_refusal t block word) (queued t block (entry_in word)) h

-- ### check, remove, release

abbrev pub pattern_at : Scene → ℕ → ℕ → Bool
pattern_at s pattern p = in_pattern pattern (node_in s p)

-- the first place of the pattern, if it has one
abbrev pub place_in : Table → ℕ → ℕ
place_in t pattern = first (in_pattern pattern) t.nodes

abbrev pub checked : Table → ℕ → Outcome (Result ℕ Fault)
checked t pattern =
    by_finding t pattern (check_changed t (Some pattern)) (pattern_at (scene_of t) pattern (place_in t pattern))
    (scene_of t) (pattern_at (scene_of t) pattern) (finding (scene_of t) (pattern_at (scene_of t) pattern))

abbrev pub check_out : Table → ℕ → Outcome (Result ℕ Fault)
check_out t pattern = tested (check_refusal t pattern 512) t (checked t pattern)

pattern_told : (s : Scene) (pattern : ℕ) → ToldBy (IsOfPattern s pattern) (pattern_at s pattern)
pattern_told s pattern = record { yes = λ p e. e; is = λ p e. e }

module _ (t : Table) (pattern : ℕ) (memory : List Line) (long : length memory ≡ 512) where
  checked_is : (checked t pattern).sure ≡ true → Comes (checked t pattern) (λ answer then after. Checked t pattern answer then memory after)
  checked_is h =
      finding_is t pattern (check_changed t (Some pattern)) _ (scene_of t) (IsOfPattern (scene_of t) pattern) _ (pattern_told (scene_of t) pattern) memory long
      (λ answer then after. Checked t pattern answer then memory after)
      (λ none e. (none, (place_in t pattern, e), refl, refl, refl)) (λ q after told. (told, refl)) (finding (scene_of t) (pattern_at (scene_of t) pattern)) h

  checked_ways : (other : Result ℕ Fault) (then : Table) (after : List Line) → Checked t pattern other then memory after
      → Ways t pattern (check_changed t (Some pattern)) (HasNode t pattern) (scene_of t) (IsOfPattern (scene_of t) pattern) memory other then after
  checked_ways (Ok permit) then after j = inl (ap Ok j.2, j.3, j.4, j.0)
  checked_ways (Err (Below (reach.Reach q))) then after j = inr (inl (q, refl, j.0, j.1))
  checked_ways (Err (Bare bare)) then after j = inr (inr (j.0, j.1))
  checked_ways (Err (Below (reach.Table fault))) then after j = absurd j
  checked_ways (Err (Range argument)) then after j = absurd j
  checked_ways (Err (Memory needed)) then after j = absurd j
  checked_ways (Err (Busy other)) then after j = absurd j
  checked_ways (Err (State lane)) then after j = absurd j
  checked_ways (Err (Row block)) then after j = absurd j
  checked_ways (Err (Permit other)) then after j = absurd j

  checked_only : (checked t pattern).sure ≡ true → Only (checked t pattern) (λ answer then after. Checked t pattern answer then memory after)
  checked_only h =
      finding_only t pattern (check_changed t (Some pattern)) _ (scene_of t) (IsOfPattern (scene_of t) pattern) _ (pattern_told (scene_of t) pattern) memory long
      (λ answer then after. Checked t pattern answer then memory after) (HasNode t pattern) (λ e. (place_in t pattern, e)) checked_ways
      (finding (scene_of t) (pattern_at (scene_of t) pattern)) h

  pub check_is : (check_out t pattern).sure ≡ true → Comes (check_out t pattern) (λ answer then after. Check t pattern answer then memory after)
  check_is h = tested_is t memory long (checked t pattern) (λ answer then after. Checked t pattern answer then memory after) (check_refusal t pattern) checked_is h

  pub check_only : (check_out t pattern).sure ≡ true → Only (check_out t pattern) (λ answer then after. Check t pattern answer then memory after)
  check_only h = tested_only t memory long (checked t pattern) (λ answer then after. Checked t pattern answer then memory after) (check_refusal t pattern) checked_only h

-- the permit's call is told, and its change is made if the pattern's check is open
abbrev pub permit_out : Table → ℕ → Table → Outcome (Result (Unit {0}) Fault)
permit_out t pattern changed = record {
  said = permit_told (is_open t.check pattern) pattern;
  table = cond (is_open t.check pattern) changed t;
  sure = true;
}

abbrev pub remove_out : Table → ℕ → Outcome (Result (Unit {0}) Fault)
remove_out t pattern = permit_out t pattern (removed t pattern)

abbrev pub release_out : Table → ℕ → Outcome (Result (Unit {0}) Fault)
release_out t pattern = permit_out t pattern (check_changed t None)
