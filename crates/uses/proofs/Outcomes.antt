-- What a call leaves: the table as it was, or the one that its definition says. So a property of tables is kept by the call if that table has it.
use Rattle.std.proofs.Common.{◌≡◌, ℕ, ◌^◌, Bool, true, false, cond, ltb, List, length, Some, None, Ok, Err, Option, Result, sym, refl, ap, subst, arith}
use Rattle.std.proofs.lemmas.Bool.{cond_both, eqb-true, false≢true}
use Rattle.words.specs.Format.{entry_of}
use Rattle.lanes.specs.declared.lane.Lane.{Lane}
use Rattle.lanes.specs.declared.lane.LaneCall.{LaneCall}
use Rattle.lanes.specs.declared.record.Lanes.{Lanes}
use Rattle.lanes.specs.Calls.{lane_after}
use Rattle.lanes.specs.Lanes.{lane_at}
use Rattle.image.specs.declared.places.Image.{Image}
use Rattle.image.specs.Reading.{read_image}
use Rattle.structure.specs.Nodes.{node_at}
use Rattle.outlets.specs.declared.message.Message.{Message}
use Rattle.outlets.specs.Meaning.{Meaning}
use Rattle.table.specs.declared.fault.Fault.{Fault as TableFault}
use Rattle.table.specs.declared.fault.Fault.TheVariants as table
use Rattle.table.specs.declared.state.Table.{Table}
use Rattle.table.specs.Loading.{Welcome, Loads}
use Rattle.table.specs.Tables.{loaded}
use Rattle.table.specs.Changes.{is_urgent, row_of, rows_at, lane_changed, check_changed, queued}
use Rattle.reach.specs.declared.fault.Fault.TheVariants as reach
use Rattle.reach.specs.declared.line.Line.{Line}
use Rattle.steps.specs.declared.answer.Step.{Step}
use Rattle.calls.specs.declared.fault.Fault.{Fault}
use Rattle.calls.specs.declared.fault.Fault.TheVariants.{Range, Memory, Busy, Below, State, Row, Bare, Permit}
use Rattle.steps.specs.Limits.{has_room}
use Rattle.calls.specs.Refusals.{or_else, argument, lines_enough, not_busy, word_fault, entry_in, may_wait, listed, room_for, start_refusal, command_refusal, check_refusal}
use Rattle.calls.specs.Judging.{Astray, Uses, Tested, Judged}
use Rattle.steps.specs.Steps.{stepped}
use Rattle.calls.specs.Calls.{LoadsIf, Load, started, Start, CallOnLane, Command, Checked, Check, is_open, removed, Remove, Release, StepsIf, Steps}

pub none_some : {X : Type 0} (x : X) → ◌≡◌ {A = Option X} None (Some x) → ⊥
none_some x e = let z : ◌≡◌ {A = ℕ} 0 1 = cc in omega arith

-- ### tests that come first

-- where neither of two tests refuses
both_none : (a b : Option Fault) → or_else a b ≡ None → (a ≡ None) × (b ≡ None)
both_none None b e = (refl, e)
both_none (Some fault) b e = absurd (none_some fault (sym e))

-- a test that does not refuse came out true
passed : (outcome : Bool) (fault : Fault) → cond outcome None (Some fault) ≡ None → outcome ≡ true
passed true fault e = refl
passed false fault e = absurd (none_some fault (sym e))

not_open : (check : Option ℕ) → not_busy check ≡ None → check ≡ None
not_open None e = refl
not_open (Some pattern) e = absurd (none_some (Busy pattern) (sym e))

pub record StartPassed (t : Table) (place tick : ℕ) : Type 0 where
  pub small : ltb place 512 ≡ true
  pub early : ltb tick (2 ^ 48) ≡ true
  pub shut : t.check ≡ None

pub start_passed : (t : Table) (lane place tick lines : ℕ) → start_refusal t lane place tick lines ≡ None → StartPassed t place tick
start_passed t lane place tick lines e =
    let a = both_none (argument 0 (ltb lane 8)) _ e in
    let b = both_none (argument 1 (ltb place 512)) _ a.1 in
    let c = both_none (argument 2 (ltb tick (2 ^ 48))) _ b.1 in
    let d = both_none (lines_enough lines) _ c.1 in
    record {
      small = passed (ltb place 512) (Range 1) b.0;
      early = passed (ltb tick (2 ^ 48)) (Range 2) c.0;
      shut = not_open t.check (both_none (not_busy t.check) _ d.1).0;
    }

pub record CommandPassed (t : Table) (block word : ℕ) : Type 0 where
  pub shut : t.check ≡ None
  pub waits : may_wait (node_at t.nodes block) (entry_in word) ≡ true
  pub room : has_room (row_of (rows_at t block) (is_urgent (entry_in word))) ≡ true

pub command_passed : (t : Table) (block word lines : ℕ) → command_refusal t block word lines ≡ None → CommandPassed t block word
command_passed t block word lines e =
    let a = both_none (argument 0 (ltb block 512)) _ e in
    let b = both_none (lines_enough lines) _ a.1 in
    let c = both_none (not_busy t.check) _ b.1 in
    let d = both_none (word_fault (entry_of word)) _ c.1 in
    let g = both_none (listed t block (entry_in word)) (room_for t block (entry_in word)) d.1 in
    record {
      shut = not_open t.check c.0;
      waits = passed (may_wait (node_at t.nodes block) (entry_in word)) _ g.0;
      room = passed (has_room (row_of (rows_at t block) (is_urgent (entry_in word)))) (Row block) g.1;
    }

is_open_some : (check : Option ℕ) (pattern : ℕ) → is_open check pattern ≡ true → check ≡ Some pattern
is_open_some None pattern e = absurd (false≢true e)
is_open_some (Some other) pattern e = ap Some (eqb-true other pattern e)

-- ### each call

abbrev lanes_changed : Table → Lanes Lane → Table
lanes_changed t lanes = record { nodes = t.nodes; rows = t.rows; lanes = lanes; check = t.check }

module _ (P : Table → Type 0) (t : Table) (kept : P t) where
  is_kept : (n m : Table) → P m → n ≡ m → P n
  is_kept n m p e = subst P (sym e) p

  module _ (words : List ℕ) (n : Table) (made : (image : Image) → read_image words ≡ Ok image → Welcome t.nodes image.places → P (loaded t image.places)) where
    loads_keeps : (found : Result ℕ TableFault) → Loads t words found n → P n
    loads_keeps (Err (table.Words fault)) h = is_kept n t kept h.1
    loads_keeps (Err (table.Taken place)) h = is_kept n t kept h.3
    loads_keeps (Err (table.Flaw flaw)) h = is_kept n t kept h.3
    loads_keeps (Ok count) h = is_kept n (loaded t h.0.places) (made h.0 h.1 h.2) h.4

    loads_if_keeps : (check : Option ℕ) (answer : Result ℕ Fault) → LoadsIf check t words answer n → P n
    loads_if_keeps (Some pattern) answer h = is_kept n t kept h.1
    loads_if_keeps None answer h = loads_keeps h.0 h.1

    pub load_keeps : (answer : Result ℕ Fault) → Load t words answer n → P n
    load_keeps answer h = loads_if_keeps t.check answer h

  tested_keeps : {X : Type 0} (refusal : Option Fault) (answer : Result X Fault) (n : Table) (before after : List Line) (Said : Type 0)
      → (refusal ≡ None → Said → P n) → Tested refusal answer t n before after Said → P n
  tested_keeps (Some fault) answer n before after Said f h = is_kept n t kept h.1
  tested_keeps None answer n before after Said f h = f refl h

  judged_keeps : (trial : Table) (answer : Result (Unit {0}) Fault) (n : Table) (before after : List Line) → ((Astray trial → ⊥) → P trial) → Judged trial answer t n before after → P n
  judged_keeps trial (Ok done) n before after made h = is_kept n trial (made h.0) h.1
  judged_keeps trial (Err (Below (reach.Reach place))) n before after made h = is_kept n t kept h.1
  judged_keeps trial (Err (Below (reach.Table fault))) n before after made h = absurd h
  judged_keeps trial (Err (Range argument)) n before after made h = absurd h
  judged_keeps trial (Err (Memory needed)) n before after made h = absurd h
  judged_keeps trial (Err (Busy pattern)) n before after made h = absurd h
  judged_keeps trial (Err (State lane)) n before after made h = absurd h
  judged_keeps trial (Err (Row block)) n before after made h = absurd h
  judged_keeps trial (Err (Bare pattern)) n before after made h = absurd h
  judged_keeps trial (Err (Permit pattern)) n before after made h = absurd h

  pub start_keeps : (lane place tick : ℕ) (answer : Result (Unit {0}) Fault) (n : Table) (before after : List Line)
      → (StartPassed t place tick → (Astray (started t lane place tick) → ⊥) → P (started t lane place tick)) → Start t lane place tick answer n before after → P n
  start_keeps lane place tick answer n before after made h =
      tested_keeps (start_refusal t lane place tick (length before)) answer n before after _
      (λ none. judged_keeps (started t lane place tick) answer n before after (made (start_passed t lane place tick (length before) none))) h

  pub command_keeps : (block word : ℕ) (answer : Result (Unit {0}) Fault) (n : Table) (before after : List Line)
      → (CommandPassed t block word → (Astray (queued t block (entry_in word)) → ⊥) → P (queued t block (entry_in word))) → Command t block word answer n before after → P n
  command_keeps block word answer n before after made h =
      tested_keeps (command_refusal t block word (length before)) answer n before after _
      (λ none. judged_keeps (queued t block (entry_in word)) answer n before after (made (command_passed t block word (length before) none))) h

  pub call_keeps : (call : LaneCall) (l : ℕ) (answer : Result (Unit {0}) Fault) (n : Table) → P (lane_changed t l (lane_after (lane_at t.lanes l) call)) → CallOnLane call t l answer n → P n
  call_keeps call l answer n made h = is_kept n _ (cond_both (ltb l 8) _ _ (λ lanes. P (lanes_changed t lanes)) (λ _. made) (λ _. kept)) h.1

  checked_keeps : (pattern : ℕ) (answer : Result ℕ Fault) (n : Table) (before after : List Line) → ((Uses t pattern → ⊥) → P (check_changed t (Some pattern))) → Checked t pattern answer n before after → P n
  checked_keeps pattern (Ok permit) n before after made h = is_kept n (check_changed t (Some pattern)) (made h.0) h.3
  checked_keeps pattern (Err (Below (reach.Reach place))) n before after made h = is_kept n t kept h.1
  checked_keeps pattern (Err (Bare bare)) n before after made h = is_kept n t kept h.3
  checked_keeps pattern (Err (Below (reach.Table fault))) n before after made h = absurd h
  checked_keeps pattern (Err (Range argument)) n before after made h = absurd h
  checked_keeps pattern (Err (Memory needed)) n before after made h = absurd h
  checked_keeps pattern (Err (Busy other)) n before after made h = absurd h
  checked_keeps pattern (Err (State lane)) n before after made h = absurd h
  checked_keeps pattern (Err (Row block)) n before after made h = absurd h
  checked_keeps pattern (Err (Permit other)) n before after made h = absurd h

  pub check_keeps : (pattern : ℕ) (answer : Result ℕ Fault) (n : Table) (before after : List Line) → ((Uses t pattern → ⊥) → P (check_changed t (Some pattern))) → Check t pattern answer n before after → P n
  check_keeps pattern answer n before after made h =
      tested_keeps (check_refusal t pattern (length before)) answer n before after _ (λ none. checked_keeps pattern answer n before after made) h

  -- what is done for the permit of the open check; for another, nothing
  permit_keeps : (pattern : ℕ) (done : Table) → (t.check ≡ Some pattern → P done) → P (cond (is_open t.check pattern) done t)
  permit_keeps pattern done made = cond_both (is_open t.check pattern) done t P (λ y. made (is_open_some t.check pattern y)) (λ _. kept)

  pub remove_keeps : (pattern : ℕ) (answer : Result (Unit {0}) Fault) (n : Table) → (t.check ≡ Some pattern → P (removed t pattern)) → Remove t pattern answer n → P n
  remove_keeps pattern answer n made h = is_kept n _ (permit_keeps pattern (removed t pattern) made) h.1

  pub release_keeps : (pattern : ℕ) (answer : Result (Unit {0}) Fault) (n : Table) → P (check_changed t None) → Release t pattern answer n → P n
  release_keeps pattern answer n made h = is_kept n _ (permit_keeps pattern (check_changed t None) (λ _. made)) h.1

  module _ {O : Type 0} (meaning : Meaning O) (l : ℕ) (made : (accepted : Bool) → P (stepped accepted t l).table) where
    steps_if_keeps : (exists : Bool) (o : O) (answer : Result Step Fault) (n : Table) (o' : O) → StepsIf meaning exists t o l answer n o' → P n
    steps_if_keeps true o answer n o' h = is_kept n (stepped h.0 t l).table (made h.0) h.3
    steps_if_keeps false o answer n o' h = is_kept n t kept h.1

    pub steps_keeps : (o : O) (answer : Result Step Fault) (n : Table) (o' : O) → Steps meaning t o l answer n o' → P n
    steps_keeps o answer n o' h = steps_if_keeps (ltb l 8) o answer n o' h
