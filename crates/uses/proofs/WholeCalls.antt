-- Every call but a step keeps what hangs together.
use Rattle.std.proofs.Common.{ℕ, ◌^◌, ◌<◌, ◌≤◌, List, Some, None, Ok, Err, Result, refl, arith}
use Rattle.std.proofs.lemmas.Bool.{ltb-true}
use Rattle.lanes.specs.declared.lane.Lane.{Lane}
use Rattle.lanes.specs.declared.lane.LaneCall.{LaneCall}
use Rattle.lanes.specs.declared.lane.LaneCall.TheVariants as call
use Rattle.lanes.specs.declared.lane.LaneState.{LaneState}
use Rattle.lanes.specs.declared.lane.LaneState.TheVariants.{Idle, Running, Held}
use Rattle.lanes.specs.declared.lane.WrongState.{WrongState}
use Rattle.lanes.specs.Calls.{state_answer, moved, lane_after}
use Rattle.lanes.specs.Lanes.{lane_at}
use Rattle.image.proofs.Run.{only_accepted}
use Rattle.table.specs.declared.state.Table.{Table}
use Rattle.table.specs.Tables.{loaded}
use Rattle.table.proofs.Keeps.{loads_sound}
use Rattle.reach.specs.declared.line.Line.{Line}
use Rattle.calls.specs.declared.fault.Fault.{Fault}
use Rattle.steps.specs.Limits.{limit}
use Rattle.calls.specs.Refusals.{entry_in}
use Rattle.calls.specs.Calls.{Load, Start, CallOnLane, Command, Check, Remove, Release}
use Rattle.uses.specs.Law.{InRange}
use Rattle.uses.proofs.Outcomes.{load_keeps, start_keeps, command_keeps, call_keeps, check_keeps, remove_keeps, release_keeps}
use Rattle.uses.proofs.Wholes.{LaneWhole, KeptWhole, state_changed_whole, lane_changed_whole, check_changed_whole, queued_whole, loaded_whole, emptied_whole}

-- ### load

pub load_whole : (t : Table) (words : List ℕ) (answer : Result ℕ Fault) (t' : Table) → Load t words answer t' → KeptWhole t → KeptWhole t'
load_whole t words answer t' h k =
    load_keeps KeptWhole t k words t'
    (λ image read welcome.
    let new = image.places in
    loaded_whole t new (loads_sound t words (Ok image.nodes) (loaded t new) (image, read, welcome, refl, refl) k.sound) (only_accepted words image read).proper.count k) answer h

-- ### start

within_limit : (n : ℕ) → n < 2 ^ 48 → n ≤ limit
within_limit n h = omega arith

pub start_whole : (t : Table) (lane place tick : ℕ) (answer : Result (Unit {0}) Fault) (t' : Table) (before after : List Line)
    → Start t lane place tick answer t' before after → KeptWhole t → KeptWhole t'
start_whole t lane place tick answer t' before after h k =
    start_keeps KeptWhole t k lane place tick answer t' before after
    (λ passed _. state_changed_whole t k lane (Running place tick) (ltb-true place 512 passed.small, within_limit tick (ltb-true tick (2 ^ 48) passed.early))) h

-- ### hold, resume, abort

-- what a start asks for; the others ask for nothing
abbrev pub Fits : LaneCall → Type 0
Fits (call.Start place tick) = InRange (Running place tick)
Fits call.Hold = Unit {0}
Fits call.Resume = Unit {0}
Fits call.Abort = Unit {0}

abbrev AnswerWhole : Result LaneState WrongState → Type 0
AnswerWhole (Ok state) = InRange state
AnswerWhole (Err w) = Unit {0}

answer_whole : (s : LaneState) (c : LaneCall) → Fits c → InRange s → AnswerWhole (state_answer s c)
answer_whole Idle (call.Start place tick) f r = f
answer_whole Idle call.Hold f r = tt
answer_whole Idle call.Resume f r = tt
answer_whole Idle call.Abort f r = tt
answer_whole (Running p t) (call.Start place tick) f r = tt
answer_whole (Running p t) call.Hold f r = r
answer_whole (Running p t) call.Resume f r = tt
answer_whole (Running p t) call.Abort f r = tt
answer_whole (Held p t) (call.Start place tick) f r = tt
answer_whole (Held p t) call.Hold f r = tt
answer_whole (Held p t) call.Resume f r = r
answer_whole (Held p t) call.Abort f r = tt

moved_whole : (lane : Lane) (r : Result LaneState WrongState) → AnswerWhole r → LaneWhole lane → LaneWhole (moved lane r)
moved_whole lane (Ok state) a w = (a, w.1)
moved_whole lane (Err e) a w = w

pub lane_call_whole : (c : LaneCall) → Fits c → (t : Table) (lane : ℕ) (answer : Result (Unit {0}) Fault) (t' : Table)
    → CallOnLane c t lane answer t' → KeptWhole t → KeptWhole t'
lane_call_whole c f t lane answer t' h k =
    let state = (lane_at t.lanes lane).state in
    call_keeps KeptWhole t k c lane answer t'
    (lane_changed_whole t k lane (lane_after (lane_at t.lanes lane) c) (moved_whole (lane_at t.lanes lane) (state_answer state c) (answer_whole state c f (k.lanes lane).0) (k.lanes lane))) h

-- ### command

pub command_whole : (t : Table) (block word : ℕ) (answer : Result (Unit {0}) Fault) (t' : Table) (before after : List Line)
    → Command t block word answer t' before after → KeptWhole t → KeptWhole t'
command_whole t block word answer t' before after h k =
    command_keeps KeptWhole t k block word answer t' before after (λ passed _. queued_whole t k block (entry_in word) (ltb-true _ 4 passed.room) passed.waits) h

-- ### check, remove, release

pub check_whole : (t : Table) (pattern : ℕ) (answer : Result ℕ Fault) (t' : Table) (before after : List Line)
    → Check t pattern answer t' before after → KeptWhole t → KeptWhole t'
check_whole t pattern answer t' before after h k = check_keeps KeptWhole t k pattern answer t' before after (λ _. check_changed_whole t k (Some pattern)) h

pub remove_whole : (t : Table) (pattern : ℕ) (answer : Result (Unit {0}) Fault) (t' : Table) → Remove t pattern answer t' → KeptWhole t → KeptWhole t'
remove_whole t pattern answer t' h k = remove_keeps KeptWhole t k pattern answer t' (λ _. check_changed_whole _ (emptied_whole t pattern k) None) h

pub release_whole : (t : Table) (pattern : ℕ) (answer : Result (Unit {0}) Fault) (t' : Table) → Release t pattern answer t' → KeptWhole t → KeptWhole t'
release_whole t pattern answer t' h k = release_keeps KeptWhole t k pattern answer t' (check_changed_whole t k None) h
