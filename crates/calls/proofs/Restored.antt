-- What is put back is as it was.
use Rattle.std.proofs.Common.{◌≡◌, ℕ, ◌<◌, Bool, true, false, cond, List, get_or, set, ap, ◌∙◌, set-set, lt-ltb}
use lib.Seq.{set-get_or}
use Rattle.lanes.specs.declared.lane.Lane.{Lane}
use Rattle.lanes.specs.declared.lane.LaneCall.TheVariants.{Start}
use Rattle.lanes.specs.declared.lane.LaneState.{LaneState}
use Rattle.lanes.specs.declared.lane.LaneState.TheVariants.{Idle, Running}
use Rattle.lanes.specs.declared.record.Lanes.{Lanes}
use Rattle.lanes.specs.Calls.{state_answer, moved, lane_after}
use Rattle.lanes.specs.Lanes.{idle_lane, lane_at, with_lane, call_leaves}
use Rattle.table.specs.declared.state.Rows.{Rows}
use Rattle.table.specs.declared.state.Table.{Table}
use Rattle.table.specs.Tables.{empty_rows}
use Rattle.table.specs.Changes.{rows_at, rows_changed}
use Rattle.calls.specs.Trials.{running}

-- an element written over another, with what was there before, leaves the list as it was
set_back : {A : Type 0} (xs : List A) (i : ℕ) (x d : A) → set (set xs i x) i (get_or xs i d) ≡ xs
set_back xs i x d = set-set xs i x (get_or xs i d) ∙ set-get_or xs i d

-- a lane that was changed, with what it was put back
pub lane_back : (lanes tried : Lanes Lane) (i : ℕ) (lane : Lane) → tried ≡ with_lane lanes i lane → with_lane tried i (lane_at lanes i) ≡ lanes
lane_back lanes tried i lane t =
    ap (λ (l : Lanes Lane). with_lane l i (lane_at lanes i)) t
    ∙ ap (λ (items : List Lane). let r : Lanes Lane = record { lanes = record { items = items } } in r) (set_back lanes.lanes.items i lane idle_lane)

idle_started : (lane : Lane) (place tick : ℕ) → lane.state ≡ Idle → lane_after lane (Start place tick) ≡ record { state = Running place tick; sent = lane.sent }
idle_started lane place tick e = ap (λ (state : LaneState). moved lane (state_answer state (Start place tick))) e

-- an idle lane that is started runs
pub started_lanes : (lanes : Lanes Lane) (i place tick : ℕ) → i < 8 → (lane_at lanes i).state ≡ Idle → call_leaves lanes i (Start place tick) ≡ running lanes i place tick
started_lanes lanes i place tick h e =
    ap (λ (b : Bool). cond b (with_lane lanes i (lane_after (lane_at lanes i) (Start place tick))) lanes) (lt-ltb i 8 h)
    ∙ ap (with_lane lanes i) (idle_started (lane_at lanes i) place tick e)

-- a lane that is only looked at stays
pub lane_same : (lanes : Lanes Lane) (i : ℕ) (lane : Lane) → lane ≡ lane_at lanes i → with_lane lanes i lane ≡ lanes
lane_same lanes i lane e =
    ap (with_lane lanes i) e ∙ ap (λ (items : List Lane). let r : Lanes Lane = record { lanes = record { items = items } } in r) (set-get_or lanes.lanes.items i idle_lane)

rows_back : (t : Table) (b : ℕ) (rows : Rows) → rows_changed (rows_changed t b rows) b (rows_at t b) ≡ t
rows_back t b rows =
    ap (λ (all : List Rows). let r : Table = record { nodes = t.nodes; rows = all; lanes = t.lanes; check = t.check } in r) (set_back t.rows b rows empty_rows)

-- a table whose rows at a place were changed, with the rows that were there before put back
pub put_back : (t changed : Table) (b : ℕ) (rows kept : Rows) (all : List Rows) → changed ≡ rows_changed t b rows → kept ≡ rows_at t b → all ≡ set changed.rows b kept
    → ◌≡◌ {A = Table} (record { nodes = changed.nodes; rows = all; lanes = changed.lanes; check = changed.check }) t
put_back t changed b rows kept all q k w =
    ap (λ (x : List Rows). let r : Table = record { nodes = changed.nodes; rows = x; lanes = changed.lanes; check = changed.check } in r) w
    ∙ ap (rows_changed changed b) k ∙ ap (λ (x : Table). rows_changed x b (rows_at t b)) q ∙ rows_back t b rows
