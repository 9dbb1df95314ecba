use Rattle.std.proofs.Common.{◌≡◌, ◌<◌, Bool, cond, is_ok, ap, ◌∙◌, subst, rules}
use Rattle.lanes.specs.declared.lane.Lane.{Lane}
use Rattle.lanes.specs.declared.lane.LaneCall.TheVariants.{Start}
use Rattle.lanes.specs.declared.lane.LaneState.TheVariants.{Running}
use Rattle.lanes.specs.declared.record.Lanes.{Lanes}
use Rattle.lanes.specs.Lanes.{lane_at, call_leaves}
use Rattle.calls.specs.declared.trial.Trial.{Trial}
use Rattle.calls.specs.Trials.{running, with_lanes, put_back, Allows}
use Rattle.calls.proofs.Restored.{started_lanes, lane_back}
use Rattle.calls.proofs.trial.try_start.Goals as goal
use Rattle.calls.proofs.trial.try_start.Goals.{then-is_ok, else-is_ok}

pub returns : goal.returns
returns c =
    let lanes = c.args.lanes.now in
    let i = c.args.lane in
    let place = c.args.place in
    let tick = c.args.tick in
    let parts = c.new-trial.ensures.parts in
    let number = c.from.ensures in
    let tried : c.call.new.self ≡ running lanes i place tick =
    c.call.ensures.after
    ∙ ap (λ n. call_leaves c.new-trial.result.lanes.now n (Start place tick)) number.0
    ∙ ap (λ (l : Lanes Lane). call_leaves l i (Start place tick)) parts.0
    ∙ started_lanes lanes i place tick (subst (λ n. n < 8) number.0 number.1) c.requires.idle in
    let P : Lanes Lane → Type 0 = λ l. Allows (with_lanes c.args.table.now l) c.judge-answer.result c.args.chain.now c.judge-answer.new.chain in
    let Left : Trial → Lanes Lane = λ trial. put_back trial.lanes.now trial.lane trial.before in
    let kept : Bool → Lanes Lane = λ accepted. cond accepted (running lanes i place tick) lanes in
    let left : Left c.if-is_ok.trial ≡ kept (is_ok c.judge-answer.result) =
    elim c.if-is_ok.branch [
      | then-is_ok w ↦ ap Left w.trial-is ∙ tried ∙ ap kept w.if-is_ok.ensures.value
      | else-is_ok w ↦
          ap Left w.trial-is
          ∙ ap (λ n. put_back c.call.new.self n c.new-trial.result.before) parts.1.0
          ∙ ap (put_back c.call.new.self i) parts.1.1
          ∙ lane_back lanes c.call.new.self i (record { state = Running place tick; sent = (lane_at lanes i).sent }) tried
          ∙ ap kept w.if-is_ok.ensures.value
    ] in
    record { judged = subst P tried c.judge-answer.ensures; after = search rules }
