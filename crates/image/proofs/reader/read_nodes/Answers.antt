use Rattle.std.proofs.Common.{◌≡◌, ◌+◌, drop, Some, None, Ok, sym, ap, ◌∙◌, arith, length-set}
use Rattle.std.proofs.lemmas.Result.{err_from_is_err_and}
use Rattle.image.specs.Reading.{node_of, part_size}
use Rattle.image.proofs.Loop.{one_more, all, refused}
use Rattle.image.proofs.reader.read_nodes.Goals as goal

pub loop-placed-preserved : goal.loop-placed-preserved
loop-placed-preserved c =
    let r = c.loop-placed.reader in
    let places = c.loop-placed.places in
    let p = c.in-Some.placed in
    let ws = c.args.words.now in
    let told = c.in_ok-placed.ensures in
    let was : Ok (Some p) ≡ node_of (drop r.position ws) r.position r.floor r.count =
    ap Ok (sym c.in-Some.is) ∙ told.value ∙ ap (λ w. node_of (drop r.position w) r.position r.floor r.count) c.loop-placed.invariant.0 in
    let position : c.node.new.self.position ≡ r.position + part_size (Some p) = rw c.in-Some.is at told.position in
    let floor : c.node.new.self.floor ≡ p.place + 1 = rw c.in-Some.is at told.floor in
    let count : c.node.new.self.count ≡ r.count + 1 = rw c.in-Some.is at told.count in
    let more = one_more ws r.position r.floor r.count places (omega (arith, r.counted, r.low)) p was in
    let done = c.loop-placed.invariant.2 in
    (ap (λ w. w.now) told.same ∙ c.loop-placed.invariant.0, length-set places p.place (Some p.node) ∙ c.loop-placed.invariant.1, cc)

pub returns-in_err-placed : goal.returns-in_err-placed
returns-in_err-placed c =
    let r = c.loop-placed.reader in
    let p = err_from_is_err_and c.from_residual.result c.from_residual.ensures.1 in
    let was = c.in_err-placed.ensures.value ∙ ap (λ w. node_of (drop r.position w) r.position r.floor r.count) c.loop-placed.invariant.0 in
    rw (p.1, p.2) (sym (refused c.args.words.now r.position r.floor r.count c.loop-placed.places (omega (arith, r.counted, r.low)) _ was) ∙ c.loop-placed.invariant.2)

pub returns : goal.returns
returns c =
    let r = c.loop-placed.reader in
    let count : c.node.new.self.count ≡ r.count = rw c.in_default.is at c.in_ok-placed.ensures.count in
    let was : Ok None ≡ node_of (drop r.position c.args.words.now) r.position r.floor r.count =
    ap Ok (sym c.in_default.is) ∙ c.in_ok-placed.ensures.value ∙ ap (λ w. node_of (drop r.position w) r.position r.floor r.count) c.loop-placed.invariant.0 in
    rw count (sym (all c.args.words.now r.position r.floor r.count c.loop-placed.places (omega (arith, r.counted, r.low)) was) ∙ c.loop-placed.invariant.2)
