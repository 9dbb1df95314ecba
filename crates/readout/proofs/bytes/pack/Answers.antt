use Rattle.std.proofs.Common.{◌≡◌, ◌-◌, ◌*◌, min, length, ap, ◌∙◌, ⊎_elim, length-drop, arith}
use Rattle.std.proofs.lemmas.Bool.{cases_lt}
use Rattle.readout.proofs.Packing.{packs_chunk}
use Rattle.readout.proofs.bytes.pack.Goals as goal

pub loop-k-preserved : goal.loop-k-preserved
loop-k-preserved c =
    let s = c.loop-k.k-iterator in
    let i = c.loop-k.invariant in
    let e = c.in-Some.ensures.steps in
    let chunk = e.0.0 in
    let size = chunk.1.1 ∙ ap (λ n. min n (length s.iter.iter.rest.now)) i.3 in
    let more = packs_chunk c.args.bytes.now c.args.words.now c.loop-k.words _ c.in-Some.four.now _ s.count c.first_word.result i.2 chunk.1.0 size chunk.1.2 (omega arith) i.0 c.first_word.ensures in
    rw (e.1, e.2) (more.0, omega arith, more.1, chunk.0 ∙ i.3)

-- the loop ends where all words are written, for no chunk is left before
pub returns-clause-after : goal.returns-clause-after
returns-clause-after c =
    let s = c.loop-k.k-iterator in
    let i = c.loop-k.invariant in
    let left : length s.iter.iter.rest.now ≡ length c.args.bytes.now - 4 * s.count = ap length i.2 ∙ length-drop (4 * s.count) c.args.bytes.now in
    let all : s.count ≡ c.min-count.result = ⊎_elim
    (λ more. let none = (c.in-None.ensures.steps.0 more).1.0 in omega (arith, c.div_ceil.ensures, c.min-count.ensures))
    (λ spent. omega arith)
    (cases_lt 0 s.iter.n) in
    rw all at i.0
