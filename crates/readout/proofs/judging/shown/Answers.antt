use Rattle.std.proofs.Common.{◌≡◌, ℕ, min, List, ◌++◌, length, take, drop, sym, ap, ◌∙◌, ⊎_elim, arith}
use Rattle.std.proofs.lemmas.List.{take_at, take_all, length-take-le}
use Rattle.std.proofs.lemmas.Bool.{cases_lt}
use Rattle.readout.specs.Bytes.{packed}
use Rattle.readout.proofs.Packing.{length-packed}
use Rattle.readout.proofs.judging.shown.Goals as goal

-- the part of the memory that was written is the front of what was to be written
front : {X : Type 0} (new old memory : List X) (count room : ℕ) → count ≡ min (length new) room → memory ≡ take count new ++ drop count old → take count memory ≡ take room new
front new old memory count room e m =
    let part = take_at (take count new) (drop count old) count (length-take-le count new (omega arith)) in
    let same : take count new ≡ take room new = ⊎_elim
    (λ few. take_all count new (omega arith) ∙ sym (take_all room new (omega arith)))
    (λ many. let full : count ≡ room = omega arith in ap (λ n. take n new) full)
    (cases_lt (length new) room) in
    ap (take count) m ∙ part ∙ same

pub returns : goal.returns
returns g c =
    let bytes = c.args.bytes.now in
    let words = front (packed bytes) _ _ c.pack-count.result 4096 (c.pack-count.ensures.count ∙ ap (λ n. min n 4096) (sym (length-packed bytes))) c.pack-count.ensures.after in
    record { answer = c.load.result; answers = (_, c.load.ensures, words); tells = c.judged.ensures }
