use Rattle.std.proofs.Common.{rules}
use Rattle.first_in.proofs.Filled.{filled_map}
use Rattle.first_in_uses.specs.Lines.{line_of}
use Rattle.first_in_uses.proofs.lines.gather.Goals as goal

pub returns-clause-lines : goal.returns-clause-lines
returns-clause-lines c =
    let e = c.gather.ensures in
    filled_map line_of (λ x y h. search rules) c.args.places.now c.args.lines.now c.gather.new.slots c.gather.result e.each e.behind
