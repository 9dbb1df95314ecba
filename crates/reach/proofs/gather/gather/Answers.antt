use Rattle.std.proofs.Common.{rules}
use Rattle.first_in.proofs.Filled.{filled_map}
use Rattle.reach.specs.Views.{scene_in}
use Rattle.reach.specs.Book.{line_of}
use Rattle.reach.proofs.Filled.{filled_whole}
use Rattle.reach.proofs.gather.gather.Goals as goal

pub returns : goal.returns
returns c =
    let e = c.gather.ensures in
    let f = line_of (scene_in c.args.view.now) in
    let xs = c.args.lines.now in
    let start = c.args.chain.now in
    let n = c.gather.result in
    filled_whole f xs start c.gather.new.slots n e.count (filled_map f (λ x y h. search rules) xs start c.gather.new.slots n e.each e.behind)
