use Rattle.std.proofs.Common.{sym, ◌∙◌}
use Rattle.image.proofs.Run.{only_accepted, all_accepted}
use Rattle.image.proofs.Refusals.{refused}
use Rattle.image.proofs.reader.read.Goals as goal

pub returns : goal.returns
returns c =
    let ws = c.args.words.now in
    let is = c.read_nodes.ensures in
    record {
      value = is;
      accepts = λ image. (λ e. only_accepted ws image (sym is ∙ e), λ a. is ∙ all_accepted ws image a);
      refuses = λ fault e. refused ws fault (sym is ∙ e);
      writes_back = λ image e. sym (only_accepted ws image (sym is ∙ e)).words;
    }
