use Rattle.std.proofs.Common.{◌≡◌, ◌≤◌, length, set, sym, ap, ◌∙◌, zero-add, arith, rules}
use Rattle.std.proofs.lemmas.Bool.{cond_above}
use Rattle.words.specs.declared.word.Word.TheVariants.{End}
use Rattle.words.specs.Format.{written}
use Rattle.image.specs.Nodes.{image_words, nodes_words}
use Rattle.image.specs.Writing.{write_leaves}
use Rattle.image.proofs.Puts.{image_long, nodes_long, live_counted, puts_image}
use Rattle.image.proofs.writer.write_image.Goals as goal

pub returns-clause-after : goal.returns-clause-after
returns-clause-after c =
    let ps = c.args.places.now in
    let out = c.args.words.now in
    let size = length (nodes_words 0 ps) in
    let end = written (End c.live.result) in
    let room : length (image_words ps) ≤ length out = omega (arith, image_long ps, nodes_long 0 ps, c.needed-needed.ensures.value, c.if-words-needed.false) in
    let put : c.put.new.self.words.now ≡ set c.put_nodes.new.self.words.now size end =
    c.put.ensures.words ∙ ap (λ i. set c.put_nodes.new.self.words.now i end) (c.put_nodes.ensures.position ∙ zero-add _) in
    let nodes = ap (λ o. set o size end) c.put_nodes.ensures.words in
    let counted = ap (λ k. written (End k)) (c.live.ensures.value ∙ sym (live_counted ps)) in
    let leaves : c.put.new.self.words.now ≡ write_leaves ps out =
    cond_above (length out) (length (image_words ps)) _ _ _ room (put ∙ nodes ∙ puts_image out ps _ counted room) in
    search rules
