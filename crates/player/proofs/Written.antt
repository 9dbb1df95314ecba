-- An image has at most 3,073 words.
use Rattle.std.proofs.Common.{◌≡◌, ℕ, ◌+◌, ◌*◌, ◌≤◌, List, [], ◌∷◌, length, Some, None, Option, arith, length-append}
use Rattle.words.specs.declared.node.Alternatives.{Alternatives}
use Rattle.words.specs.declared.node.Alternatives.TheVariants as ways
use Rattle.words.specs.declared.node.Body.{Body}
use Rattle.words.specs.declared.node.Body.TheVariants as body
use Rattle.words.specs.declared.node.Node.{Node}
use Rattle.words.specs.declared.word.Word.TheVariants.{End}
use Rattle.words.specs.Format.{written}
use Rattle.image.specs.Nodes.{alternative_words, body_words, node_words, nodes_words, live, image_words}

few_alternatives : (a : Alternatives) → length (alternative_words a) ≤ 3
few_alternatives ways.None = omega arith
few_alternatives (ways.One x) = omega arith
few_alternatives (ways.Two x y) = omega arith
few_alternatives (ways.Three x y z) = omega arith

few_body : (b : Body) → length (body_words b) ≤ 5
few_body (body.Message next offset event) = omega arith
few_body (body.Block next period alternatives) = omega (arith, few_alternatives alternatives)
few_body (body.Flow next offset target order) = omega arith

few_nodes : (place : ℕ) (places : List (Option Node)) → length (nodes_words place places) ≤ 6 * length places
few_nodes place [] = omega arith
few_nodes place (None ∷ places) = omega (arith, few_nodes (place + 1) places)
few_nodes place (Some node ∷ places) =
    omega (arith, few_nodes (place + 1) places, few_body node.body, length-append (node_words place node) (nodes_words (place + 1) places))

pub few_words : (places : List (Option Node)) → length places ≡ 512 → length (image_words places) ≤ 3073
few_words places h = omega (arith, few_nodes 0 places, length-append (nodes_words 0 places) (written (End (live places)) ∷ []))
