-- One line more in a chain.
use Rattle.std.proofs.Common.{◌≡◌, ◌+◌, ◌<◌, ltb, [], ◌∷◌, ◌++◌, length, set, ap, ◌∙◌, arith}
use Rattle.std.proofs.lemmas.List.{length-set, take_more_set}
use Rattle.std.proofs.lemmas.Bool.{lt-ltb, cond-true}
use Rattle.rules.specs.declared.chain.Chain.{Chain}
use Rattle.rules.specs.declared.chain.Line.{Line}
use Rattle.rules.specs.Chain.{lines_of}
use Rattle.rules.specs.Steps.{pushed}

pushed_is : (c : Chain) (l : Line) → c.len < 512 → pushed c l ≡ record { lines = set c.lines c.len l; len = c.len + 1 }
pushed_is c l h = cond-true (ltb c.len 512) _ _ (lt-ltb c.len 512 h)

-- where there is room the lines are those that were, and the new one
pub lines_pushed : (c : Chain) (l : Line) → length c.lines ≡ 512 → c.len < 512 → lines_of (pushed c l) ≡ lines_of c ++ (l ∷ [])
lines_pushed c l long h = ap lines_of (pushed_is c l h) ∙ take_more_set c.lines c.len l (omega arith)

pub pushed_long : (c : Chain) (l : Line) → length c.lines ≡ 512 → c.len < 512 → length (pushed c l).lines ≡ 512
pushed_long c l long h = ap (λ d. length d.lines) (pushed_is c l h) ∙ length-set c.lines c.len l ∙ long

pub pushed_len : (c : Chain) (l : Line) → c.len < 512 → (pushed c l).len ≡ c.len + 1
pushed_len c l h = ap (λ d. d.len) (pushed_is c l h)
