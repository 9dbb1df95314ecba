-- Whether a scene leads to a place of some kind is found by following its grounds; the finding is then examined.
use Rattle.std.proofs.Common.{◌≡◌, ℕ, zero, suc, Bool, true, cond, not, ◌&&◌, List, [], ◌∷◌, ◌++◌, Some, None, Option}
use Rattle.std.proofs.lemmas.Bool.{and_parts}
use Rattle.rows.specs.declared.plain.PlainRow.{PlainRow}
use Rattle.reach.specs.declared.line.Letter.{Letter}
use Rattle.reach.specs.declared.line.Letter.TheVariants as letter
use Rattle.reach.specs.declared.line.Line.{Line}
use Rattle.reach.specs.Scenes.{Scene, node_in, rows_in, lane_in}
use Rattle.reach.specs.Chains.{Shows}
use Rattle.reach.specs.Verdicts.{ComesTo}
use Rattle.reach.specs.Book.{state_place, next_place, waiting_place, target_of, flow_place}
use Rattle.cases.proofs.Checks.{every}
use Rattle.cases.proofs.Spread.{closed, none_comes}
use Rattle.cases.proofs.Shown.{places, follows, named, shows, shows_is}

-- ### following the grounds

-- the line by a ground that may lead to a place
abbrev pub line_to : Letter → ℕ → ℕ → Option ℕ → List Line
line_to x m n None = []
line_to x m n (Some p) = record { place = p; letter = x; first = m; second = n } ∷ []

abbrev pub lane_lines : Scene → ℕ → List Line
lane_lines s zero = []
lane_lines s (suc l) = lane_lines s l ++ line_to letter.Lane l 0 (state_place (lane_in s l).state)

abbrev pub row_lines : ℕ → PlainRow → ℕ → List Line
row_lines m row zero = []
row_lines m row (suc k) = row_lines m row k ++ line_to letter.Queue m 0 (waiting_place row k)

abbrev pub lines_from : Scene → List ℕ → List Line
lines_from s [] = []
lines_from s (m ∷ ms) =
    line_to letter.Next m 0 (next_place (node_in s m))
    ++ row_lines m (rows_in s m).urgent 4
    ++ row_lines m (rows_in s m).plain 4
    ++ line_to letter.Flow m (target_of (node_in s m)) (flow_place (node_in s m))
    ++ lines_from s ms

-- those of the lines that follow, in their order
abbrev pub grown : Scene → List Line → List Line → List Line
grown s c [] = c
grown s c (l ∷ ls) = grown s (cond (follows s c l) (c ++ (l ∷ [])) c) ls

abbrev pub rounds : Scene → ℕ → List Line → List Line
rounds s zero c = c
rounds s (suc n) c = rounds s n (grown s c (lines_from s (places c)))

-- eight rounds are enough for the few places here; where they are not, the list is not closed
abbrev pub all_lines : Scene → List Line
all_lines s = rounds s 8 (grown s [] (lane_lines s 8))

-- ### the finding

-- no place of the kind is come to, or one is, by a chain
pub data Finding : Type 0 where
  clear : (ps : List ℕ) → Finding
  led : (place : ℕ) (chain : List Line) → Finding

-- only what the last line needs
abbrev pub kept : List Line → List Line
kept [] = []
kept (l ∷ []) = l ∷ []
kept (l ∷ (m ∷ c)) = cond (named (kept (m ∷ c)) l.place) (l ∷ kept (m ∷ c)) (kept (m ∷ c))

-- the lines before the first place of the kind, and those behind
abbrev pub found : (ℕ → Bool) → List ℕ → List Line → List Line → Finding
found kind ps front [] = clear ps
found kind ps front (l ∷ c) = cond (kind l.place) (led l.place (kept (front ++ (l ∷ [])))) (found kind ps (front ++ (l ∷ [])) c)

abbrev pub finding_in : (ℕ → Bool) → List Line → Finding
finding_in kind c = found kind (places c) [] c

abbrev pub finding : Scene → (ℕ → Bool) → Finding
finding s kind = finding_in kind (all_lines s)

-- it is examined, so that how it was found does not matter
abbrev pub sure : Scene → (ℕ → Bool) → Finding → Bool
sure s kind (clear ps) = closed s ps && every (λ p. not (kind p)) ps
sure s kind (led p c) = kind p && shows s c p

-- a kind of places told by a question
pub record ToldBy (Kind : ℕ → Type 0) (kind : ℕ → Bool) : Type 0 where
  pub yes : (p : ℕ) → Kind p → kind p ≡ true
  pub is : (p : ℕ) → kind p ≡ true → Kind p

-- what the finding means
abbrev pub Means : Scene → (ℕ → Type 0) → Finding → Type 0
Means s Kind (clear ps) = ComesTo s Kind → ⊥
Means s Kind (led p c) = Kind p × Shows s c p

pub sure_means : (s : Scene) (Kind : ℕ → Type 0) (kind : ℕ → Bool) → ToldBy Kind kind → (f : Finding) → sure s kind f ≡ true → Means s Kind f
sure_means s Kind kind told (clear ps) h =
    let a = and_parts (closed s ps) (every (λ p. not (kind p)) ps) h in
    none_comes ps s a.0 Kind kind told.yes a.1
sure_means s Kind kind told (led p c) h = let a = and_parts (kind p) (shows s c p) h in (told.is p a.0, shows_is s c p a.1)
