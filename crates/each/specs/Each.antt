-- A change of each element of a list, beside another list.
use Rattle.std.specs.Prelude.{◌≡◌, List, [], ◌∷◌}

-- elements that have no partner stay
abbrev pub zipped : {X Y : Type 0} → (X → Y → X) → List X → List Y → List X
zipped f [] ys = []
zipped f (x ∷ xs) [] = x ∷ xs
zipped f (x ∷ xs) (y ∷ ys) = f x y ∷ zipped f xs ys

-- The first list became the last by an answer for each element and its partner; elements that have none stayed.
abbrev pub ChangedEach : {X Y : Type 0} → (X → Y → X → Type 0) → List X → List Y → List X → Type 0
ChangedEach Answers [] ys zs = zs ≡ []
ChangedEach Answers (x ∷ xs) [] zs = zs ≡ x ∷ xs
ChangedEach Answers (x ∷ xs) (y ∷ ys) [] = ⊥
ChangedEach Answers (x ∷ xs) (y ∷ ys) (z ∷ zs) = Answers x y z × ChangedEach Answers xs ys zs

-- whatever is answered for two elements is what the function gives there
abbrev pub Computes : {X Y : Type 0} → (X → Y → X → Type 0) → (X → Y → X) → Type 0
Computes {X} {Y} Answers f = (x : X) (y : Y) (z : X) → Answers x y z → z ≡ f x y
