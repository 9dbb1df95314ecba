-- The words of nodes and of images, and which nodes are allowed.
use Rattle.std.specs.Prelude.{◌≡◌, ℕ, ◌+◌, ◌^◌, ◌<◌, ◌≤◌, List, [], ◌∷◌, ◌++◌, length, Some, None, Option}
use Rattle.std.specs.List.{AllByRecursion}
use Rattle.words.specs.declared.node.Exit.{Exit}
use Rattle.words.specs.declared.node.Exit.TheVariants.{Place}
use Rattle.words.specs.declared.node.Alternatives.{Alternatives}
use Rattle.words.specs.declared.node.Alternatives.TheVariants as ways
use Rattle.words.specs.declared.node.Body.{Body}
use Rattle.words.specs.declared.node.Body.TheVariants as body
use Rattle.words.specs.declared.node.Node.{Node}
use Rattle.words.specs.declared.word.Kind.{Kind}
use Rattle.words.specs.declared.word.Kind.TheVariants as kinds
use Rattle.words.specs.declared.word.Word.TheVariants as word
use Rattle.words.specs.Format.{written, AllowedExit, AllowedOrder}

abbrev pub kind_of : Body → Kind
kind_of (body.Message next offset event) = kinds.Message
kind_of (body.Block next period alternatives) = kinds.Block
kind_of (body.Flow next offset target order) = kinds.Flow

-- ### words

abbrev pub alternative_words : Alternatives → List ℕ
alternative_words ways.None = []
alternative_words (ways.One x) = written (word.Alternative x) ∷ []
alternative_words (ways.Two x y) = written (word.Alternative x) ∷ written (word.Alternative y) ∷ []
alternative_words (ways.Three x y z) = written (word.Alternative x) ∷ written (word.Alternative y) ∷ written (word.Alternative z) ∷ []

-- the words of a node after its head
abbrev pub body_words : Body → List ℕ
body_words (body.Message next offset event) = written (word.Next (Place next)) ∷ written (word.Time offset) ∷ written (word.Event event) ∷ []
body_words (body.Block next period alternatives) = written (word.Next next) ∷ written (word.Time period) ∷ alternative_words alternatives
body_words (body.Flow next offset target order) = written (word.Next (Place next)) ∷ written (word.Time offset) ∷ written (word.Target target) ∷ written (word.Order order) ∷ []

abbrev pub node_words : ℕ → Node → List ℕ
node_words place node = written (word.Head (kind_of node.body) node.pattern place) ∷ body_words node.body

-- the words of the nodes of a list of places, of which the first has the number given
abbrev pub nodes_words : ℕ → List (Option Node) → List ℕ
nodes_words place [] = []
nodes_words place (None ∷ places) = nodes_words (place + 1) places
nodes_words place (Some node ∷ places) = node_words place node ++ nodes_words (place + 1) places

-- how many of the places have a node
abbrev pub live : List (Option Node) → ℕ
live [] = 0
live (None ∷ places) = live places
live (Some node ∷ places) = 1 + live places

-- the nodes in rising places, and then the end word with their number
abbrev pub image_words : List (Option Node) → List ℕ
image_words places = nodes_words 0 places ++ written (word.End (live places)) ∷ []

-- ### which nodes are allowed

abbrev pub Differ : Exit → Exit → Type 0
Differ x y = x ≡ y → ⊥

-- all alternatives are allowed, and differ from each other and from the next
abbrev pub AllowedAlternatives : Exit → Alternatives → Type 0
AllowedAlternatives next ways.None = Unit {0}
AllowedAlternatives next (ways.One x) = AllowedExit x × Differ x next
AllowedAlternatives next (ways.Two x y) = (AllowedExit x × Differ x next) × (AllowedExit y × Differ y next × Differ y x)
AllowedAlternatives next (ways.Three x y z) = (AllowedExit x × Differ x next) × (AllowedExit y × Differ y next × Differ y x) × (AllowedExit z × Differ z next × Differ z x × Differ z y)

abbrev pub AllowedBody : Body → Type 0
AllowedBody (body.Message next offset event) = (next < 512) × (offset < 2 ^ 28) × (event < 2 ^ 28)
AllowedBody (body.Block next period alternatives) = AllowedExit next × ((1 ≤ period) × (period < 2 ^ 28)) × AllowedAlternatives next alternatives
AllowedBody (body.Flow next offset target order) = (next < 512) × (offset < 2 ^ 28) × (target < 512) × AllowedOrder order

abbrev pub AllowedNode : Node → Type 0
AllowedNode node = (node.pattern < 256) × AllowedBody node.body

abbrev pub AllowedPlace : Option Node → Type 0
AllowedPlace None = Unit {0}
AllowedPlace (Some node) = AllowedNode node

-- 512 places, each empty or with an allowed node
pub record Proper (places : List (Option Node)) : Type 0 where
  pub count : length places ≡ 512
  pub each : AllByRecursion AllowedPlace places
