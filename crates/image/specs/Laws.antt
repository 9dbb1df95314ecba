-- What reading and writing an image mean, without the steps of the reader.
use Rattle.std.specs.Prelude.{◌≡◌, ℕ, ◌<◌, ◌≤◌, ◌⊎◌, List, ◌++◌, length, take, Some, None, Ok, Err, Option, Result, ◌≢◌, slice_index, slice_index_or}
use Rattle.words.specs.declared.fault.Fault.{Fault}
use Rattle.words.specs.declared.node.Node.{Node}
use Rattle.words.specs.declared.word.Kind.{Kind}
use Rattle.words.specs.declared.word.Word.TheVariants.{Head, End}
use Rattle.words.specs.Faults.{number_of, place_of}
use Rattle.words.specs.Format.{read}
use Rattle.image.specs.declared.places.Image.{Image}
use Rattle.image.specs.declared.places.TooShort.{TooShort}
use Rattle.image.specs.Nodes.{nodes_words, image_words, live, Proper}
use Rattle.image.specs.Reading.{read_image}

-- ### which images are accepted

-- the words are those of allowed nodes in rising places, and then the end word with their number
pub record Accepted (ws : List ℕ) (image : Image) : Type 0 where
  pub proper : Proper image.places
  pub words : ws ≡ image_words image.places
  pub count : image.nodes ≡ live image.places

-- the answer accepts exactly the accepted images
abbrev pub Accepts : List ℕ → Result Image Fault → Type 0
Accepts ws answer = (image : Image) → (answer ≡ Ok image → Accepted ws image) × (Accepted ws image → answer ≡ Ok image)

-- ### where an image is refused, and with which number

-- the beginning of some accepted image
abbrev pub Begun : List ℕ → Type 0
Begun ws = (more : List ℕ) × (image : Image) × Accepted (ws ++ more) image

-- a word is at the position, and the words before it are those of whole nodes
pub record Boundary (ws : List ℕ) (position : ℕ) (places : List (Option Node)) : Type 0 where
  pub there : position < length ws
  pub proper : Proper places
  pub nodes : take position ws ≡ nodes_words 0 places

-- an end word with a wrong count
abbrev pub Miscounted : List ℕ → ℕ → Type 0
Miscounted ws position = (places : List (Option Node)) × Boundary ws position places × (n : ℕ) × (read (slice_index ws position) ≡ Some (End n)) × (n ≢ live places)

-- a word after the end word
abbrev pub Followed : List ℕ → ℕ → Type 0
Followed ws position = (position < length ws) × (image : Image) × Accepted (take position ws) image

-- number 6: the image ends there without its end word, or one of the two
abbrev pub Torn : List ℕ → ℕ → Type 0
Torn ws position = (position ≡ length ws) ⊎ (Miscounted ws position ⊎ Followed ws position)

-- number 5: a head whose place is not above that of some node before it
abbrev pub Falling : List ℕ → ℕ → Type 0
Falling ws position = (places : List (Option Node)) × Boundary ws position places
    × (kind : Kind) × (pattern place : ℕ) × (read (slice_index ws position) ≡ Some (Head kind pattern place))
    × (last : ℕ) × (node : Node) × (place ≤ last) × (slice_index_or places last None ≡ Some node)

pub record Refused (ws : List ℕ) (fault : Fault) : Type 0 where
  -- the position is the length of the longest beginning of the image that is also the beginning of some accepted image
  pub within : place_of fault ≤ length ws
  pub begun : Begun (take (place_of fault) ws)
  pub longest : (k : ℕ) → k ≤ length ws → Begun (take k ws) → k ≤ place_of fault
  -- the number is 6 or 5 exactly where these say so, and 4 otherwise
  pub six : (number_of fault ≡ 6 → Torn ws (place_of fault)) × (Torn ws (place_of fault) → number_of fault ≡ 6)
  pub five : (number_of fault ≡ 5 → Falling ws (place_of fault)) × (Falling ws (place_of fault) → number_of fault ≡ 5)

abbrev pub Refuses : List ℕ → Result Image Fault → Type 0
Refuses ws answer = (fault : Fault) → answer ≡ Err fault → Refused ws fault

-- ### writing and reading back

-- what the answer says was written into out, from proper places, is read as the same places
abbrev pub ReadsBack : List (Option Node) → Result ℕ TooShort → List ℕ → Type 0
ReadsBack places answer out = Proper places → (n : ℕ) → answer ≡ Ok n → read_image (take n out) ≡ Ok (record { places = places; nodes = live places })

-- what is read from an image is written back as the same words
abbrev pub WritesBack : List ℕ → Result Image Fault → Type 0
WritesBack ws answer = (image : Image) → answer ≡ Ok image → image_words image.places ≡ ws
