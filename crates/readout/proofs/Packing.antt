-- The words that bytes fill: how many there are, and what stands at each place.
use Rattle.std.proofs.Common.{◌≡◌, ℕ, zero, suc, ◌+◌, ◌*◌, ◌<◌, min, List, [], ◌∷◌, ◌++◌, length, get_or, take, drop, set, sym, refl, ap, ◌∙◌, subst, arith}
use Rattle.std.proofs.lemmas.List.{take_more, drop_more, drop-drop, set_at, append_assoc, length-drop, length-take-le}
use Rattle.readout.specs.Bytes.{first_word, words_in, packed}

pub length-packed : (bytes : List ℕ) → length (packed bytes) ≡ words_in bytes
length-packed [] = refl
length-packed (a ∷ []) = refl
length-packed (a ∷ b ∷ []) = refl
length-packed (a ∷ b ∷ c ∷ []) = refl
length-packed (a ∷ b ∷ c ∷ d ∷ rest) = omega (arith, length-packed rest)

pub packed_at : (bytes : List ℕ) (k : ℕ) → k < words_in bytes → get_or (packed bytes) k 0 ≡ first_word (drop (4 * k) bytes)
packed_at [] k h = absurd (omega arith)
packed_at (a ∷ []) zero h = refl
packed_at (a ∷ []) (suc k) h = absurd (omega arith)
packed_at (a ∷ b ∷ []) zero h = refl
packed_at (a ∷ b ∷ []) (suc k) h = absurd (omega arith)
packed_at (a ∷ b ∷ c ∷ []) zero h = refl
packed_at (a ∷ b ∷ c ∷ []) (suc k) h = absurd (omega arith)
packed_at (a ∷ b ∷ c ∷ d ∷ rest) zero h = refl
packed_at (a ∷ b ∷ c ∷ d ∷ rest) (suc k) h =
    let four : 4 * suc k ≡ suc (suc (suc (suc (4 * k)))) = omega arith in
    packed_at rest k (omega arith) ∙ ap (λ n. first_word (drop n (a ∷ b ∷ c ∷ d ∷ rest))) (sym four)

-- one word more
pub packs_more : (bytes old words : List ℕ) (k w : ℕ) → k < words_in bytes → k < length old → words ≡ take k (packed bytes) ++ drop k old → w ≡ first_word (drop (4 * k) bytes) → set words k w ≡ take (k + 1) (packed bytes) ++ drop (k + 1) old
packs_more bytes old words k w h i e v =
    let long : k < length (packed bytes) = omega (arith, length-packed bytes) in
    let k-long : length (take k (packed bytes)) ≡ k = length-take-le k (packed bytes) (omega arith) in
    let at = packed_at bytes k h in
    let front = take_more (packed bytes) k 0 long in
    let back = drop_more old k 0 i in
    let put = set_at (take k (packed bytes)) (get_or old k 0) (drop (k + 1) old) w k k-long in
    let join = append_assoc (take k (packed bytes)) (w ∷ []) (drop (k + 1) old) in
    cc

-- a chunk of four bytes, or of all that are left, makes the word that all the bytes begin with
pub word_of_chunk : (four rest : List ℕ) → length four ≡ min 4 (length (four ++ rest)) → first_word (four ++ rest) ≡ first_word four
word_of_chunk [] [] h = refl
word_of_chunk [] (b ∷ rest) h = absurd (omega arith)
word_of_chunk (a ∷ []) [] h = refl
word_of_chunk (a ∷ []) (b ∷ rest) h = absurd (omega arith)
word_of_chunk (a ∷ b ∷ []) [] h = refl
word_of_chunk (a ∷ b ∷ []) (c ∷ rest) h = absurd (omega arith)
word_of_chunk (a ∷ b ∷ c ∷ []) [] h = refl
word_of_chunk (a ∷ b ∷ c ∷ []) (d ∷ rest) h = absurd (omega arith)
word_of_chunk (a ∷ b ∷ c ∷ d ∷ more) rest h = refl

-- and behind it stands what is left
pub rest_of_chunk : (four rest : List ℕ) → length four ≡ min 4 (length (four ++ rest)) → drop 4 (four ++ rest) ≡ rest
rest_of_chunk [] [] h = refl
rest_of_chunk [] (b ∷ rest) h = absurd (omega arith)
rest_of_chunk (a ∷ []) [] h = refl
rest_of_chunk (a ∷ []) (b ∷ rest) h = absurd (omega arith)
rest_of_chunk (a ∷ b ∷ []) [] h = refl
rest_of_chunk (a ∷ b ∷ []) (c ∷ rest) h = absurd (omega arith)
rest_of_chunk (a ∷ b ∷ c ∷ []) [] h = refl
rest_of_chunk (a ∷ b ∷ c ∷ []) (d ∷ rest) h = absurd (omega arith)
rest_of_chunk (a ∷ b ∷ c ∷ d ∷ []) rest h = refl
rest_of_chunk (a ∷ b ∷ c ∷ d ∷ e ∷ more) rest h = absurd (omega arith)

-- one word more, of the next chunk; what is left is what stands behind it
pub packs_chunk : (bytes old words left four rest : List ℕ) (k w : ℕ) → left ≡ drop (4 * k) bytes → left ≡ four ++ rest → length four ≡ min 4 (length left) → 0 < length left → k < length old → words ≡ take k (packed bytes) ++ drop k old → w ≡ first_word four → (set words k w ≡ take (k + 1) (packed bytes) ++ drop (k + 1) old) × (rest ≡ drop (4 * (k + 1)) bytes)
packs_chunk bytes old words left four rest k w at cut size some i e v =
    let short : length four ≡ min 4 (length (four ++ rest)) = size ∙ ap (λ l. min 4 (length l)) cut in
    let long : 0 < length (drop (4 * k) bytes) = subst (λ l. 0 < length l) at some in
    let word : w ≡ first_word (drop (4 * k) bytes) = v ∙ sym (word_of_chunk four rest short) ∙ ap first_word (sym cut ∙ at) in
    let next : 4 * (k + 1) ≡ 4 * k + 4 = omega arith in
    let behind : rest ≡ drop 4 (drop (4 * k) bytes) = sym (rest_of_chunk four rest short) ∙ ap (drop 4) (sym cut ∙ at) in
    (packs_more bytes old words k w (omega (arith, length-drop (4 * k) bytes)) i e word, behind ∙ drop-drop 4 (4 * k) bytes ∙ ap (λ n. drop n bytes) (sym next))
