-- What was written is read back.
use Rattle.std.proofs.Common.{◌≡◌, ℕ, ltb, List, ◌++◌, length, take, drop, Ok, Err, Option, Result, sym, refl, ap, ◌∙◌, ⊎_elim}
use Rattle.std.proofs.lemmas.List.{take_at}
use Rattle.std.proofs.lemmas.Bool.{cond_below, cases_lt, cond-false, le-ltb}
use Rattle.words.specs.declared.node.Node.{Node}
use Rattle.image.specs.declared.places.TooShort.{TooShort}
use Rattle.image.specs.Nodes.{image_words, live}
use Rattle.image.specs.Reading.{read_image}
use Rattle.image.specs.Writing.{write_answer, write_leaves}
use Rattle.image.specs.Laws.{ReadsBack}
use Rattle.image.proofs.Wants.{refuted}
use Rattle.image.proofs.Run.{all_accepted}

pub written_back : (places : List (Option Node)) (before : List ℕ) (answer : Result ℕ TooShort) (after : List ℕ)
    → answer ≡ write_answer places (length before) → after ≡ write_leaves places before → ReadsBack places answer after
written_back places before answer after is leaves proper n ok =
    let ws = image_words places in
    ⊎_elim
    (λ few. absurd (refuted _ n (cond_below (length before) (length ws) (Err (record { needed = length ws })) (Ok (length ws)) few ∙ sym is ∙ ok)))
    (λ room.
    let long : length ws ≡ n = let e : Ok n ≡ Ok (length ws) = sym ok ∙ is ∙ cond-false (ltb (length before) (length ws)) (Err (record { needed = length ws })) (Ok (length ws)) (le-ltb (length before) (length ws) room) in cc in
    let held : after ≡ ws ++ drop (length ws) before = leaves ∙ cond-false (ltb (length before) (length ws)) before (ws ++ drop (length ws) before) (le-ltb (length before) (length ws) room) in
    ap (λ l. read_image (take n l)) held ∙ ap read_image (take_at ws (drop (length ws) before) n long)
    ∙ all_accepted ws (record { places = places; nodes = live places }) (record { proper = proper; words = refl; count = refl }))
    (cases_lt (length before) (length ws))
