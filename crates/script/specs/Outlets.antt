-- The outlet that a script chooses.
use Rattle.std.specs.Prelude.{ℕ, cond, List, [], ◌∷◌, ◌++◌, Some, None, codes, decimal, Option}
use Rattle.std.specs.Str.{bytes_eq}
use Rattle.words.specs.Format.{then}
use Rattle.script.specs.declared.outlet.Choice.{Choice}
use Rattle.script.specs.declared.outlet.OutletKind.{OutletKind}
use Rattle.script.specs.declared.outlet.OutletKind.TheVariants.{FirstIn, EarliestDue}
use Rattle.script.specs.Calls.{below_in}

abbrev pub kind_in : List ℕ → Option OutletKind
kind_in part = cond (bytes_eq part (codes "first-in")) (Some FirstIn) (cond (bytes_eq part (codes "earliest-due")) (Some EarliestDue) None)

-- at most 65,536 messages can wait
abbrev pub chosen_in : List (List ℕ) → Option Choice
chosen_in [] = None
chosen_in (part ∷ parts) = then (kind_in part) (λ kind. then (below_in 65537 parts) (λ capacity. Some (record { kind = kind; capacity = capacity })))

abbrev pub choice_in : List (List ℕ) → Option Choice
choice_in [] = None
choice_in (name ∷ parts) = cond (bytes_eq name (codes "outlet")) (chosen_in parts) None

abbrev pub choice_text : OutletKind → ℕ → List ℕ
choice_text FirstIn capacity = codes "outlet first-in " ++ decimal capacity
choice_text EarliestDue capacity = codes "outlet earliest-due " ++ decimal capacity
