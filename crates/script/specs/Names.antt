-- The names of the calls.
use Rattle.std.specs.Prelude.{ℕ, List, [], ◌∷◌, codes, Option, find}
use Rattle.std.specs.Str.{bytes_eq}
use Rattle.script.specs.declared.name.Name.{Name}
use Rattle.script.specs.declared.name.Name.TheVariants.{Memory, Load, Write, Start, Hold, Resume, Abort, Command, Check, Remove, Release, Step, Take, Lane, Reach, Row}

abbrev pub name_text : Name → List ℕ
name_text Memory = codes "memory"
name_text Load = codes "load"
name_text Write = codes "write"
name_text Start = codes "start"
name_text Hold = codes "hold"
name_text Resume = codes "resume"
name_text Abort = codes "abort"
name_text Command = codes "command"
name_text Check = codes "check"
name_text Remove = codes "remove"
name_text Release = codes "release"
name_text Step = codes "step"
name_text Take = codes "take"
name_text Lane = codes "lane"
name_text Reach = codes "reach"
name_text Row = codes "row"

-- the first of the names that is written so
abbrev pub named : List Name → List ℕ → Option Name
named names part = find (λ name. bytes_eq part (name_text name)) names

abbrev pub name_in : List ℕ → Option Name
name_in part = named (Memory ∷ Load ∷ Write ∷ Start ∷ Hold ∷ Resume ∷ Abort ∷ Command ∷ Check ∷ Remove ∷ Release ∷ Step ∷ Take ∷ Lane ∷ Reach ∷ Row ∷ []) part
