-- The lines that the panel shows; byte 10 ends a line.
use Rattle.std.specs.Prelude.{ℕ, List, ◌++◌, Ok, Err, codes, decimal, Result}
use Rattle.words.specs.declared.fault.Layer.{Layer}
use Rattle.readout.specs.declared.line.Line.{Line}
use Rattle.readout.specs.Layers.{layer_name}

-- what stands on the line
abbrev pub held : Line → List ℕ
held line = line.text.bytes

abbrev pub loaded_line : ℕ → List ℕ
loaded_line nodes = codes "LOADED " ++ decimal nodes ++ codes " NODES 8 LANES\n"

-- a refusal by its number, layer and place
abbrev pub refusal_text : ℕ → Layer → ℕ → List ℕ
refusal_text number layer place = codes "REFUSED " ++ decimal number ++ codes " " ++ layer_name layer ++ codes " " ++ decimal place

abbrev pub refused_line : ℕ → Layer → ℕ → List ℕ
refused_line number layer place = refusal_text number layer place ++ codes "\n"

-- the line for an answer, by what the panel shows of each fault
abbrev pub panel_line : {F : Type 0} → (F → ℕ) → (F → Layer) → (F → ℕ) → Result ℕ F → List ℕ
panel_line number_of layer_of place_of (Ok nodes) = loaded_line nodes
panel_line number_of layer_of place_of (Err fault) = refused_line (number_of fault) (layer_of fault) (place_of fault)
