-- What the panel shows for the bytes that it reads.
use Rattle.std.specs.Prelude.{◌≡◌, ℕ, List, take, Result}
use Rattle.words.specs.declared.fault.Layer.{Layer}
use Rattle.readout.specs.declared.line.Line.{Line}
use Rattle.readout.specs.Bytes.{packed}
use Rattle.readout.specs.Lines.{held, panel_line}

-- the line tells what is answered to the words; at most 4,096 of them are judged
pub record Shown {F : Type 0} (number_of : F → ℕ) (layer_of : F → Layer) (place_of : F → ℕ) (Answers : List ℕ → Result ℕ F → Type 0) (bytes : List ℕ) (line : Line) : Type 0 where
  pub answer : Result ℕ F
  pub answers : Answers (take 4096 (packed bytes)) answer
  pub tells : held line ≡ panel_line number_of layer_of place_of answer
