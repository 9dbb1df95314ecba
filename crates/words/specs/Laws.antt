-- Reading and writing a word undo each other.
use Rattle.std.specs.Prelude.{◌≡◌, ℕ, ◌^◌, ◌<◌, Some}
use Rattle.words.specs.declared.word.Word.{Word}
use Rattle.words.specs.Format.{read, written, Allowed}

-- allowed fields, once written, are read back as they were, and fit a word of 32 bits
abbrev pub ReadsBack : Type 0
ReadsBack = (x : Word) → Allowed x → (read (written x) ≡ Some x) × (written x < 2 ^ 32)

-- a number that is read as a word is what that word is written as, and its fields are allowed
abbrev pub WritesBack : Type 0
WritesBack = (w : ℕ) (x : Word) → read w ≡ Some x → (written x ≡ w) × Allowed x
