use Rattle.words.proofs.Back.{reads_back}
use Rattle.words.proofs.word.encode.Goals as goal

pub returns : goal.returns
returns c = record { value = c.bits_of.ensures; reads_back = reads_back }
