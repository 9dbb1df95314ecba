use Rattle.words.proofs.Back.{writes_back}
use Rattle.words.proofs.word.decode.Goals as goal

pub returns : goal.returns
returns c = record { value = c.word_in.ensures; writes_back = writes_back }
