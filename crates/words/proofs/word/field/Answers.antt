use Rattle.std.proofs.Common.{◌/◌, ◌^◌, arith}
use Rattle.std.proofs.lemmas.Nat.{and_mask, one_shl}
use Rattle.words.proofs.word.field.Goals as goal

pub returns : goal.returns
returns c = rw (one_shl c.args.size 32 (omega arith)) (and_mask (c.args.w / 2 ^ c.args.low) c.args.size)
