use Rattle.std.proofs.Common.{take}
use Rattle.std.specs.Fmt.{IsPlainFormatter, HasWritten}
use Rattle.player.specs.Texts.{chain_text}
use Rattle.player.proofs.chain.write_chain.Given as goal

abbrev pub invariant-loop-one : goal.invariant-loop-one
invariant-loop-one g l = IsPlainFormatter l.initial.f → HasWritten g.W.Write.write_str_gives l.initial.f (chain_text (take l.one-index l.chain)) l.f
