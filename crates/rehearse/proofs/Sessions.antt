-- What a session here comes to: no check is open before a line or after it, there is no line of chain memory, and each load is the table's own.
use Rattle.std.proofs.Common.{◌≡◌, Bool, true, false, [], Some, None, Option, sym, subst, inl, inr}
use Rattle.outlets.specs.Meaning.{Meaning}
use Rattle.script.specs.declared.call.Call.{Call}
use Rattle.script.specs.Calls.{Said, said}
use Rattle.player.specs.Sessions.{OnlySimple, Quiet, LinePlayed}
use Rattle.player.specs.Stages.{Stage}
use Rattle.player.proofs.Alone.{plays_alone}
use Rattle.rehearse.specs.Lines.{Makes, LineMakes}
use Rattle.rehearse.specs.Made.{Exact}

module _ (Understands : Call → Bool → Type 0) (exact : Exact Understands) where
  pub only_simple : OnlySimple Understands
  only_simple call understood = sym (exact call true understood)

  module _ {O : Type 0} where
    pub none_open : (held : Stage O) → Quiet Understands held → held.table.check ≡ None
    none_open held quiet = (quiet only_simple).0

    pub no_lines : (held : Stage O) → Quiet Understands held → held.memory ≡ []
    no_lines held quiet = (quiet only_simple).1

  module _ {O : Type 0} (meaning : Meaning O) (before after : Stage O) (quiet : Quiet Understands before) where
    -- a line makes its call, if that is one of those that are made, and a load is the table's own; else it changes nothing
    pub line_makes : (line : Option Said) → LinePlayed meaning Understands line before after → LineMakes meaning before line after
    line_makes line (Some call, (same, understood), left) =
        let done : Makes meaning true before (said call) after = (left.0, left.1, plays_alone meaning before after left.0 (none_open before quiet) (said call) left.1) in
        subst (λ line. LineMakes meaning before line after) same (subst (λ b. Makes meaning b before (said call) after) (exact call true understood) done)
    line_makes line (None, inl none, left) = subst (λ line. LineMakes meaning before line after) (sym none) left
    line_makes line (None, inr (call, same, left_out), left) =
        subst (λ line. LineMakes meaning before line after) same (subst (λ b. Makes meaning b before (said call) after) (exact call false left_out) left)
