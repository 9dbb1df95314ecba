use Rattle.std.specs.Fn.{FnReturnsAt}
use Rattle.player.specs.Stages.{stage_of}
use Rattle.player.proofs.Sessions.{begins_quiet}
use Rattle.player.proofs.session.play_all.Goals as goal
use Rattle.player.proofs.session.play_all.Goals.{in-Some+in_ok-play, in_default}

pub play-requires-clause-quiet : goal.play-requires-clause-quiet
play-requires-clause-quiet g c = begins_quiet (λ call is. FnReturnsAt g.F.Fn c.args.understands.now call is) (stage_of c.args.player.now) c.requires.begun

pub loop-init : goal.loop-init
loop-init g c =
    let begun = begins_quiet (λ call is. FnReturnsAt g.F.Fn c.args.understands.now call is) (stage_of c.args.player.now) c.requires.begun in
    elim c.match-first.branch [ in-Some+in_ok-play w ↦ rw w.player-is w.in_ok-play.ensures.quiet | in_default w ↦ rw w.player-is begun ]
