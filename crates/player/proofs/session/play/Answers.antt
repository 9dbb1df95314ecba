use Rattle.std.proofs.Common.{rules, true, Some}
use Rattle.std.specs.Fn.{FnReturnsAt}
use Rattle.player.specs.Told.{told}
use Rattle.player.proofs.Sessions.{if_ok}
use Rattle.player.proofs.session.play.Goals as goal

pub returns-in_ok-play-in-Some-clause-line : goal.returns-in_ok-play-in-Some-clause-line
returns-in_ok-play-in-Some-clause-line g c =
    let call = c.in-Some.call in
    let answer = c.in_ok-play-in-Some in
    let understood : FnReturnsAt g.F.Fn c.args.understands.now call true = search rules in
    if_ok c.println.result (Some call, (search rules, understood), (told answer.field-0, answer.ensures.exact))
