use Rattle.std.proofs.Common.{◌≡◌, take, drop}
use Rattle.outlets.specs.Balance.{Run}
use Rattle.outlets.proofs.service.serve.Given as goal

abbrev pub invariant-loop-i : goal.invariant-loop-i
invariant-loop-i g l =
    Run g.O.Outlet.meaning l.initial.outlet (take l.i l.requests) (take l.i l.replies) l.outlet
    × (drop l.i l.replies ≡ drop l.i l.initial.replies)
