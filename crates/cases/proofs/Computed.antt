-- The cases, computed.
use Rattle.std.proofs.Common.{◌≡◌, true, map, refl}
use Rattle.image.specs.Reading.{read_image, nodes_from}
use Rattle.cases.specs.Cases.{cases, AllHold}
use Rattle.cases.proofs.Checks.{every}
use Rattle.cases.proofs.Replayed.{replayed_case, sure_case, all_hold}

sure : every sure_case cases ≡ true
unfolding cases read_image nodes_from
sure = refl

same : map replayed_case cases ≡ cases
unfolding cases read_image nodes_from
same = refl

pub computed : AllHold
unfolding AllHold
computed = all_hold cases sure same
