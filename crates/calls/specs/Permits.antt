-- Permits, told by their patterns.
use Rattle.std.specs.Prelude.{◌≡◌, ℕ, Bool, true, false, Ok, Err, Result}
use Rattle.table.specs.declared.state.Table.{Table}
use Rattle.calls.specs.declared.fault.Fault.{Fault}
use Rattle.calls.specs.declared.permit.Permit.{Permit}
use Rattle.calls.specs.declared.permit.Refused.{Refused}
use Rattle.calls.specs.Calls.{HasNode}

-- what a check answers
abbrev pub permit_pattern : Result Permit Fault → Result ℕ Fault
permit_pattern (Ok permit) = Ok permit.pattern
permit_pattern (Err fault) = Err fault

-- what the use of a permit answers
abbrev pub fault_told : Result (Unit {0}) Refused → Result (Unit {0}) Fault
fault_told (Ok done) = Ok done
fault_told (Err refused) = Err refused.fault

-- a permit that is refused is handed back
abbrev pub HandedBack : Permit → Result (Unit {0}) Refused → Type 0
HandedBack permit (Ok done) = Unit {0}
HandedBack permit (Err refused) = refused.permit ≡ permit

-- the answer to whether some place is live with the pattern
abbrev pub SaysNode : Table → ℕ → Bool → Type 0
SaysNode t pattern true = HasNode t pattern
SaysNode t pattern false = HasNode t pattern → ⊥
