use Rattle.std.proofs.Common.{◌≡◌, ℕ, Ok, Result, refl}
use Rattle.image.specs.declared.places.TooShort.{TooShort}
use Rattle.calls.specs.declared.fault.Fault.{Fault}
use Rattle.calls.proofs.loading.write.Goals as goal

-- the number told is the one that was written
same_number : (m n : ℕ) → ◌≡◌ {A = Result ℕ Fault} (Ok m) (Ok n) → ◌≡◌ {A = Result ℕ TooShort} (Ok m) (Ok n)
same_number m n e = cc

pub returns-clause-loads_back : goal.returns-clause-loads_back
returns-clause-loads_back c = λ sound n e. let back = c.in_ok-write.ensures.loads_back sound n (same_number c.in_ok-write.field-0 n e) in ((Ok _, back.0, refl), back.1)
