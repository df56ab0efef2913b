-- What several calls in turn leave of a count of faults.
use Rattle.ride_ports.proofs.Common.{ℕ, Bool, false, refl, subst, arith, KeepsCount}

-- where nothing was called
pub KeepsCount-none : (count : ℕ) → KeepsCount false count count
KeepsCount-none count = record { rose = λ fails. absurd (cc fails); stays = λ _. refl; never_falls = omega arith }

-- after calls that did not fail
pub KeepsCount-then : {failed : Bool} {a b c : ℕ} → KeepsCount false a b → KeepsCount failed b c → KeepsCount failed a c
KeepsCount-then {failed} {a} {b} {c} first second = subst (λ (count : ℕ). KeepsCount failed count c) (first.stays refl) second
