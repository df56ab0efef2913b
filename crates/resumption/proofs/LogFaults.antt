-- What a log gave back, by whether its source failed.
use Rattle.resumption.proofs.Common.{◌≡◌, ◌≢◌, ℕ, inl, inr, false, Result, Ok, Err, refl, arith, Restoration, Standing, No, AuditFault, NoMemory, ReadFault, TooLong, is_read_fault, Sunk, EndsLog}

pub no-fault : (found : Result Restoration AuditFault) → found ≢ Err ReadFault → is_read_fault found ≡ false
no-fault (Ok restoration) other = refl
no-fault (Err NoMemory) other = refl
no-fault (Err TooLong) other = refl
no-fault (Err ReadFault) other = absurd (other refl)

-- how it was told
module _ (out : Sunk) (status : ℕ) where
  pub told-five : (found : Result Restoration AuditFault) → EndsLog found status out → status ≡ 5 → found ≡ Err ReadFault
  told-five (Ok (Standing restored)) (many, (is, says)) five = absurd (omega (arith, is, five))
  told-five (Ok (No line why)) (inl (is, prefix, whole)) five = absurd (omega (arith, is, five))
  told-five (Ok (No line why)) (inr (is, says)) five = absurd (omega (arith, is, five))
  told-five (Err NoMemory) (is, says) five = absurd (omega (arith, is, five))
  told-five (Err TooLong) (is, says) five = absurd (omega (arith, is, five))
  told-five (Err ReadFault) told five = refl

  pub told-fault : (found : Result Restoration AuditFault) → EndsLog found status out → found ≡ Err ReadFault → status ≡ 5
  told-fault (Ok restoration) told fault = absurd (cc fault)
  told-fault (Err NoMemory) told fault = absurd (cc fault)
  told-fault (Err TooLong) told fault = absurd (cc fault)
  told-fault (Err ReadFault) (is, says) fault = is

  -- a log that gives no board ends nothing whole
  pub told-zero : (found : Result Restoration AuditFault) → EndsLog found status out → status ≡ 0 → ⊥
  told-zero (Ok (Standing restored)) (many, (is, says)) zero = omega (arith, is, zero)
  told-zero (Ok (No line why)) (inl (is, prefix, whole)) zero = omega (arith, is, zero)
  told-zero (Ok (No line why)) (inr (is, says)) zero = omega (arith, is, zero)
  told-zero (Err NoMemory) (is, says) zero = omega (arith, is, zero)
  told-zero (Err TooLong) (is, says) zero = omega (arith, is, zero)
  told-zero (Err ReadFault) (is, says) zero = omega (arith, is, zero)
