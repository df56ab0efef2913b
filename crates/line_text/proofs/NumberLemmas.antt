-- Numbers whose digits are read one by one.
use Rattle.line_text.proofs.Common.{◌≡◌, ℕ, ◌+◌, ◌*◌, ◌^◌, ◌<◌, ◌≤◌, Bool, true, false, ◌&&◌, List, length, Some, refl, arith, le-leb, pow-le-pow_right, all_ascii_digits, digits_value, number_of}

pub number_of-some : (text : List ℕ) → 0 < length text → length text ≤ 18 → all_ascii_digits text ≡ true → number_of text ≡ Some (digits_value 10 text)
number_of-some text some short digits = rw (le-leb 1 (length text) (omega arith), le-leb (length text) 18 short, digits) refl

and-false : (a b : Bool) → (a && b && false) ≡ false
and-false true true = refl
and-false true false = refl
and-false false true = refl
and-false false false = refl

-- ten times a number of at most 17 digits, and one more digit, fit 64 bits
pub digit-room : (value place : ℕ) → value < 10 ^ place → place < 18 → value * 10 + 9 < 2 ^ 64
digit-room value place small short =
    let most : 10 ^ place ≤ 10 ^ 17 = pow-le-pow_right {n = 10} (omega arith) {i = place} {j = 17} (omega arith) in
    omega arith
