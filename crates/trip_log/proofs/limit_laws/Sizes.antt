-- How many bytes fields have.
use Rattle.trip_log.proofs.Common.{◌≡◌, ℕ, suc, ◌+◌, ◌*◌, ◌<◌, ◌≤◌, ◌^◌, List, [], ◌∷◌, ◌++◌, length, mul-suc, arith, length-append, codes, decimal, map, AllByRecursion, join_with_byte, length-decimal-le, Outcome, Confirmed, Away, Gone, Moved, Behind, Seat, IsSpelled, IsSpelledOutcome, IsSpelledPair, IsSpelledSeat, amount_field, line_of, outcome_field, plan_field, seat_field}

-- the bytes of fields, each with one byte after it
abbrev pub size_of : List (List ℕ) → ℕ
size_of [] = 0
size_of (field ∷ fields) = suc (length field) + size_of fields

-- the fields of two parts
pub size-append : (xs ys : List (List ℕ)) → size_of (xs ++ ys) ≡ size_of xs + size_of ys
size-append [] ys = omega arith
size-append (x ∷ xs) ys = omega (arith, size-append xs ys)

-- fields that are joined have a byte less
pub size-joined : (byte : ℕ) (field : List ℕ) (fields : List (List ℕ)) → length (join_with_byte byte (field ∷ fields)) + 1 ≡ size_of (field ∷ fields)
size-joined byte field [] = omega arith
size-joined byte field (next ∷ fields) =
    omega (arith, size-joined byte next fields, length-append field (byte ∷ join_with_byte byte (next ∷ fields)))

-- a line has the bytes of its fields
pub size-line : (field : List ℕ) (fields : List (List ℕ)) → length (line_of (field ∷ fields)) ≡ size_of (field ∷ fields)
size-line field fields =
    omega (arith, size-joined 32 field fields, length-append (join_with_byte 32 (field ∷ fields)) (10 ∷ []))

-- fields of items that have so many bytes at most
pub size-map : {X : Type 0} (P : X → Type 0) (f : X → List ℕ) (most : ℕ) (xs : List X) → ((x : X) → P x → length (f x) + 1 ≤ most)
    → AllByRecursion P xs → size_of (map f xs) ≤ most * length xs
size-map P f most [] short all = omega arith
size-map P f most (x ∷ xs) short (first, rest) =
    omega (arith, short x first, size-map P f most xs short rest, mul-suc most (length xs))

-- a number has at most 18 digits
pub digits-le : (n : ℕ) → IsSpelled n → length (decimal n) ≤ 18
digits-le n small = length-decimal-le 18 n (omega arith) small (omega arith)

pub number-le : (n : ℕ) → IsSpelled n → length (decimal n) + 1 ≤ 19
number-le n small = omega (arith, digits-le n small)

-- a digit
pub digit-le : (n : ℕ) → n ≤ 2 → length (decimal n) ≤ 1
digit-le n small = length-decimal-le 1 n (omega arith) (omega arith) (omega arith)

-- a version of a vehicle, an amount, a seat and an outcome
pub plan-le : (item : ℕ × ℕ) → IsSpelledPair item → length (plan_field item) + 1 ≤ 38
plan-le item (a, b) =
    omega (
      arith,
      digits-le item.0 a,
      digits-le item.1 b,
      length-append (decimal item.0 ++ codes "@") (decimal item.1),
      length-append (decimal item.0) (codes "@"),
    )

pub amount-le : (item : ℕ × ℕ) → IsSpelledPair item → length (amount_field item) + 1 ≤ 38
amount-le item (a, b) =
    omega (arith, digits-le item.0 a, digits-le item.1 b, size-joined 58 (decimal item.0) (decimal item.1 ∷ []))

pub seat-le : (seat : Seat) → IsSpelledSeat seat → length (seat_field seat) + 1 ≤ 60
seat-le seat (a, b, c, d) =
    omega (
      arith,
      digits-le seat.request a,
      digits-le seat.vehicle b,
      place-le seat.i c,
      place-le seat.j d,
      size-joined 58 (decimal seat.request) (decimal seat.vehicle ∷ decimal seat.i ∷ decimal seat.j ∷ []),
    )
  where
    place-le : (n : ℕ) → n < 2 ^ 32 → length (decimal n) ≤ 10
    place-le n small = length-decimal-le 10 n (omega arith) (omega (arith, small)) (omega (arith, small))

pub outcome-le : (item : ℕ × Outcome) → IsSpelledOutcome item → length (outcome_field item) + 1 ≤ 64
outcome-le (id, Confirmed) a = omega (arith, digits-le id a, size-joined 58 (decimal id) (codes "confirmed" ∷ []))
outcome-le (id, Away) a = omega (arith, digits-le id a, size-joined 58 (decimal id) (codes "away" ∷ []))
outcome-le (id, Gone) a = omega (arith, digits-le id a, size-joined 58 (decimal id) (codes "gone" ∷ []))
outcome-le (id, Moved named stands) (a, b, c) =
    omega (
      arith,
      digits-le id a,
      digits-le named b,
      digits-le stands c,
      size-joined 58 (decimal id) (codes "moved" ∷ decimal named ∷ decimal stands ∷ []),
    )
outcome-le (id, Behind start now) (a, b, c) =
    omega (
      arith,
      digits-le id a,
      digits-le start b,
      digits-le now c,
      size-joined 58 (decimal id) (codes "behind" ∷ decimal start ∷ decimal now ∷ []),
    )
