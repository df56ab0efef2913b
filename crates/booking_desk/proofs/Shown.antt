-- What a desk shows of what it keeps.
use Rattle.booking_desk.proofs.Common.{◌≡◌, ℕ, false, eqb, List, [], ◌∷◌, Some, refl, ap, subst, ◌∙◌, arith, AllPairs, Contains, IsTrue, IsSome, map, Less, AllByRecursion, keys_of, lookup, is_lt, length-map, recursion_from_All, All-from_recursion, All-map, All-weaker, Contains-keys_from_lookup, exact_unsigned_eq, Booking, id_of, is_before, request_id, IsDesk, IsRequest, booking_in, bookings_in, key_cmp, IsHeldEntry, IsKept}
use Rattle.std.specs.List.{IsDistinct}
use Rattle.std.specs.List.Sorted.{IsStrictlySortedBy}
use Rattle.std.proofs.lemmas.List.Kept.{AllPairs-cons}
use Rattle.booking_desk.proofs.Keys.{Entry, IsKeyed, before-keys}
use Rattle.booking_desk.proofs.HeldEntries.{HaveOtherIds, later-others}
use Rattle.booking_desk.proofs.Entered.{keyed-from_kept}

other-ids : (id : ℕ) (entries : List Entry) → HaveOtherIds id entries
    → AllByRecursion (λ other. eqb id other ≡ false) (map id_of (bookings_in entries))
other-ids id [] h = tt
other-ids id (e ∷ entries) (other, others) =
    (let flip : eqb id (request_id e.1) ≡ eqb (request_id e.1) id = grind arith in flip ∙ other, other-ids id entries others)

ids-differ : (booked : List (ℕ × ℕ)) (entries : List Entry) → IsStrictlySortedBy key_cmp (keys_of entries)
    → AllByRecursion (IsHeldEntry booked) entries → IsDistinct eqb (map id_of (bookings_in entries))
unfolding IsStrictlySortedBy IsDistinct
ids-differ booked [] sorted h = tt
ids-differ booked (e ∷ entries) (later, sorted) (kept, rest) =
    let found : lookup (eqb (request_id e.1)) booked ≡ Some e.0.0 = subst (λ n. lookup (eqb n) booked ≡ Some e.0.0) kept.id kept.release in (
      other-ids (request_id e.1) entries (later-others booked (request_id e.1) e.0.0 found e.0 refl kept.id entries later rest),
      ids-differ booked entries sorted rest,
    )

before-later : (e : Entry) → IsKeyed e → (entries : List Entry) → AllByRecursion IsKeyed entries
    → AllByRecursion (λ key. key_cmp e.0 key ≡ Less) (keys_of entries)
    → AllByRecursion (λ (b : Booking). IsTrue (is_before (booking_in e) b)) (bookings_in entries)
before-later e is [] keyed later = tt
before-later e is (f ∷ entries) (keyed, rest) (less, later) =
    (before-keys e f is keyed ∙ ap is_lt less, before-later e is entries rest later)

in-order : (entries : List Entry) → IsStrictlySortedBy key_cmp (keys_of entries) → AllByRecursion IsKeyed entries
    → AllPairs (λ (a b : Booking). IsTrue (is_before a b)) (bookings_in entries)
unfolding IsStrictlySortedBy
in-order [] sorted keyed = λ i j d less below. absurd (omega arith)
in-order (e ∷ entries) (later, sorted) (is, keyed) =
    AllPairs-cons (λ (a b : Booking). IsTrue (is_before a b)) (booking_in e) (bookings_in entries)
    (All-from_recursion (λ (b : Booking). IsTrue (is_before (booking_in e) b)) (bookings_in entries) (before-later e is entries keyed later))
    (in-order entries sorted keyed)

pub shown : (most clock : ℕ) (booked : List (ℕ × ℕ)) (entries : List Entry) → IsKept most booked entries
    → IsDesk (record { most = most; clock = clock; booked = keys_of booked; held = bookings_in entries })
shown most clock booked entries kept =
    let all = recursion_from_All (IsHeldEntry booked) entries kept.entries in
    record {
      few = rw length-map kept.few;
      most_few = kept.most_few;
      few_held = omega (arith, kept.few_held, length-map entries booking_in, length-map booked (λ (e : ℕ × ℕ). e.0));
      requests = All-map (λ (b : Booking). IsRequest b.request) booking_in entries
          (All-weaker (IsHeldEntry booked) (λ (e : Entry). IsRequest e.1) (λ e h. h.request) entries kept.entries);
      were_booked = All-map (λ (b : Booking). Contains (keys_of booked) (id_of b)) booking_in entries
          (All-weaker (IsHeldEntry booked) (λ (e : Entry). Contains (keys_of booked) (request_id e.1)) there entries kept.entries);
      ids_differ = ids-differ booked entries kept.in_order all;
      in_order = in-order entries kept.in_order (keyed-from_kept booked entries all);
    }
  where
    there : (e : Entry) → IsHeldEntry booked e → Contains (keys_of booked) (request_id e.1)
    there e h =
        let some : IsSome (lookup (eqb (request_id e.1)) booked) = rw (← h.id, h.release) refl in
        Contains-keys_from_lookup {eq = eqb} exact_unsigned_eq (request_id e.1) booked some
