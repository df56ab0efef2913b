-- What the maps keep after a booking was entered, and after the first was taken.
use Rattle.booking_desk.proofs.Common.{◌≡◌, ℕ, ◌<◌, Bool, true, false, eqb, leb, List, [], ◌∷◌, ◌++◌, Option, Some, None, length, take, IsSome, refl, sym, ap, subst, ◌∙◌, arith, find, option_to_list, ◌↔◌, Ordering, Less, Equal, Greater, AllByRecursion, keys_of, lookup, insert_entry, is_at, map-append, length-append, take-append_seam, Booking, request_id, is_due, without, booking_in, bookings_in, key_cmp, IsHeldEntry}
use Rattle.std.specs.List.Sorted.{IsStrictlySortedBy}
use Rattle.booking_desk.proofs.Keys.{Entry, IsKeyed}
use Rattle.booking_desk.proofs.HeldEntries.{HaveOtherIds, later-others, none-due, not-at, others-stay}

-- no entry is at the key of another id
pub others-absent : (id release : ℕ) (entries : List Entry) → HaveOtherIds id entries → AllByRecursion IsKeyed entries
    → lookup (is_at (key_cmp (release, id))) entries ≡ None
others-absent id release [] h keyed = refl
others-absent id release (e ∷ entries) (other, others) (is, keyed) =
    let apart : eqb e.0.1 id ≡ false = ap (λ n. eqb n id) is ∙ other in
    rw (not-at id release e.0 apart) (others-absent id release entries others keyed)

pub keyed-from_kept : (booked : List (ℕ × ℕ)) (entries : List Entry) → AllByRecursion (IsHeldEntry booked) entries → AllByRecursion IsKeyed entries
keyed-from_kept booked [] h = tt
keyed-from_kept booked (e ∷ entries) (kept, rest) = (kept.id, keyed-from_kept booked entries rest)

-- one more booking hides none
found-on : (id release : ℕ) (more : ℕ × ℕ) (booked : List (ℕ × ℕ)) → lookup (eqb id) booked ≡ Some release
    → lookup (eqb id) (booked ++ more ∷ []) ≡ Some release
found-on id release more [] found = absurd (cc found)
found-on id release more (e ∷ booked) found = by (found-on id release more booked) (eqb id e.0) refl
  where
    by : (lookup (eqb id) booked ≡ Some release → lookup (eqb id) (booked ++ more ∷ []) ≡ Some release) → (b : Bool) → eqb id e.0 ≡ b
        → lookup (eqb id) (e ∷ booked ++ more ∷ []) ≡ Some release
    by ih true at = rw at (rw at at found)
    by ih false at = rw at (ih (rw at at found))

pub found-new : (id release : ℕ) (booked : List (ℕ × ℕ)) → lookup (eqb id) booked ≡ None
    → lookup (eqb id) (booked ++ (id, release) ∷ []) ≡ Some release
found-new id release [] none =
    let same : eqb id id ≡ true = grind arith in
    rw same refl
found-new id release (e ∷ booked) none = by (found-new id release booked) (eqb id e.0) refl
  where
    by : (lookup (eqb id) booked ≡ None → lookup (eqb id) (booked ++ (id, release) ∷ []) ≡ Some release) → (b : Bool) → eqb id e.0 ≡ b
        → lookup (eqb id) (e ∷ booked ++ (id, release) ∷ []) ≡ Some release
    by ih true at = absurd (let no = rw at at none in cc)
    by ih false at = rw at (ih (rw at at none))

pub kept-on : (more : ℕ × ℕ) (booked : List (ℕ × ℕ)) (entries : List Entry) → AllByRecursion (IsHeldEntry booked) entries
    → AllByRecursion (IsHeldEntry (booked ++ more ∷ [])) entries
kept-on more booked [] h = tt
kept-on more booked (e ∷ entries) (kept, rest) =
    (record { request = kept.request; id = kept.id; release = found-on e.0.1 e.0.0 more booked kept.release }, kept-on more booked entries rest)

-- what holds of the entries and of a new one holds of all
pub All-inserted : (P : Entry → Type 0) (k : Entry) (entries : List Entry) → lookup (is_at (key_cmp k.0)) entries ≡ None
    → AllByRecursion P entries → P k → AllByRecursion P (insert_entry key_cmp entries k.0 k.1)
All-inserted P k [] none all here = (here, tt)
All-inserted P k (e ∷ entries) none (first, rest) here = by (All-inserted P k entries) (key_cmp k.0 e.0) refl
  where
    by : (lookup (is_at (key_cmp k.0)) entries ≡ None → AllByRecursion P entries → P k → AllByRecursion P (insert_entry key_cmp entries k.0 k.1))
        → (o : Ordering) → key_cmp k.0 e.0 ≡ o → AllByRecursion P (insert_entry key_cmp (e ∷ entries) k.0 k.1)
    by ih Less less = rw less (here, (first, rest))
    by ih Equal equal = absurd (let no = rw equal at none in cc)
    by ih Greater above = rw above (first, ih (rw above at none) rest here)

-- a list that one more element was added to and the last was taken from is as it was
pub popped : {X : Type 0} (xs ys zs : List X) (x : X) (o : Option X) → zs ≡ xs ++ x ∷ [] → zs ≡ ys ++ option_to_list o
    → (IsSome o ↔ (0 < length zs)) → ys ≡ xs
popped {X} xs ys zs x None pushed same found =
    let some : IsSome {T = X} None = found.1 (omega (arith, ap length pushed, length-append xs (x ∷ []))) in absurd (cc)
popped xs ys zs x (Some y) pushed same found =
    let count : length ys ≡ length xs =
    omega (arith, ap length pushed, ap length same, length-append xs (x ∷ []), length-append ys (y ∷ [])) in
    sym (take-append_seam ys (y ∷ [])) ∙ ap (take (length ys)) (sym same ∙ pushed) ∙ ap (λ n. take n (xs ++ x ∷ [])) count
    ∙ take-append_seam xs (x ∷ [])

keys-pushed : (booked : List (ℕ × ℕ)) (more : ℕ × ℕ) → keys_of (booked ++ more ∷ []) ≡ keys_of booked ++ more.0 ∷ []
keys-pushed booked more = map-append (λ (e : ℕ × ℕ). e.0) booked (more ∷ [])

-- the ids that were booked, after one more
pub ids-pushed : (old new : List (ℕ × ℕ)) (id release n : ℕ) (ids : List ℕ) → keys_of old ≡ ids → new ≡ old ++ (id, release) ∷ []
    → id ≡ n → keys_of new ≡ ids ++ n ∷ []
ids-pushed old new id release n ids keys pushed is =
    ap keys_of pushed ∙ keys-pushed old (id, release) ∙ ap (λ ks. ks ++ id ∷ []) keys ∙ ap (λ m. ids ++ m ∷ []) is

-- where one is due, the first one is, and it leaves the others
pub first-taken : (booked : List (ℕ × ℕ)) (clock : ℕ) (e : Entry) (entries : List Entry) → IsStrictlySortedBy key_cmp (keys_of (e ∷ entries))
    → AllByRecursion (IsHeldEntry booked) (e ∷ entries) → IsSome (find (is_due clock) (bookings_in (e ∷ entries)))
    → (find (is_due clock) (bookings_in (e ∷ entries)) ≡ Some (booking_in e))
    × (without (request_id e.1) (bookings_in (e ∷ entries)) ≡ bookings_in entries)
unfolding IsStrictlySortedBy
first-taken booked clock e entries (later, sorted) (kept, rest) due = by (leb e.0.0 clock) refl
  where
    stays : without (request_id e.1) (bookings_in (e ∷ entries)) ≡ bookings_in entries
    stays =
        let same : eqb (request_id e.1) (request_id e.1) ≡ true = grind arith in
        let found : lookup (eqb (request_id e.1)) booked ≡ Some e.0.0 = subst (λ n. lookup (eqb n) booked ≡ Some e.0.0) kept.id kept.release in
        rw same (others-stay (request_id e.1) entries (later-others booked (request_id e.1) e.0.0 found e.0 refl kept.id entries later rest))

    by : (b : Bool) → leb e.0.0 clock ≡ b
        → (find (is_due clock) (bookings_in (e ∷ entries)) ≡ Some (booking_in e))
        × (without (request_id e.1) (bookings_in (e ∷ entries)) ≡ bookings_in entries)
    by true at = (rw at refl, stays)
    by false at =
        let late : clock < e.0.0 = grind arith in
        let none = none-due clock e.0 late entries later in
        let nothing : find (is_due clock) (bookings_in (e ∷ entries)) ≡ None = rw at none in
        absurd (let some : IsSome {T = Booking} None = subst (λ (o : Option Booking). IsSome o) nothing due in cc)
