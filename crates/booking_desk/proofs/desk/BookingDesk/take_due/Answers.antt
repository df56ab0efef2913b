use Rattle.booking_desk.proofs.Common.{◌≡◌, ◌+◌, ◌<◌, ℕ, Option, Some, None, List, [], ◌∷◌, IsSome, length, sym, ap, subst, ◌∙◌, arith, IfSome, find, ◌↔◌, AllByRecursion, IsStrictlySortedBy, keys_of, option_map_or, recursion_from_All, All-from_recursion, Booking, DeskState, id_of, request_id, after_take, after_unbook, due_of, is_due, without, IsHeldEntry, IsKept, booking_in, bookings_in, key_cmp}
use Rattle.booking_desk.proofs.Keys.{Entry}
use Rattle.booking_desk.proofs.Entered.{first-taken}
use Rattle.booking_desk.proofs.desk.BookingDesk.take_due.Goals as goal

-- where one is due, the entries are the first one and those that are left
split : (clock : ℕ) (old new : List Entry) (o : Option Entry) → IsSome (find (is_due clock) (bookings_in old)) → (IsSome o ↔ (0 < length old))
    → IfSome o (λ p. old ≡ p ∷ new) → (first : Entry) × (old ≡ first ∷ new)
split clock [] new o due variant removal = absurd (cc due)
split clock (e ∷ old) new None due variant removal = absurd (let some : IsSome {T = Entry} None = variant.1 (omega arith) in cc)
split clock (e ∷ old) new (Some p) due variant removal = (p, removal)

-- the maps without the first entry
kept-rest : (most : ℕ) (booked : List (ℕ × ℕ)) (old new : List Entry) (first : Entry) → old ≡ first ∷ new → IsKept most booked old
    → IsStrictlySortedBy key_cmp (keys_of new) → IsKept most booked new
kept-rest most booked old new first is kept sorted =
    let all = subst (λ es. AllByRecursion (IsHeldEntry booked) es) is (recursion_from_All (IsHeldEntry booked) old kept.entries) in
    let fewer : length old ≡ length new + 1 = ap length is ∙ omega arith in
    record {
      few = kept.few;
      most_few = kept.most_few;
      few_held = omega (arith, kept.few_held);
      in_order = sorted;
      entries = All-from_recursion (IsHeldEntry booked) new all.1;
    }

-- the desk without the first booking
after-first : (most clock : ℕ) (ids : List ℕ) (booked : List (ℕ × ℕ)) (old new : List Entry) (first : Entry) → old ≡ first ∷ new
    → IsKept most booked old → IsSome (find (is_due clock) (bookings_in old))
    → record { most = most; clock = clock; booked = ids; held = bookings_in new }
    ≡ after_take (record { most = most; clock = clock; booked = ids; held = bookings_in old })
after-first most clock ids booked old new first is kept due =
    let sorted = subst (λ es. IsStrictlySortedBy key_cmp (keys_of es)) is kept.in_order in
    let all = subst (λ es. AllByRecursion (IsHeldEntry booked) es) is (recursion_from_All (IsHeldEntry booked) old kept.entries) in
    let taken = first-taken booked clock first new sorted all (subst (λ es. IsSome (find (is_due clock) (bookings_in es))) is due) in
    let desk : DeskState = record { most = most; clock = clock; booked = ids; held = bookings_in old } in
    let found : due_of desk ≡ Some (record { release = first.0.0; request = first.1 }) =
    ap (λ es. find (is_due clock) (bookings_in es)) is ∙ taken.0 in
    let left : without (request_id first.1) (bookings_in old) ≡ bookings_in new =
    ap (λ es. without (request_id first.1) (bookings_in es)) is ∙ taken.1 in
    ap (λ bs. record { most = most; clock = clock; booked = ids; held = bs }) (sym left)
    ∙ sym (ap (λ (o : Option Booking). option_map_or (λ (b : Booking). after_unbook desk (id_of b)) o desk) found)

pub invariant_of-self : goal.invariant_of-self
invariant_of-self c =
    let due = subst (λ (d : DeskState). IsSome (due_of d)) (sym c.self.view_is) c.requires in
    let is = split c.self.inside.clock c.self.inside.held.entries c.pop_first.new.self.entries c.pop_first.result due
    c.pop_first.ensures.variant c.pop_first.ensures.removal in
    kept-rest c.self.inside.most c.self.inside.booked.entries c.self.inside.held.entries c.pop_first.new.self.entries is.0 is.1 c.self.invariant
    c.pop_first.ensures.ordered

pub returns-clause-taken : goal.returns-clause-taken
returns-clause-taken c =
    let due = subst (λ (d : DeskState). IsSome (due_of d)) (sym c.self.view_is) c.requires in
    let is = split c.self.inside.clock c.self.inside.held.entries c.pop_first.new.self.entries c.pop_first.result due
    c.pop_first.ensures.variant c.pop_first.ensures.removal in
    after-first c.self.inside.most c.self.inside.clock (keys_of c.self.inside.booked.entries) c.self.inside.booked.entries c.self.inside.held.entries
    c.pop_first.new.self.entries is.0 is.1 c.self.invariant due
    ∙ ap after_take c.self.view_is

-- the first booking is the one that is due
due-stood_first : (most clock : ℕ) (ids : List ℕ) (booked : List (ℕ × ℕ)) (old new : List Entry) (first : Entry) → old ≡ first ∷ new
    → IsKept most booked old → IsSome (find (is_due clock) (bookings_in old))
    → IfSome (find (is_due clock) (bookings_in old)) (λ booking. bookings_in old ≡ booking ∷ bookings_in new)
due-stood_first most clock ids booked old new first is kept due =
    let sorted = subst (λ es. IsStrictlySortedBy key_cmp (keys_of es)) is kept.in_order in
    let all = subst (λ es. AllByRecursion (IsHeldEntry booked) es) is (recursion_from_All (IsHeldEntry booked) old kept.entries) in
    let taken = first-taken booked clock first new sorted all (subst (λ es. IsSome (find (is_due clock) (bookings_in es))) is due) in
    let found : find (is_due clock) (bookings_in old) ≡ Some (booking_in first) = ap (λ es. find (is_due clock) (bookings_in es)) is ∙ taken.0 in
    let P : Option Booking → Type 0 = λ o. IfSome o (λ booking. bookings_in old ≡ booking ∷ bookings_in new) in
    subst P (sym found) (ap bookings_in is)

pub returns-clause-stood_first : goal.returns-clause-stood_first
returns-clause-stood_first c =
    let due = subst (λ (d : DeskState). IsSome (due_of d)) (sym c.self.view_is) c.requires in
    let is = split c.self.inside.clock c.self.inside.held.entries c.pop_first.new.self.entries c.pop_first.result due
    c.pop_first.ensures.variant c.pop_first.ensures.removal in
    let P : DeskState → Type 0 = λ d. IfSome (due_of d) (λ booking. d.held ≡ booking ∷ bookings_in c.pop_first.new.self.entries) in
    subst P c.self.view_is (due-stood_first c.self.inside.most c.self.inside.clock (keys_of c.self.inside.booked.entries) c.self.inside.booked.entries
    c.self.inside.held.entries c.pop_first.new.self.entries is.0 is.1 c.self.invariant due)
