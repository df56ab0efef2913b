-- Every desk holds at most one booking of an id, and none of an id that was not booked.
use Rattle.booking_desk.proofs.Common.{◌≡◌, ℕ, ◌≤◌, ◌+◌, Bool, true, false, cond, eqb, ltb, List, [], ◌∷◌, ◌++◌, Option, Some, None, refl, sym, ap, subst, ◌∙◌, arith, filter, find, not, ◌||◌, eqb-true, Command, BookReply, Held, Now, Refused, Booking, DeskState, id_of, is_before, is_booked, put_in, reply_to_book, request_id, after_book, after_take, due_of, new_desk, without, DeskCall, book, unbook, clock, after_call, any-append}
use Rattle.model_laws.proofs.plain.Numbers.{eqb-flip}
use Rattle.booking_desk.proofs.BookingOrder.{before-not_after}

-- how many bookings have an id
unfoldable pub times : ℕ → List Booking → ℕ
times id [] = 0
times id (b ∷ bs) = cond (eqb (id_of b) id) (times id bs + 1) (times id bs)

times-append : (id : ℕ) (xs ys : List Booking) → times id (xs ++ ys) ≡ times id xs + times id ys
unfolding times
times-append id [] ys = let e : times id ys ≡ 0 + times id ys = omega arith in e
times-append id (x ∷ xs) ys = by (times-append id xs ys) (eqb (id_of x) id) refl
  where
    by : times id (xs ++ ys) ≡ times id xs + times id ys → (b : Bool) → eqb (id_of x) id ≡ b → times id (x ∷ xs ++ ys) ≡ times id (x ∷ xs) + times id ys
    by ih true at = rw at (omega (arith, ih))
    by ih false at = rw at ih

pub times-filter : (id : ℕ) (p : Booking → Bool) (bs : List Booking) → times id (filter p bs) ≤ times id bs
unfolding times
times-filter id p [] = omega arith
times-filter id p (b ∷ bs) = by (times-filter id p bs) (p b) (eqb (id_of b) id) refl refl
  where
    by : times id (filter p bs) ≤ times id bs → (x y : Bool) → p b ≡ x → eqb (id_of b) id ≡ y → times id (filter p (b ∷ bs)) ≤ times id (b ∷ bs)
    by ih true true at of = rw (at, of) (omega arith)
    by ih true false at of = rw (at, of) ih
    by ih false true at of = rw (at, of) (omega arith)
    by ih false false at of = rw (at, of) ih

-- a booking is not both before and after another
times-parts : (id : ℕ) (b : Booking) (bs : List Booking)
    → times id (filter (λ x. is_before x b) bs) + times id (filter (λ x. is_before b x) bs) ≤ times id bs
unfolding times
times-parts id b [] = omega arith
times-parts id b (x ∷ bs) = by (times-parts id b bs) (is_before x b) (is_before b x) (eqb (id_of x) id) refl refl refl
  where
    by : times id (filter (λ x. is_before x b) bs) + times id (filter (λ x. is_before b x) bs) ≤ times id bs
        → (u v w : Bool) → is_before x b ≡ u → is_before b x ≡ v → eqb (id_of x) id ≡ w
        → times id (filter (λ x. is_before x b) (x ∷ bs)) + times id (filter (λ x. is_before b x) (x ∷ bs)) ≤ times id (x ∷ bs)
    by ih true true w at also of = absurd (let no = before-not_after x b at in cc)
    by ih true false true at also of = rw (at, also, of) (omega arith)
    by ih true false false at also of = rw (at, also, of) ih
    by ih false true true at also of = rw (at, also, of) (omega arith)
    by ih false true false at also of = rw (at, also, of) ih
    by ih false false true at also of = rw (at, also, of) (omega arith)
    by ih false false false at also of = rw (at, also, of) ih

pub times-put_in : (id : ℕ) (b : Booking) (bs : List Booking) → times id (put_in b bs) ≤ times id bs + cond (eqb (id_of b) id) 1 0
unfolding times
times-put_in id b bs =
    by (times-append id (filter (λ x. is_before x b) bs) (b ∷ filter (λ x. is_before b x) bs)) (eqb (id_of b) id) refl
  where
    by : times id (put_in b bs) ≡ times id (filter (λ x. is_before x b) bs) + times id (b ∷ filter (λ x. is_before b x) bs)
        → (x : Bool) → eqb (id_of b) id ≡ x → times id (put_in b bs) ≤ times id bs + cond (eqb (id_of b) id) 1 0
    by sum true at =
        let one : times id (b ∷ filter (λ x. is_before b x) bs) ≡ times id (filter (λ x. is_before b x) bs) + 1 = rw at refl in
        rw at (omega (arith, sum, one, times-parts id b bs))
    by sum false at =
        let none : times id (b ∷ filter (λ x. is_before b x) bs) ≡ times id (filter (λ x. is_before b x) bs) = rw at refl in
        rw at (omega (arith, sum, none, times-parts id b bs))

-- none of the id is left
pub times-without : (id : ℕ) (bs : List Booking) → times id (without id bs) ≡ 0
unfolding times
times-without id [] = refl
times-without id (b ∷ bs) = by (times-without id bs) (eqb (id_of b) id) refl
  where
    by : times id (without id bs) ≡ 0 → (x : Bool) → eqb (id_of b) id ≡ x → times id (without id (b ∷ bs)) ≡ 0
    by ih true at = rw at ih
    by ih false at = rw (at, at) ih

pub without-none : (id : ℕ) (bs : List Booking) → times id bs ≡ 0 → without id bs ≡ bs
unfolding times
without-none id [] h = refl
without-none id (b ∷ bs) h = by (without-none id bs) (eqb (id_of b) id) refl
  where
    by : (times id bs ≡ 0 → without id bs ≡ bs) → (x : Bool) → eqb (id_of b) id ≡ x → without id (b ∷ bs) ≡ b ∷ bs
    by ih true at = absurd (let some : times id bs + 1 ≡ 0 = rw at at h in omega arith)
    by ih false at = rw at (ap (λ r. b ∷ r) (ih (rw at at h)))

-- what is found is one of the bookings
pub found-times : (p : Booking → Bool) (bs : List Booking) (b : Booking) → find p bs ≡ Some b → 1 ≤ times (id_of b) bs
unfolding times
found-times p [] b found = absurd (cc found)
found-times p (x ∷ bs) b found = by (found-times p bs b) (p x) refl
  where
    same : (n : ℕ) → eqb n n ≡ true
    same n = grind arith

    more : (y : Bool) → 1 ≤ times (id_of b) bs → 1 ≤ cond y (times (id_of b) bs + 1) (times (id_of b) bs)
    more true h = omega arith
    more false h = h

    by : (find p bs ≡ Some b → 1 ≤ times (id_of b) bs) → (y : Bool) → p x ≡ y → 1 ≤ times (id_of b) (x ∷ bs)
    by ih true at =
        let is : Some x ≡ Some b = rw at at found in
        let same_one : x ≡ b = cc in
        let yes : eqb (id_of x) (id_of b) ≡ true = ap (λ (z : Booking). eqb (id_of z) (id_of b)) same_one ∙ same (id_of b) in
        rw yes (omega arith)
    by ih false at = more (eqb (id_of x) (id_of b)) (ih (rw at at found))

pub record IsSound (desk : DeskState) : Type 0 where
  pub once : (id : ℕ) → times id desk.held ≤ 1
  pub were_booked : (id : ℕ) → is_booked id desk.booked ≡ false → times id desk.held ≡ 0

-- after a filter of what is held
sound-filter : (desk : DeskState) (p : Booking → Bool) → IsSound desk → IsSound (record desk { held = filter p desk.held })
sound-filter desk p sound = record {
  once = λ id. omega (arith, times-filter id p desk.held, sound.once id);
  were_booked = λ id none. omega (arith, times-filter id p desk.held, sound.were_booked id none);
}

-- an id that was not booked was not booked before one more
pub not-booked : (id new : ℕ) (booked : List ℕ) → is_booked id (booked ++ new ∷ []) ≡ false → (is_booked id booked ≡ false) × (eqb id new ≡ false)
not-booked id new booked none = by (is_booked id booked) (eqb id new) refl refl
  where
    both : (is_booked id booked || (eqb id new || false)) ≡ false
    both = sym (any-append (λ other. eqb id other) booked (new ∷ [])) ∙ none

    by : (a b : Bool) → is_booked id booked ≡ a → eqb id new ≡ b → (is_booked id booked ≡ false) × (eqb id new ≡ false)
    by true b at of = absurd (let bad : true ≡ false = sym (ap (λ x. x || (eqb id new || false)) at) ∙ both in cc)
    by false true at of = absurd (let bad : true ≡ false = sym (ap (λ x. x || (eqb id new || false)) at ∙ ap (λ y. y || false) of) ∙ both in cc)
    by false false at of = (at, of)

-- the id of a booking that is held was a new one
pub held-new : (desk : DeskState) (release : ℕ) (request : Command) → reply_to_book desk release request ≡ Held
    → is_booked (request_id request) desk.booked ≡ false
held-new desk release request reply = by (ltb 1000000000 release) (is_booked (request_id request) desk.booked) refl refl
  where
    by : (a b : Bool) → ltb 1000000000 release ≡ a → is_booked (request_id request) desk.booked ≡ b → is_booked (request_id request) desk.booked ≡ false
    by true b range booked = absurd (let bad = rw range at reply in cc)
    by false true range booked = absurd (let bad = rw (range, booked) at reply in cc)
    by false false range booked = booked

sound-book : (desk : DeskState) (release : ℕ) (request : Command) → IsSound desk → IsSound (after_book desk release request)
sound-book desk release request sound = by (reply_to_book desk release request) refl
  where
    one : (id : ℕ) (x : Bool) → eqb (request_id request) id ≡ x → is_booked (request_id request) desk.booked ≡ false
        → times id (put_in (record { release = release; request = request }) desk.held) ≤ 1
    one id true at new =
        let same : request_id request ≡ id = eqb-true (request_id request) id at in
        let none : times id desk.held ≡ 0 = subst (λ n. times n desk.held ≡ 0) same (sound.were_booked (request_id request) new) in
        let most : times id (put_in (record { release = release; request = request }) desk.held) ≤ times id desk.held + 1 =
        rw at at (times-put_in id (record { release = release; request = request }) desk.held) in
        omega arith
    one id false at new =
        let most : times id (put_in (record { release = release; request = request }) desk.held) ≤ times id desk.held + 0 =
        rw at at (times-put_in id (record { release = release; request = request }) desk.held) in
        omega (arith, sound.once id)

    none-of : (id : ℕ) → is_booked id (desk.booked ++ request_id request ∷ []) ≡ false
        → times id (put_in (record { release = release; request = request }) desk.held) ≡ 0
    none-of id none =
        let parts = not-booked id (request_id request) desk.booked none in
        let apart : eqb (request_id request) id ≡ false = eqb-flip id (request_id request) parts.1 in
        let most : times id (put_in (record { release = release; request = request }) desk.held) ≤ times id desk.held + 0 =
        rw apart at (times-put_in id (record { release = release; request = request }) desk.held) in
        omega (arith, sound.were_booked id parts.0)

    by : (reply : BookReply) → reply_to_book desk release request ≡ reply → IsSound (after_book desk release request)
    by Held at =
        let new = held-new desk release request at in
        rw at (record { once = λ id. one id (eqb (request_id request) id) refl new; were_booked = none-of })
    by Now at = rw at (record { once = sound.once; were_booked = λ id none. sound.were_booked id (not-booked id (request_id request) desk.booked none).0 })
    by (Refused code) at = rw at sound

pub sound-call : (desk : DeskState) (c : DeskCall) → IsSound desk → IsSound (after_call desk c)
sound-call desk (book release request) sound = sound-book desk release request sound
sound-call desk (unbook id) sound = sound-filter desk (λ b. not (eqb (id_of b) id)) sound
sound-call desk (clock time) sound = record { once = sound.once; were_booked = sound.were_booked }

pub sound-take : (desk : DeskState) → IsSound desk → IsSound (after_take desk)
sound-take desk sound = by (due_of desk) refl
  where
    by : (o : Option Booking) → due_of desk ≡ o → IsSound (after_take desk)
    by None at = rw at sound
    by (Some b) at = rw at (sound-filter desk (λ x. not (eqb (id_of x) (id_of b))) sound)

pub sound-new : (most : ℕ) → IsSound (new_desk most)
unfolding times
sound-new most = record { once = λ id. omega arith; were_booked = λ id none. refl }
