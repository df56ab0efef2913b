-- What is taken is taken once, not before its release and not after it was unbooked.
use Rattle.booking_desk.proofs.Common.{◌≡◌, ℕ, ◌≤◌, ◌+◌, Bool, true, false, eqb, leb, List, [], ◌∷◌, ◌++◌, Option, Some, None, refl, sym, ap, subst, ◌∙◌, arith, Contains, IfSome, filter, find, map, not, ◌||◌, AllByRecursion, append_assoc, append-nil, Contains-append_left, Contains-push, All-from_recursion, Command, BookReply, Held, Now, Refused, Booking, DeskState, id_of, is_before, is_booked, is_held, put_in, reply_to_book, request_id, after_book, after_take, after_unbook, due_of, is_due, new_desk, DeskCall, book, unbook, clock, clock_of, greatest_clock, DeskStep, call, take_due, after_call, after_steps, calls_of, taken_by, any-append, each-append, each-filter, each-weaker, IfSome-find}
use Rattle.std.specs.List.{IsDistinct}
use Rattle.booking_desk.proofs.Sound.{IsSound, found-times, held-new, sound-call, sound-new, times, times-filter, times-put_in, times-without}

-- an id that was booked and is not held
pub record IsGone (id : ℕ) (desk : DeskState) : Type 0 where
  pub booked : is_booked id desk.booked ≡ true
  pub gone : times id desk.held ≡ 0

gone-filter : (id : ℕ) (desk : DeskState) (p : Booking → Bool) → IsGone id desk → IsGone id (record desk { held = filter p desk.held })
gone-filter id desk p h = record { booked = h.booked; gone = omega (arith, times-filter id p desk.held, h.gone) }

booked-on : (id new : ℕ) (booked : List ℕ) → is_booked id booked ≡ true → is_booked id (booked ++ new ∷ []) ≡ true
booked-on id new booked h = any-append (λ other. eqb id other) booked (new ∷ []) ∙ ap (λ b. b || (eqb id new || false)) h

gone-book : (id : ℕ) (desk : DeskState) (release : ℕ) (request : Command) → IsGone id desk → IsGone id (after_book desk release request)
gone-book id desk release request h = by (reply_to_book desk release request) refl
  where
    apart : is_booked (request_id request) desk.booked ≡ false → (b : Bool) → eqb (request_id request) id ≡ b → eqb (request_id request) id ≡ false
    apart new true at =
        let same : request_id request ≡ id = grind arith in
        absurd (let bad : is_booked id desk.booked ≡ false = subst (λ n. is_booked n desk.booked ≡ false) same new in
        let both : true ≡ false = sym h.booked ∙ bad in cc)
    apart new false at = at

    by : (reply : BookReply) → reply_to_book desk release request ≡ reply → IsGone id (after_book desk release request)
    by Held at =
        let other = apart (held-new desk release request at) (eqb (request_id request) id) refl in
        let most : times id (put_in (record { release = release; request = request }) desk.held) ≤ times id desk.held + 0 =
        rw other at (times-put_in id (record { release = release; request = request }) desk.held) in
        rw at (record { booked = booked-on id (request_id request) desk.booked h.booked; gone = omega (arith, h.gone) })
    by Now at = rw at (record { booked = booked-on id (request_id request) desk.booked h.booked; gone = h.gone })
    by (Refused code) at = rw at h

gone-call : (id : ℕ) (desk : DeskState) (c : DeskCall) → IsGone id desk → IsGone id (after_call desk c)
gone-call id desk (book release request) h = gone-book id desk release request h
gone-call id desk (unbook other) h = gone-filter id desk (λ b. not (eqb (id_of b) other)) h
gone-call id desk (clock time) h = record { booked = h.booked; gone = h.gone }

-- an id that is gone is never taken
pub never-again : (id : ℕ) (steps : List DeskStep) (desk : DeskState) → IsGone id desk → times id (taken_by desk steps) ≡ 0
unfolding times
never-again id [] desk h = refl
never-again id (call c ∷ steps) desk h = never-again id steps (after_call desk c) (gone-call id desk c h)
never-again id (take_due ∷ steps) desk h = by (never-again id steps) (due_of desk) refl
  where
    by : ((desk : DeskState) → IsGone id desk → times id (taken_by desk steps) ≡ 0) → (o : Option Booking) → due_of desk ≡ o
        → times id (taken_by desk (take_due ∷ steps)) ≡ 0
    by ih None at = rw at (ih desk h)
    by ih (Some b) at = rw at (other (eqb (id_of b) id) refl)
      where
        rest : times id (taken_by (after_unbook desk (id_of b)) steps) ≡ 0
        rest = ih (after_unbook desk (id_of b)) (gone-filter id desk (λ x. not (eqb (id_of x) (id_of b))) h)

        other : (x : Bool) → eqb (id_of b) id ≡ x → times id (b ∷ taken_by (after_unbook desk (id_of b)) steps) ≡ 0
        other true of =
            let same : id_of b ≡ id = grind arith in
            let some : 1 ≤ times id desk.held = subst (λ n. 1 ≤ times n desk.held) same (found-times (is_due desk.clock) desk.held b at) in
            absurd (omega (arith, h.gone))
        other false of = rw of rest

apart-times : (id : ℕ) (bs : List Booking) → times id bs ≡ 0 → AllByRecursion (λ other. eqb id other ≡ false) (map id_of bs)
unfolding times
apart-times id [] h = tt
apart-times id (b ∷ bs) h = by (apart-times id bs) (eqb (id_of b) id) refl
  where
    by : (times id bs ≡ 0 → AllByRecursion (λ other. eqb id other ≡ false) (map id_of bs)) → (x : Bool) → eqb (id_of b) id ≡ x
        → AllByRecursion (λ other. eqb id other ≡ false) (map id_of (b ∷ bs))
    by ih true at = absurd (let some : times id bs + 1 ≡ 0 = rw at at h in omega arith)
    by ih false at = (let flip : eqb id (id_of b) ≡ false = grind arith in flip, ih (rw at at h))

-- what was booked is held or gone, and goes where it is taken
gone-taken : (desk : DeskState) (b : Booking) → IsSound desk → due_of desk ≡ Some b → IsGone (id_of b) (after_unbook desk (id_of b))
gone-taken desk b sound at = record { booked = by (is_booked (id_of b) desk.booked) refl; gone = times-without (id_of b) desk.held }
  where
    by : (x : Bool) → is_booked (id_of b) desk.booked ≡ x → is_booked (id_of b) desk.booked ≡ true
    by true is = is
    by false is = absurd (omega (arith, sound.were_booked (id_of b) is, found-times (is_due desk.clock) desk.held b at))

once : (steps : List DeskStep) (desk : DeskState) → IsSound desk → IsDistinct eqb (map id_of (taken_by desk steps))
unfolding IsDistinct
once [] desk sound = tt
once (call c ∷ steps) desk sound = once steps (after_call desk c) (sound-call desk c sound)
once (take_due ∷ steps) desk sound = by (once steps) (due_of desk) refl
  where
    by : ((desk : DeskState) → IsSound desk → IsDistinct eqb (map id_of (taken_by desk steps))) → (o : Option Booking) → due_of desk ≡ o
        → IsDistinct eqb (map id_of (taken_by desk (take_due ∷ steps)))
    by ih None at = rw at (ih desk sound)
    by ih (Some b) at =
        let after : IsSound (after_unbook desk (id_of b)) = sound-call desk (unbook (id_of b)) sound in
        let away = never-again (id_of b) steps (after_unbook desk (id_of b)) (gone-taken desk b sound at) in
        rw at (apart-times (id_of b) (taken_by (after_unbook desk (id_of b)) steps) away, ih (after_unbook desk (id_of b)) after)

pub taken-once : (most : ℕ) (steps : List DeskStep) → IsDistinct eqb (map id_of (taken_by (new_desk most) steps))
taken-once most steps = once steps (new_desk most) (sound-new most)

not-held : (id : ℕ) (bs : List Booking) → times id bs ≡ 0 → is_held id bs ≡ false
unfolding times
not-held id [] h = refl
not-held id (b ∷ bs) h = by (not-held id bs) (eqb (id_of b) id) refl
  where
    by : (times id bs ≡ 0 → is_held id bs ≡ false) → (x : Bool) → eqb (id_of b) id ≡ x → is_held id (b ∷ bs) ≡ false
    by ih true at = absurd (let some : times id bs + 1 ≡ 0 = rw at at h in omega arith)
    by ih false at = rw at (ih (rw at at h))

-- what was booked and is unbooked is never taken after that
pub unbooked-never : (desk : DeskState) (id : ℕ) (steps : List DeskStep) → is_booked id desk.booked ≡ true
    → is_held id (taken_by (after_unbook desk id) steps) ≡ false
unbooked-never desk id steps booked =
    not-held id (taken_by (after_unbook desk id) steps)
    (never-again id steps (after_unbook desk id) (record { booked = booked; gone = times-without id desk.held }))

book-clock : (desk : DeskState) (release : ℕ) (request : Command) → (after_book desk release request).clock ≡ desk.clock
book-clock desk release request = by (reply_to_book desk release request) refl
  where
    by : (reply : BookReply) → reply_to_book desk release request ≡ reply → (after_book desk release request).clock ≡ desk.clock
    by Held at = rw at refl
    by Now at = rw at refl
    by (Refused code) at = rw at refl

take-clock : (desk : DeskState) → (after_take desk).clock ≡ desk.clock
take-clock desk = by (due_of desk) refl
  where
    by : (o : Option Booking) → due_of desk ≡ o → (after_take desk).clock ≡ desk.clock
    by None at = rw at refl
    by (Some b) at = rw at refl

-- the clock is the greatest of the times so far
clock-after : (steps : List DeskStep) (desk : DeskState) → (after_steps desk steps).clock ≡ greatest_clock desk.clock (calls_of steps)
clock-after [] desk = refl
clock-after (call (book release request) ∷ steps) desk =
    clock-after steps (after_book desk release request) ∙ ap (λ n. greatest_clock n (calls_of steps)) (book-clock desk release request)
clock-after (call (unbook id) ∷ steps) desk = clock-after steps (after_unbook desk id)
clock-after (call (clock time) ∷ steps) desk = clock-after steps (after_call desk (clock time))
clock-after (take_due ∷ steps) desk = clock-after steps (after_take desk) ∙ ap (λ n. greatest_clock n (calls_of steps)) (take-clock desk)

found-due : (now : ℕ) (bs : List Booking) → IfSome (find (is_due now) bs) (λ (b : Booking). b.release ≤ now)
found-due now [] = tt
found-due now (b ∷ bs) = by (found-due now bs) (leb b.release now) refl
  where
    by : IfSome (find (is_due now) bs) (λ (b : Booking). b.release ≤ now) → (x : Bool) → leb b.release now ≡ x
        → IfSome (find (is_due now) (b ∷ bs)) (λ (b : Booking). b.release ≤ now)
    by ih true at = rw at (let fits : b.release ≤ now = grind arith in fits)
    by ih false at = rw at ih

-- what is due has a release that is not above the greatest time so far
pub due-late : (most : ℕ) (steps : List DeskStep)
    → IfSome (due_of (after_steps (new_desk most) steps)) (λ (b : Booking). b.release ≤ clock_of (calls_of steps))
due-late most steps =
    let desk = after_steps (new_desk most) steps in
    subst (λ n. IfSome (due_of desk) (λ (b : Booking). b.release ≤ n)) (clock-after steps (new_desk most)) (found-due desk.clock desk.held)

-- each booking was booked by one of the calls
abbrev WereBooked : List DeskCall → List Booking → Type 0
WereBooked calls bs = AllByRecursion (λ (b : Booking). Contains calls (book b.release b.request)) bs

were-on : (calls more : List DeskCall) (bs : List Booking) → WereBooked calls bs → WereBooked (calls ++ more) bs
were-on calls more bs h =
    each-weaker (λ (b : Booking). Contains calls (book b.release b.request)) (λ (b : Booking). Contains (calls ++ more) (book b.release b.request))
    (λ b here. Contains-append_left calls more (book b.release b.request) here) bs h

were-call : (calls : List DeskCall) (desk : DeskState) (c : DeskCall) → WereBooked calls desk.held → WereBooked (calls ++ c ∷ []) (after_call desk c).held
were-call calls desk (book release request) h = by (reply_to_book desk release request) refl
  where
    P : Booking → Type 0
    P b = Contains (calls ++ book release request ∷ []) (book b.release b.request)

    on : WereBooked (calls ++ book release request ∷ []) desk.held
    on = were-on calls (book release request ∷ []) desk.held h

    new : Booking
    new = record { release = release; request = request }

    by : (reply : BookReply) → reply_to_book desk release request ≡ reply → WereBooked (calls ++ book release request ∷ []) (after_book desk release request).held
    by Held at = rw at (each-append (λ (b : Booking). Contains (calls ++ book release request ∷ []) (book b.release b.request)) (filter (λ x. is_before x new) desk.held) (new ∷ filter (λ x. is_before new x) desk.held)
        (each-filter (λ (b : Booking). Contains (calls ++ book release request ∷ []) (book b.release b.request)) (λ x. is_before x new) desk.held on)
        (Contains-push calls (book release request), each-filter (λ (b : Booking). Contains (calls ++ book release request ∷ []) (book b.release b.request)) (λ x. is_before new x) desk.held on))
    by Now at = rw at on
    by (Refused code) at = rw at on
were-call calls desk (unbook id) h =
    each-filter (λ (b : Booking). Contains (calls ++ unbook id ∷ []) (book b.release b.request)) (λ b. not (eqb (id_of b) id)) desk.held
    (were-on calls (unbook id ∷ []) desk.held h)
were-call calls desk (clock time) h = were-on calls (clock time ∷ []) desk.held h

were-take : (calls : List DeskCall) (desk : DeskState) → WereBooked calls desk.held → WereBooked calls (after_take desk).held
were-take calls desk h = by (due_of desk) refl
  where
    by : (o : Option Booking) → due_of desk ≡ o → WereBooked calls (after_take desk).held
    by None at = rw at h
    by (Some b) at = rw at (each-filter (λ (x : Booking). Contains calls (book x.release x.request)) (λ x. not (eqb (id_of x) (id_of b))) desk.held h)

were-steps : (steps : List DeskStep) (calls : List DeskCall) (desk : DeskState) → WereBooked calls desk.held
    → WereBooked (calls ++ calls_of steps) (after_steps desk steps).held
were-steps [] calls desk h = rw append-nil h
were-steps (call c ∷ steps) calls desk h =
    subst (λ cs. WereBooked cs (after_steps (after_call desk c) steps).held) (append_assoc calls (c ∷ []) (calls_of steps))
    (were-steps steps (calls ++ c ∷ []) (after_call desk c) (were-call calls desk c h))
were-steps (take_due ∷ steps) calls desk h = were-steps steps calls (after_take desk) (were-take calls desk h)

pub due-booked : (most : ℕ) (steps : List DeskStep)
    → IfSome (due_of (after_steps (new_desk most) steps)) (λ (b : Booking). Contains (calls_of steps) (book b.release b.request))
due-booked most steps =
    let desk = after_steps (new_desk most) steps in
    IfSome-find (λ (b : Booking). Contains (calls_of steps) (book b.release b.request)) (is_due desk.clock) desk.held
    (All-from_recursion _ desk.held (were-steps steps [] (new_desk most) tt))
