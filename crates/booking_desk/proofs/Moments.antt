-- Where all that are due are taken after each call, they are those that are released, in their order.
use Rattle.booking_desk.proofs.Common.{◌≡◌, ℕ, zero, suc, ◌≤◌, ◌+◌, Bool, true, false, eqb, leb, ltb, List, [], ◌∷◌, ◌++◌, Option, Some, None, max, refl, sym, ap, subst, ◌∙◌, arith, find, map, ◌&&◌, AllByRecursion, option_map_or, append_assoc, append-nil, Booking, DeskState, id_of, after_take, after_unbook, due_of, is_due, new_desk, without, DeskCall, book, unbook, clock, call_id, clock_of, desk_after, made_of, released_at, sorted, standing, DeskStep, call, take_due, after_call, after_steps, before, calls_of, taken_by, TakesAllDue, each-weaker}
use Rattle.booking_desk.specs.inner.Released.{released_after, released_of}
use Rattle.booking_desk.proofs.AfterCalls.{booked-is, clock-is, held-is, ids-are, unbooked-is}
use Rattle.booking_desk.proofs.BookingOrder.{passing}
use Rattle.booking_desk.proofs.Sound.{IsSound, sound-call, sound-new, sound-take, times, without-none}

-- a desk after calls, with bookings that are due still held
abbrev pub with_due : ℕ → List DeskCall → List Booking → DeskState
with_due most calls due = record {
  most = most;
  clock = clock_of calls;
  booked = map call_id (made_of most calls);
  held = due ++ (desk_after most calls).held;
}

-- each of them is due
abbrev pub AreDue : ℕ → List Booking → Type 0
AreDue time due = AllByRecursion (λ (b : Booking). leb b.release time ≡ true) due

find-none : (p : Booking → Bool) (bs : List Booking) → AllByRecursion (λ b. p b ≡ false) bs → find p bs ≡ None
find-none p [] h = refl
find-none p (b ∷ bs) (fails, rest) = rw fails (find-none p bs rest)

-- none is due but these
pub none-else : (most : ℕ) (calls : List DeskCall) → due_of (desk_after most calls) ≡ None
none-else most calls =
    find-none (is_due (clock_of calls)) (desk_after most calls).held
    (each-weaker (λ (b : Booking). ltb (clock_of calls) b.release ≡ true) (λ (b : Booking). leb b.release (clock_of calls) ≡ false)
    (λ b late. grind arith) (desk_after most calls).held (passing (λ (b : Booking). ltb (clock_of calls) b.release) (sorted (standing most calls))))

pub due-first : (most : ℕ) (calls : List DeskCall) (b : Booking) (due : List Booking) → leb b.release (clock_of calls) ≡ true
    → due_of (with_due most calls (b ∷ due)) ≡ Some b
due-first most calls b due is = rw is refl

-- the first of them is taken
pub first-is_taken : (most : ℕ) (calls : List DeskCall) (b : Booking) (due : List Booking) → leb b.release (clock_of calls) ≡ true
    → IsSound (with_due most calls (b ∷ due)) → after_take (with_due most calls (b ∷ due)) ≡ with_due most calls due
unfolding times
first-is_taken most calls b due is sound =
    let desk = with_due most calls (b ∷ due) in
    let rest = due ++ (desk_after most calls).held in
    let same : eqb (id_of b) (id_of b) ≡ true = grind arith in
    let one : times (id_of b) rest + 1 ≤ 1 = rw same at (sound.once (id_of b)) in
    let left : without (id_of b) (b ∷ rest) ≡ rest = rw same (without-none (id_of b) rest (omega arith)) in
    ap (λ (o : Option Booking). option_map_or (λ (x : Booking). after_unbook desk (id_of x)) o desk) (due-first most calls b due is)
    ∙ ap (λ bs. record desk { held = bs }) left

-- what is released is due
pub released-due : (most : ℕ) (calls : List DeskCall) (time : ℕ) → AreDue (clock_of (calls ++ clock time ∷ [])) (released_at most calls time)
released-due most calls time =
    subst (λ now. AreDue now (released_at most calls time)) (sym (clock-is most calls time))
    (each-weaker (λ (b : Booking). (ltb (clock_of calls) b.release && leb b.release (max (clock_of calls) time)) ≡ true)
    (λ (b : Booking). leb b.release (max (clock_of calls) time) ≡ true) (λ b h. second (ltb (clock_of calls) b.release) (leb b.release (max (clock_of calls) time)) h)
    (released_at most calls time) (passing (λ (b : Booking). (ltb (clock_of calls) b.release && leb b.release (max (clock_of calls) time))) (sorted (standing most calls))))
  where
    second : (x y : Bool) → (x && y) ≡ true → y ≡ true
    second true y h = h
    second false y h = absurd (cc h)

-- the desk when the clock was set, with what is released then still held
pub clock-set : (most : ℕ) (calls : List DeskCall) (time : ℕ)
    → after_call (desk_after most calls) (clock time) ≡ with_due most (calls ++ clock time ∷ []) (released_at most calls time)
clock-set most calls time = λ i. record {
  most = most;
  clock = sym (clock-is most calls time) i;
  booked = sym (ids-are most calls time) i;
  held = held-is most calls time i;
}

-- from a desk after calls, of which these are still due, steps take them and what is released after them
abbrev Takes : ℕ → List DeskStep → Type 0
Takes most steps = (desk : DeskState) (calls : List DeskCall) (due : List Booking) → desk ≡ with_due most calls due
    → AreDue (clock_of calls) due → IsSound desk → TakesAllDue desk steps
    → taken_by desk steps ≡ due ++ released_after most calls (calls_of steps)

-- where none is due any more, and a call follows
called : (most : ℕ) (c : DeskCall) (steps : List DeskStep) → Takes most steps → (desk : DeskState) (calls : List DeskCall)
    → desk ≡ desk_after most calls → IsSound desk → TakesAllDue (after_call desk c) steps
    → taken_by (after_call desk c) steps ≡ released_after most calls (c ∷ calls_of steps)
called most (book release request) steps takes desk calls is sound rest =
    takes (after_call desk (book release request)) (calls ++ book release request ∷ []) []
    (ap (λ d. after_call d (book release request)) is ∙ booked-is most calls release request) tt (sound-call desk (book release request) sound) rest
called most (unbook id) steps takes desk calls is sound rest =
    takes (after_call desk (unbook id)) (calls ++ unbook id ∷ []) []
    (ap (λ d. after_call d (unbook id)) is ∙ unbooked-is most calls id) tt (sound-call desk (unbook id) sound) rest
called most (clock time) steps takes desk calls is sound rest =
    takes (after_call desk (clock time)) (calls ++ clock time ∷ []) (released_at most calls time)
    (ap (λ d. after_call d (clock time)) is ∙ clock-set most calls time) (released-due most calls time) (sound-call desk (clock time) sound) rest

taken : (most : ℕ) (steps : List DeskStep) → Takes most steps
taken most [] desk calls [] is all sound none = refl
taken most [] desk calls (b ∷ due) is (here, all) sound none =
    absurd (let some : due_of desk ≡ Some b = ap due_of is ∙ due-first most calls b due here in cc)
taken most (call c ∷ steps) desk calls [] is all sound (none, rest) = called most c steps (taken most steps) desk calls is sound rest
taken most (call c ∷ steps) desk calls (b ∷ due) is (here, all) sound (none, rest) =
    absurd (let some : due_of desk ≡ Some b = ap due_of is ∙ due-first most calls b due here in cc)
taken most (take_due ∷ steps) desk calls [] is all sound rest =
    let none : due_of desk ≡ None = ap due_of is ∙ none-else most calls in
    let stays : after_take desk ≡ desk = ap (λ (o : Option Booking). option_map_or (λ (x : Booking). after_unbook desk (id_of x)) o desk) none in
    ap (λ o. before o (taken_by (after_take desk) steps)) none
    ∙ taken most steps (after_take desk) calls [] (stays ∙ is) tt (sound-take desk sound) rest
taken most (take_due ∷ steps) desk calls (b ∷ due) is (here, all) sound rest =
    let some : due_of desk ≡ Some b = ap due_of is ∙ due-first most calls b due here in
    let next : after_take desk ≡ with_due most calls due =
    ap after_take is ∙ first-is_taken most calls b due here (subst (λ d. IsSound d) is sound) in
    ap (λ o. before o (taken_by (after_take desk) steps)) some
    ∙ ap (λ r. b ∷ r) (taken most steps (after_take desk) calls due next all (sound-take desk sound) rest)

new-is : (most : ℕ) → new_desk most ≡ desk_after most []
new-is zero = refl
new-is (suc n) = refl

pub taken-are_released : (most : ℕ) (steps : List DeskStep) → TakesAllDue (new_desk most) steps
    → taken_by (new_desk most) steps ≡ released_of most (calls_of steps)
taken-are_released most steps rest = taken most steps (new_desk most) [] [] (new-is most) tt (sound-new most) rest

-- from a desk after calls, of which these are still due, steps leave a desk after those calls and theirs
abbrev Stands : ℕ → List DeskStep → Type 0
Stands most steps = (desk : DeskState) (calls : List DeskCall) (due : List Booking) → desk ≡ with_due most calls due
    → AreDue (clock_of calls) due → IsSound desk → TakesAllDue desk steps
    → after_steps desk steps ≡ desk_after most (calls ++ calls_of steps)

stands-called : (most : ℕ) (c : DeskCall) (steps : List DeskStep) → Stands most steps → (desk : DeskState) (calls : List DeskCall)
    → desk ≡ desk_after most calls → IsSound desk → TakesAllDue (after_call desk c) steps
    → after_steps (after_call desk c) steps ≡ desk_after most (calls ++ c ∷ calls_of steps)
stands-called most (book release request) steps stands desk calls is sound rest =
    stands (after_call desk (book release request)) (calls ++ book release request ∷ []) []
    (ap (λ d. after_call d (book release request)) is ∙ booked-is most calls release request) tt (sound-call desk (book release request) sound) rest
    ∙ ap (desk_after most) (append_assoc calls (book release request ∷ []) (calls_of steps))
stands-called most (unbook id) steps stands desk calls is sound rest =
    stands (after_call desk (unbook id)) (calls ++ unbook id ∷ []) []
    (ap (λ d. after_call d (unbook id)) is ∙ unbooked-is most calls id) tt (sound-call desk (unbook id) sound) rest
    ∙ ap (desk_after most) (append_assoc calls (unbook id ∷ []) (calls_of steps))
stands-called most (clock time) steps stands desk calls is sound rest =
    stands (after_call desk (clock time)) (calls ++ clock time ∷ []) (released_at most calls time)
    (ap (λ d. after_call d (clock time)) is ∙ clock-set most calls time) (released-due most calls time) (sound-call desk (clock time) sound) rest
    ∙ ap (desk_after most) (append_assoc calls (clock time ∷ []) (calls_of steps))

stands : (most : ℕ) (steps : List DeskStep) → Stands most steps
stands most [] desk calls [] is all sound none = is ∙ ap (desk_after most) (sym (append-nil calls))
stands most [] desk calls (b ∷ due) is (here, all) sound none =
    absurd (let some : due_of desk ≡ Some b = ap due_of is ∙ due-first most calls b due here in cc)
stands most (call c ∷ steps) desk calls [] is all sound (none, rest) = stands-called most c steps (stands most steps) desk calls is sound rest
stands most (call c ∷ steps) desk calls (b ∷ due) is (here, all) sound (none, rest) =
    absurd (let some : due_of desk ≡ Some b = ap due_of is ∙ due-first most calls b due here in cc)
stands most (take_due ∷ steps) desk calls [] is all sound rest =
    let none : due_of desk ≡ None = ap due_of is ∙ none-else most calls in
    let stays : after_take desk ≡ desk = ap (λ (o : Option Booking). option_map_or (λ (x : Booking). after_unbook desk (id_of x)) o desk) none in
    stands most steps (after_take desk) calls [] (stays ∙ is) tt (sound-take desk sound) rest
stands most (take_due ∷ steps) desk calls (b ∷ due) is (here, all) sound rest =
    let next : after_take desk ≡ with_due most calls due =
    ap after_take is ∙ first-is_taken most calls b due here (subst (λ d. IsSound d) is sound) in
    stands most steps (after_take desk) calls due next all (sound-take desk sound) rest

pub desk-stands : (most : ℕ) (steps : List DeskStep) → TakesAllDue (new_desk most) steps
    → after_steps (new_desk most) steps ≡ desk_after most (calls_of steps)
desk-stands most steps rest = stands most steps (new_desk most) [] [] (new-is most) tt (sound-new most) rest
