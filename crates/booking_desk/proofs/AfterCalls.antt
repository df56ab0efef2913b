-- What a call makes of a desk at which all that are due were taken.
use Rattle.booking_desk.proofs.Common.{◌≡◌, ℕ, ◌<◌, ◌≤◌, Bool, true, false, eqb, leb, ltb, List, [], ◌∷◌, ◌++◌, length, max, refl, sym, ap, ◌∙◌, arith, filter, map, not, ◌&&◌, AllByRecursion, length-map, map-append, and-false, Command, Booking, DeskState, is_booked, put_in, request_id, after_book, after_unbook, without, DeskCall, book, unbook, clock, call_id, clock_of, desk_after, made_of, released_at, sorted, standing, filter-and, filter-filter, filter-same}
use Rattle.booking_desk.proofs.BookingOrder.{all_put_in-push, filter-put_in, later-put_in, order-filter, order-sorted, sorted-without, split-time}
use Rattle.booking_desk.proofs.Bookings.{refused-late, refused-again, refused-full, made-now, made-held, after-refusal, after-now, after-held}
use Rattle.booking_desk.proofs.Made.{call_for, clock-append}
use Rattle.booking_desk.proofs.Standing.{made-unbook, made-clock, made-late, made-again, made-full, made-new, standing-unbook, standing-clock, standing-same, standing-new}

-- the bookings of a list whose release is above a time
abbrev pub above : ℕ → List Booking → List Booking
above time bookings = filter (λ (booking : Booking). ltb time booking.release) bookings

module _ (most : ℕ) (calls : List DeskCall) where
  module _ (release : ℕ) (request : Command) where
    abbrev next : List DeskCall
    next = calls ++ book release request ∷ []

    clock-book : clock_of next ≡ clock_of calls
    clock-book = clock-append 0 calls (book release request ∷ [])

    -- a booking that is not made changes nothing
    unchanged : made_of most next ≡ made_of most calls → desk_after most calls ≡ desk_after most next
    unchanged same = λ i. record {
      most = most;
      clock = sym clock-book i;
      booked = map call_id (sym same i);
      held = above (sym clock-book i) (sorted (sym (standing-same most calls release request same) i));
    }

    abbrev desk : DeskState
    desk = desk_after most calls

    refused : (code : ℕ) → made_of most next ≡ made_of most calls → desk ≡ after_book desk release request
        → after_book desk release request ≡ desk_after most next
    refused code same is = sym is ∙ unchanged same

    count : length desk.booked ≡ length (made_of most calls)
    count = length-map (made_of most calls) call_id

    -- the booking is made, and its release has come
    now : release ≤ 1000000000 → is_booked (request_id request) desk.booked ≡ false → length desk.booked < most → release ≤ clock_of calls
        → after_book desk release request ≡ desk_after most next
    now in_range booked room past =
        let made = made-new most calls release request in_range booked (omega (arith, count)) in
        let ids : map call_id (made_of most next) ≡ desk.booked ++ request_id request ∷ [] =
        ap (map call_id) made ∙ map-append call_id (made_of most calls) (call_for (length calls) release request ∷ []) in
        let held : above (clock_of next) (sorted (standing most next)) ≡ desk.held =
        ap (λ time. above time (sorted (standing most next))) clock-book
        ∙ ap (λ bs. above (clock_of calls) (sorted bs)) (standing-new most calls release request made)
        ∙ ap (above (clock_of calls)) (all_put_in-push [] (standing most calls) (record { release = release; request = request }))
        ∙ later-put_in (clock_of calls) (record { release = release; request = request }) (sorted (standing most calls)) past in
        sym (after-now desk release request desk (map call_id (made_of most next)) refl ids (made-now desk release request in_range booked room past))
        ∙ (λ i. record { most = most; clock = sym clock-book i; booked = map call_id (made_of most next); held = sym held i })

    -- the booking is made and held
    kept : release ≤ 1000000000 → is_booked (request_id request) desk.booked ≡ false → length desk.booked < most → clock_of calls < release
        → after_book desk release request ≡ desk_after most next
    kept in_range booked room ahead =
        let made = made-new most calls release request in_range booked (omega (arith, count)) in
        let ids : map call_id (made_of most next) ≡ desk.booked ++ request_id request ∷ [] =
        ap (map call_id) made ∙ map-append call_id (made_of most calls) (call_for (length calls) release request ∷ []) in
        let late : ltb (clock_of calls) release ≡ true = grind arith in
        let held : above (clock_of next) (sorted (standing most next)) ≡ put_in (record { release = release; request = request }) desk.held =
        ap (λ time. above time (sorted (standing most next))) clock-book
        ∙ ap (λ bs. above (clock_of calls) (sorted bs)) (standing-new most calls release request made)
        ∙ ap (above (clock_of calls)) (all_put_in-push [] (standing most calls) (record { release = release; request = request }))
        ∙ filter-put_in (λ (b : Booking). ltb (clock_of calls) b.release) (record { release = release; request = request }) (sorted (standing most calls)) late in
        sym (after-held desk release request desk (map call_id (made_of most next)) (above (clock_of next) (sorted (standing most next))) refl ids held
        (made-held desk release request in_range booked room ahead))
        ∙ (λ i. record { most = most; clock = sym clock-book i; booked = map call_id (made_of most next); held = above (clock_of next) (sorted (standing most next)) })

    pub booked-is : after_book (desk_after most calls) release request ≡ desk_after most (calls ++ book release request ∷ [])
    booked-is = by (ltb 1000000000 release) (is_booked (request_id request) desk.booked) (leb most (length desk.booked)) (leb release (clock_of calls)) refl refl refl refl
      where
        by : (b c d e : Bool) → ltb 1000000000 release ≡ b → is_booked (request_id request) desk.booked ≡ c → leb most (length desk.booked) ≡ d
            → leb release (clock_of calls) ≡ e → after_book desk release request ≡ desk_after most next
        by true c d e range booked full past =
            let late : 1000000000 < release = grind arith in
            refused 20 (made-late most calls release request late) (after-refusal desk release request 20 (refused-late desk release request late))
        by false true d e range booked full past =
            let fits : release ≤ 1000000000 = grind arith in
            refused 19 (made-again most calls release request fits booked) (after-refusal desk release request 19 (refused-again desk release request fits booked))
        by false false true e range booked full past =
            let fits : release ≤ 1000000000 = grind arith in
            let no_room : most ≤ length desk.booked = grind arith in
            refused 22 (made-full most calls release request fits (omega (arith, count))) (after-refusal desk release request 22 (refused-full desk release request fits booked no_room))
        by false false false true range booked full past =
            let fits : release ≤ 1000000000 = grind arith in
            let room : length desk.booked < most = grind arith in
            let come : release ≤ clock_of calls = grind arith in
            now fits booked room come
        by false false false false range booked full past =
            let fits : release ≤ 1000000000 = grind arith in
            let room : length desk.booked < most = grind arith in
            let ahead : clock_of calls < release = grind arith in
            kept fits booked room ahead

  pub unbooked-is : (id : ℕ) → after_unbook (desk_after most calls) id ≡ desk_after most (calls ++ unbook id ∷ [])
  unbooked-is id =
      let clocks : clock_of calls ≡ clock_of (calls ++ unbook id ∷ []) = sym (clock-append 0 calls (unbook id ∷ [])) in
      let held : without id (above (clock_of calls) (sorted (standing most calls))) ≡ above (clock_of calls) (sorted (standing most (calls ++ unbook id ∷ []))) =
      filter-filter (λ (b : Booking). not_of b) (λ (b : Booking). ltb (clock_of calls) b.release) (sorted (standing most calls))
      ∙ ap (above (clock_of calls)) (sym (sorted-without id (standing most calls)) ∙ ap sorted (sym (standing-unbook most calls id))) in
      (λ i. record {
        most = most;
        clock = clock_of calls;
        booked = map call_id (sym (made-unbook most calls id) i);
        held = held i;
      })
      ∙ (λ i. record {
        most = most;
        clock = clocks i;
        booked = map call_id (made_of most (calls ++ unbook id ∷ []));
        held = above (clocks i) (sorted (standing most (calls ++ unbook id ∷ [])));
      })
    where
      not_of : Booking → Bool
      not_of b = not (eqb (request_id b.request) id)

  module _ (time : ℕ) where
    pub clock-is : clock_of (calls ++ clock time ∷ []) ≡ max (clock_of calls) time
    clock-is = clock-append 0 calls (clock time ∷ [])

    -- what is held when the clock is set is what is released then, and what is held after that
    pub held-is : (desk_after most calls).held ≡ released_at most calls time ++ (desk_after most (calls ++ clock time ∷ [])).held
    held-is =
        let c = clock_of calls in
        let now = max (clock_of calls) time in
        let all = sorted (standing most calls) in
        let split = split-time now (above c all) (order-filter (λ (b : Booking). ltb c b.release) all (order-sorted (standing most calls))) in
        let first : filter (λ (b : Booking). leb b.release now) (above c all) ≡ released_at most calls time =
        filter-and (λ (b : Booking). leb b.release now) (λ (b : Booking). ltb c b.release) all in
        let rest : above now (above c all) ≡ above now all =
        filter-and (λ (b : Booking). ltb now b.release) (λ (b : Booking). ltb c b.release) all
        ∙ filter-same (λ (b : Booking). ltb c b.release && ltb now b.release) (λ (b : Booking). ltb now b.release) all (both c now (omega arith) all) in
        let after : (desk_after most (calls ++ clock time ∷ [])).held ≡ above now all =
        ap (λ n. above n (sorted (standing most (calls ++ clock time ∷ [])))) clock-is
        ∙ ap (λ bs. above now (sorted bs)) (standing-clock most calls time) in
        sym split ∙ ap (λ xs. xs ++ above now (above c all)) first ∙ ap (λ ys. released_at most calls time ++ ys) (rest ∙ sym after)
      where
        both : (c now : ℕ) → c ≤ now → (bs : List Booking) → AllByRecursion (λ (b : Booking). (ltb c b.release && ltb now b.release) ≡ ltb now b.release) bs
        both c now h [] = tt
        both c now h (b ∷ bs) = (one (ltb now b.release) refl, both c now h bs)
          where
            one : (x : Bool) → ltb now b.release ≡ x → (ltb c b.release && ltb now b.release) ≡ ltb now b.release
            one true at = let later : ltb c b.release ≡ true = grind arith in rw (later, at) refl
            one false at = rw at (and-false (ltb c b.release))

    pub ids-are : map call_id (made_of most (calls ++ clock time ∷ [])) ≡ map call_id (made_of most calls)
    ids-are = ap (map call_id) (made-clock most calls time)
