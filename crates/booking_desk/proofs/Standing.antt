-- The bookings that stand, after one more call.
use Rattle.booking_desk.proofs.Common.{◌≡◌, ℕ, ◌<◌, ◌≤◌, ◌+◌, Bool, true, false, eqb, ltb, List, [], ◌∷◌, ◌++◌, length, take, drop, refl, ap, ◌∙◌, arith, filter, map, not, ◌||◌, AllByRecursion, list_any, map-append, append-nil, drop-append-le, filter-append, drop-append_seam, or-false, Command, is_booked, request_id, without, DeskCall, book, unbook, clock, BookCall, book_calls, call_id, first_of_each_id, is_unbook, is_unbooked, made_of, standing, any-append, filter-same, each-weaker}
use Rattle.booking_desk.proofs.Made.{call_for, calls-append, made-places, taken-again, taken-full, taken-new}

-- one more call unbooks a booking where it is an unbook of its id
unbooked-push : (calls : List DeskCall) (c : DeskCall) (call : BookCall) → call.place ≤ length calls
    → is_unbooked (calls ++ c ∷ []) call ≡ (is_unbooked calls call || is_unbook (call_id call) c)
unbooked-push calls c call within =
    ap (list_any (is_unbook (call_id call))) (drop-append-le call.place calls (c ∷ []) within)
    ∙ any-append (is_unbook (call_id call)) (drop call.place calls) (c ∷ [])
    ∙ ap (λ b. is_unbooked calls call || b) (or-false (is_unbook (call_id call) c))

-- a call that unbooks nothing lets all stand
stands-on : (calls : List DeskCall) (c : DeskCall) → ((id : ℕ) → is_unbook id c ≡ false) → (made : List BookCall)
    → AllByRecursion (λ (call : BookCall). call.place ≤ length calls) made
    → filter (λ call. not (is_unbooked (calls ++ c ∷ []) call)) made ≡ filter (λ call. not (is_unbooked calls call)) made
stands-on calls c none made places =
    filter-same (λ call. not (is_unbooked (calls ++ c ∷ []) call)) (λ call. not (is_unbooked calls call)) made
    (each-weaker (λ (call : BookCall). call.place ≤ length calls)
    (λ call. not (is_unbooked (calls ++ c ∷ []) call) ≡ not (is_unbooked calls call))
    (λ call within. ap not (unbooked-push calls c call within ∙ ap (λ b. is_unbooked calls call || b) (none (call_id call)) ∙ or-false (is_unbooked calls call)))
    made places)

-- an unbook leaves out the booking of its id
stands-but : (calls : List DeskCall) (id : ℕ) (made : List BookCall) → AllByRecursion (λ (call : BookCall). call.place ≤ length calls) made
    → map (λ (call : BookCall). call.booking) (filter (λ call. not (is_unbooked (calls ++ unbook id ∷ []) call)) made)
    ≡ without id (map (λ (call : BookCall). call.booking) (filter (λ call. not (is_unbooked calls call)) made))
stands-but calls id [] places = refl
stands-but calls id (call ∷ made) (within, places) =
    by (stands-but calls id made places) (is_unbooked calls call) (eqb (call_id call) id) refl refl (unbooked-push calls (unbook id) call within)
  where
    by : map (λ (call : BookCall). call.booking) (filter (λ call. not (is_unbooked (calls ++ unbook id ∷ []) call)) made)
        ≡ without id (map (λ (call : BookCall). call.booking) (filter (λ call. not (is_unbooked calls call)) made))
        → (b c : Bool) → is_unbooked calls call ≡ b → eqb (call_id call) id ≡ c
        → is_unbooked (calls ++ unbook id ∷ []) call ≡ (is_unbooked calls call || eqb (call_id call) id)
        → map (λ (call : BookCall). call.booking) (filter (λ call. not (is_unbooked (calls ++ unbook id ∷ []) call)) (call ∷ made))
        ≡ without id (map (λ (call : BookCall). call.booking) (filter (λ call. not (is_unbooked calls call)) (call ∷ made)))
    by ih true c at of is =
        let gone : is_unbooked (calls ++ unbook id ∷ []) call ≡ true = is ∙ ap (λ b. b || eqb (call_id call) id) at in
        rw (gone, at) ih
    by ih false true at of is =
        let gone : is_unbooked (calls ++ unbook id ∷ []) call ≡ true = is ∙ ap (λ b. b || eqb (call_id call) id) at ∙ of in
        rw (gone, at, of) ih
    by ih false false at of is =
        let stays : is_unbooked (calls ++ unbook id ∷ []) call ≡ false = is ∙ ap (λ b. b || eqb (call_id call) id) at ∙ of in
        rw (stays, at, of) (ap (λ r. call.booking ∷ r) ih)

module _ (most : ℕ) (calls : List DeskCall) where
  made-same : (c : DeskCall) → book_calls (length calls) (c ∷ []) ≡ [] → made_of most (calls ++ c ∷ []) ≡ made_of most calls
  made-same c none =
      ap (λ cs. take most (first_of_each_id cs))
      (calls-append 0 calls (c ∷ []) ∙ ap (λ n. book_calls 0 calls ++ book_calls n (c ∷ [])) (let e : 0 + length calls ≡ length calls = omega arith in e)
      ∙ ap (λ r. book_calls 0 calls ++ r) none ∙ append-nil (book_calls 0 calls))

  pub made-unbook : (id : ℕ) → made_of most (calls ++ unbook id ∷ []) ≡ made_of most calls
  made-unbook id = made-same (unbook id) refl

  pub made-clock : (time : ℕ) → made_of most (calls ++ clock time ∷ []) ≡ made_of most calls
  made-clock time = made-same (clock time) refl

  pub standing-clock : (time : ℕ) → standing most (calls ++ clock time ∷ []) ≡ standing most calls
  standing-clock time =
      ap (λ made. map (λ (call : BookCall). call.booking) (filter (λ call. not (is_unbooked (calls ++ clock time ∷ []) call)) made)) (made-clock time)
      ∙ ap (map (λ (call : BookCall). call.booking)) (stands-on calls (clock time) (λ id. refl) (made_of most calls) (made-places most calls))

  pub standing-unbook : (id : ℕ) → standing most (calls ++ unbook id ∷ []) ≡ without id (standing most calls)
  standing-unbook id =
      ap (λ made. map (λ (call : BookCall). call.booking) (filter (λ call. not (is_unbooked (calls ++ unbook id ∷ []) call)) made)) (made-unbook id)
      ∙ stands-but calls id (made_of most calls) (made-places most calls)

  module _ (release : ℕ) (request : Command) where
    pub standing-same : made_of most (calls ++ book release request ∷ []) ≡ made_of most calls
        → standing most (calls ++ book release request ∷ []) ≡ standing most calls
    standing-same same =
        ap (λ made. map (λ (call : BookCall). call.booking) (filter (λ call. not (is_unbooked (calls ++ book release request ∷ []) call)) made)) same
        ∙ ap (map (λ (call : BookCall). call.booking)) (stands-on calls (book release request) (λ id. refl) (made_of most calls) (made-places most calls))

    pushed : release ≤ 1000000000 → book_calls 0 (calls ++ book release request ∷ []) ≡ book_calls 0 calls ++ call_for (length calls) release request ∷ []
    pushed in_range =
        let range : ltb 1000000000 release ≡ false = grind arith in
        calls-append 0 calls (book release request ∷ [])
        ∙ ap (λ n. book_calls 0 calls ++ book_calls n (book release request ∷ [])) (let e : 0 + length calls ≡ length calls = omega arith in e)
        ∙ rw range refl

    -- a booking that is not made changes nothing
    pub made-late : 1000000000 < release → made_of most (calls ++ book release request ∷ []) ≡ made_of most calls
    made-late late =
        let range : ltb 1000000000 release ≡ true = grind arith in
        made-same (book release request) (rw range refl)

    pub made-again : release ≤ 1000000000 → is_booked (request_id request) (map call_id (made_of most calls)) ≡ true
        → made_of most (calls ++ book release request ∷ []) ≡ made_of most calls
    made-again in_range booked =
        ap (λ cs. take most (first_of_each_id cs)) (pushed in_range)
        ∙ taken-again most (book_calls 0 calls) (call_for (length calls) release request) booked

    pub made-full : release ≤ 1000000000 → most ≤ length (made_of most calls) → made_of most (calls ++ book release request ∷ []) ≡ made_of most calls
    made-full in_range full =
        ap (λ cs. take most (first_of_each_id cs)) (pushed in_range)
        ∙ taken-full most (book_calls 0 calls) (call_for (length calls) release request) full

    pub made-new : release ≤ 1000000000 → is_booked (request_id request) (map call_id (made_of most calls)) ≡ false
        → length (made_of most calls) < most
        → made_of most (calls ++ book release request ∷ []) ≡ made_of most calls ++ call_for (length calls) release request ∷ []
    made-new in_range booked room =
        ap (λ cs. take most (first_of_each_id cs)) (pushed in_range)
        ∙ taken-new most (book_calls 0 calls) (call_for (length calls) release request) booked room

    pub standing-new : made_of most (calls ++ book release request ∷ []) ≡ made_of most calls ++ call_for (length calls) release request ∷ []
        → standing most (calls ++ book release request ∷ []) ≡ standing most calls ++ record { release = release; request = request } ∷ []
    standing-new made =
        let test : BookCall → Bool = λ call. not (is_unbooked (calls ++ book release request ∷ []) call) in
        let new : is_unbooked (calls ++ book release request ∷ []) (call_for (length calls) release request) ≡ false =
        ap (list_any (is_unbook (request_id request))) (drop-append_seam calls (book release request ∷ [])) in
        let one : filter test (call_for (length calls) release request ∷ []) ≡ call_for (length calls) release request ∷ [] = rw new refl in
        ap (λ cs. map (λ (call : BookCall). call.booking) (filter test cs)) made
        ∙ ap (map (λ (call : BookCall). call.booking)) (filter-append test (made_of most calls) (call_for (length calls) release request ∷ []))
        ∙ map-append (λ (call : BookCall). call.booking) (filter test (made_of most calls)) (filter test (call_for (length calls) release request ∷ []))
        ∙ ap (λ cs. map (λ (call : BookCall). call.booking) (filter test (made_of most calls)) ++ map (λ (call : BookCall). call.booking) cs) one
        ∙ ap (λ cs. map (λ (call : BookCall). call.booking) cs ++ record { release = release; request = request } ∷ [])
        (stands-on calls (book release request) (λ id. refl) (made_of most calls) (made-places most calls))
