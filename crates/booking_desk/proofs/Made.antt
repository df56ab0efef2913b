-- The bookings that calls make, after one more call.
use Rattle.booking_desk.proofs.Common.{◌≡◌, ℕ, zero, suc, ◌<◌, ◌≤◌, ◌+◌, Bool, true, false, eqb, ltb, List, [], ◌∷◌, ◌++◌, length, take, max, refl, sym, ap, ◌∙◌, arith, filter, map, not, ◌||◌, AllByRecursion, length-append, length-take, take-append-le, append-nil, take_all, filter-append, Command, is_booked, DeskCall, book, unbook, clock, BookCall, book_calls, call_id, first_of_each_id, greatest_clock, made_of, each-filter, each-take}

-- the call of a booking
abbrev pub call_for : ℕ → ℕ → Command → BookCall
call_for place release request = record { place = place; booking = record { release = release; request = request } }

pub clock-append : (least : ℕ) (xs ys : List DeskCall) → greatest_clock least (xs ++ ys) ≡ greatest_clock (greatest_clock least xs) ys
clock-append least [] ys = refl
clock-append least (book release request ∷ xs) ys = clock-append least xs ys
clock-append least (unbook id ∷ xs) ys = clock-append least xs ys
clock-append least (clock time ∷ xs) ys = clock-append (max least time) xs ys

next-place : (place n : ℕ) (ys : List DeskCall) → book_calls ((place + 1) + n) ys ≡ book_calls (place + suc n) ys
next-place place n ys = ap (λ k. book_calls k ys) (let e : (place + 1) + n ≡ place + suc n = omega arith in e)

pub calls-append : (place : ℕ) (xs ys : List DeskCall) → book_calls place (xs ++ ys) ≡ book_calls place xs ++ book_calls (place + length xs) ys
calls-append place [] ys = ap (λ k. book_calls k ys) (let e : place ≡ place + 0 = omega arith in e)
calls-append place (book release request ∷ xs) ys = by (calls-append (place + 1) xs ys ∙ ap (λ r. book_calls (place + 1) xs ++ r) (next-place place (length xs) ys)) (ltb 1000000000 release) refl
  where
    by : book_calls (place + 1) (xs ++ ys) ≡ book_calls (place + 1) xs ++ book_calls (place + suc (length xs)) ys
        → (b : Bool) → ltb 1000000000 release ≡ b
        → book_calls place (book release request ∷ xs ++ ys) ≡ book_calls place (book release request ∷ xs) ++ book_calls (place + suc (length xs)) ys
    by ih true at = rw at ih
    by ih false at = rw at (ap (λ r. call_for place release request ∷ r) ih)
calls-append place (unbook id ∷ xs) ys = calls-append (place + 1) xs ys ∙ ap (λ r. book_calls (place + 1) xs ++ r) (next-place place (length xs) ys)
calls-append place (clock time ∷ xs) ys = calls-append (place + 1) xs ys ∙ ap (λ r. book_calls (place + 1) xs ++ r) (next-place place (length xs) ys)

-- each call stands at its place
places-below : (place most : ℕ) (xs : List DeskCall) → place + length xs ≤ most → AllByRecursion (λ (c : BookCall). c.place ≤ most) (book_calls place xs)
places-below place most [] h = tt
places-below place most (book release request ∷ xs) h = by (places-below (place + 1) most xs (omega arith)) (ltb 1000000000 release) refl
  where
    by : AllByRecursion (λ (c : BookCall). c.place ≤ most) (book_calls (place + 1) xs) → (b : Bool) → ltb 1000000000 release ≡ b
        → AllByRecursion (λ (c : BookCall). c.place ≤ most) (book_calls place (book release request ∷ xs))
    by ih true at = rw at ih
    by ih false at = rw at (let here : place ≤ most = omega arith in here, ih)
places-below place most (unbook id ∷ xs) h = places-below (place + 1) most xs (omega arith)
places-below place most (clock time ∷ xs) h = places-below (place + 1) most xs (omega arith)

all-first : (P : BookCall → Type 0) (xs : List BookCall) → AllByRecursion P xs → AllByRecursion P (first_of_each_id xs)
all-first P [] h = tt
all-first P (x ∷ xs) (here, rest) = (here, each-filter P (λ other. not (eqb (call_id other) (call_id x))) (first_of_each_id xs) (all-first P xs rest))

pub made-places : (most : ℕ) (calls : List DeskCall) → AllByRecursion (λ (c : BookCall). c.place ≤ length calls) (made_of most calls)
made-places most calls =
    each-take (λ (c : BookCall). c.place ≤ length calls) most (first_of_each_id (book_calls 0 calls))
    (all-first (λ (c : BookCall). c.place ≤ length calls) (book_calls 0 calls) (places-below 0 (length calls) calls (omega arith)))

abbrev has : ℕ → List BookCall → Bool
has id calls = is_booked id (map call_id calls)

-- one more, where the id is a new one
abbrev pub if_new : Bool → BookCall → List BookCall
if_new true call = []
if_new false call = call ∷ []

-- leaving out another id hides none of an id
has-filter : (id other : ℕ) → eqb id other ≡ false → (ys : List BookCall) → has id (filter (λ y. not (eqb (call_id y) other)) ys) ≡ has id ys
has-filter id other apart [] = refl
has-filter id other apart (y ∷ ys) = by (has-filter id other apart ys) (eqb (call_id y) other) refl
  where
    by : has id (filter (λ y. not (eqb (call_id y) other)) ys) ≡ has id ys → (b : Bool) → eqb (call_id y) other ≡ b
        → has id (filter (λ y. not (eqb (call_id y) other)) (y ∷ ys)) ≡ has id (y ∷ ys)
    by ih true at =
        let no : eqb id (call_id y) ≡ false = grind arith in
        rw (at, no) ih
    by ih false at = rw at (ap (λ b. eqb id (call_id y) || b) ih)

-- the first for each id, after one more call
first-push : (xs : List BookCall) (c : BookCall) → first_of_each_id (xs ++ c ∷ []) ≡ first_of_each_id xs ++ if_new (has (call_id c) (first_of_each_id xs)) c
first-push [] c = refl
first-push (x ∷ xs) c = ap (λ r. x ∷ r) (ap out (first-push xs c) ∙ filter-append keeps (first_of_each_id xs) (if_new (has (call_id c) (first_of_each_id xs)) c) ∙ by (eqb (call_id c) (call_id x)) refl)
  where
    keeps : BookCall → Bool
    keeps other = not (eqb (call_id other) (call_id x))

    out : List BookCall → List BookCall
    out = filter keeps

    none : (b : Bool) → eqb (call_id c) (call_id x) ≡ true → out (if_new b c) ≡ []
    none true at = refl
    none false at = rw at refl

    one : (b : Bool) → eqb (call_id c) (call_id x) ≡ false → out (if_new b c) ≡ if_new b c
    one true at = refl
    one false at = rw at refl

    by : (b : Bool) → eqb (call_id c) (call_id x) ≡ b
        → out (first_of_each_id xs) ++ out (if_new (has (call_id c) (first_of_each_id xs)) c)
        ≡ out (first_of_each_id xs) ++ if_new (has (call_id c) (x ∷ out (first_of_each_id xs))) c
    by true at = ap (λ r. out (first_of_each_id xs) ++ r) (none (has (call_id c) (first_of_each_id xs)) at ∙ rw at refl)
    by false at =
        let same = has-filter (call_id c) (call_id x) at (first_of_each_id xs) in
        ap (λ r. out (first_of_each_id xs) ++ r) (one (has (call_id c) (first_of_each_id xs)) at ∙ rw (at, same) refl)

has-taken : (id n : ℕ) (xs : List BookCall) → has id (take n xs) ≡ true → has id xs ≡ true
has-taken id zero [] h = h
has-taken id (suc n) [] h = h
has-taken id zero (x ∷ xs) h = absurd (cc h)
has-taken id (suc n) (x ∷ xs) h = by (has-taken id n xs) (eqb id (call_id x)) refl
  where
    by : (has id (take n xs) ≡ true → has id xs ≡ true) → (b : Bool) → eqb id (call_id x) ≡ b → has id (x ∷ xs) ≡ true
    by ih true at = rw at refl
    by ih false at = rw at (ih (rw at at h))

module _ (most : ℕ) (xs : List BookCall) (c : BookCall) where
  -- a booking that was made before is not made again
  pub taken-again : has (call_id c) (take most (first_of_each_id xs)) ≡ true
      → take most (first_of_each_id (xs ++ c ∷ [])) ≡ take most (first_of_each_id xs)
  taken-again h =
      let old : has (call_id c) (first_of_each_id xs) ≡ true = has-taken (call_id c) most (first_of_each_id xs) h in
      ap (take most) (first-push xs c ∙ ap (λ b. first_of_each_id xs ++ if_new b c) old ∙ append-nil (first_of_each_id xs))

  -- where there is no room, none is made
  pub taken-full : most ≤ length (take most (first_of_each_id xs)) → take most (first_of_each_id (xs ++ c ∷ [])) ≡ take most (first_of_each_id xs)
  taken-full h =
      let full : most ≤ length (first_of_each_id xs) = omega (arith, length-take most (first_of_each_id xs)) in
      ap (take most) (first-push xs c) ∙ take-append-le most (first_of_each_id xs) (if_new (has (call_id c) (first_of_each_id xs)) c) full

  -- else it is
  pub taken-new : has (call_id c) (take most (first_of_each_id xs)) ≡ false → length (take most (first_of_each_id xs)) < most
      → take most (first_of_each_id (xs ++ c ∷ [])) ≡ take most (first_of_each_id xs) ++ c ∷ []
  taken-new h room =
      let fs = first_of_each_id xs in
      let few : length fs < most = omega (arith, length-take most fs) in
      let all : take most fs ≡ fs = take_all most fs (omega arith) in
      let new : has (call_id c) fs ≡ false = ap (has (call_id c)) (sym all) ∙ h in
      let fits : length (fs ++ c ∷ []) ≤ most = omega (arith, length-append fs (c ∷ [])) in
      ap (take most) (first-push xs c ∙ ap (λ b. fs ++ if_new b c) new) ∙ take_all most (fs ++ c ∷ []) fits ∙ ap (λ r. r ++ c ∷ []) (sym all)
