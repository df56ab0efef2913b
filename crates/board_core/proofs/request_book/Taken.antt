-- The rides at the places that wait.
use Rattle.board_core.proofs.Common.{◌≡◌, ℕ, ◌+◌, ◌<◌, ◌≤◌, zero, suc, Bool, true, false, cond, List, [], ◌∷◌, ◌++◌, length, Some, None, slice_get, ltb, refl, sym, ap, ◌∙◌, subst, arith, add-zero, map, take, AllByRecursion, lt-ltb, le-ltb, take_all, take-map, Rises, places_above, each-weaker, filter-all, Ride, AcceptedRequest, is_waiting, waiting_of, waiting_places}
use Rattle.std.specs.Prelude.{filter}
use Rattle.board_core.proofs.request_book.Places.{places-from, places-below}

-- the ride of the request at a place
abbrev pub ride_at : List AcceptedRequest → ℕ → Ride
ride_at [] place = record { id = 0; from = 0; to = 0; seats = 0; chairs = 0; latest = 0; longest = 0; picked = None }
ride_at (r ∷ requests) zero = r.ride
ride_at (r ∷ requests) (suc place) = ride_at requests place

-- places that wait rise
pub places-rise : (place : ℕ) (requests : List AcceptedRequest) → Rises (waiting_places place requests)
places-rise place [] = tt
places-rise place (r ∷ requests) = by (is_waiting r.state) (places-rise (place + 1) requests)
  where
    by : (b : Bool) → Rises (waiting_places (place + 1) requests)
        → Rises (cond b (place ∷ waiting_places (place + 1) requests) (waiting_places (place + 1) requests))
    by true rest = (each-weaker _ _ _ (λ x (l : place + 1 ≤ x). omega (arith, l)) (places-from (place + 1) requests), rest)
    by false rest = rest

-- of places that rise, the first above one of them is the next
pub next-above : (i place : ℕ) (places : List ℕ) → Rises places → slice_get places i ≡ Some place
    → slice_get (places_above place places) 0 ≡ slice_get places (suc i)
next-above i place [] rises at = absurd (cc at)
next-above zero place (first ∷ places) (above, rises) at =
    let is : first ≡ place = cc at in
    let all : places_above first places ≡ places =
    filter-all (λ other. ltb first other) places (each-weaker _ _ _ (λ x (l : first < x). lt-ltb first x l) above) in
    subst (λ p. slice_get (places_above p (first ∷ places)) 0 ≡ slice_get places 0) is
    (rw (le-ltb first first (omega arith), all) refl)
next-above (suc i) place (first ∷ places) (above, rises) at =
    rw (le-ltb place first (below i places at above)) (next-above i place places rises at)
  where
    below : (k : ℕ) (later : List ℕ) → slice_get later k ≡ Some place → AllByRecursion (λ x. first < x) later → first ≤ place
    below k [] found l = absurd (cc found)
    below zero (x ∷ later) found (l, more) = let is : x ≡ place = cc found in omega (arith, l, is)
    below (suc k) (x ∷ later) found (l, more) = below k later found more

-- the rides at the places that wait are those of the waiting requests
pub rides-waiting : (requests all : List AcceptedRequest) (place : ℕ) → ((k : ℕ) → ride_at all (place + k) ≡ ride_at requests k)
    → map (ride_at all) (waiting_places place requests) ≡ waiting_of requests
rides-waiting [] all place same = refl
rides-waiting (r ∷ requests) all place same =
    by (is_waiting r.state) (rides-waiting requests all (place + 1) (λ k. ap (ride_at all) (moved k) ∙ same (suc k)))
  where
    moved : (k : ℕ) → place + 1 + k ≡ place + suc k
    moved k = omega arith

    first : ride_at all place ≡ r.ride
    first = ap (ride_at all) (sym (add-zero place)) ∙ same 0

    by : (b : Bool) → map (ride_at all) (waiting_places (place + 1) requests) ≡ waiting_of requests
        → map (ride_at all) (cond b (place ∷ waiting_places (place + 1) requests) (waiting_places (place + 1) requests))
        ≡ map (λ (q : AcceptedRequest). q.ride) (cond b (r ∷ filter (λ (q : AcceptedRequest). is_waiting q.state) requests)
        (filter (λ (q : AcceptedRequest). is_waiting q.state) requests))
    by true rest = ap (λ x. x ∷ map (ride_at all) (waiting_places (place + 1) requests)) first ∙ ap (λ xs. r.ride ∷ xs) rest
    by false rest = rest

-- what holds of each element holds of the one at a place
each-at : (P : ℕ → Type 0) (xs : List ℕ) (i x : ℕ) → AllByRecursion P xs → slice_get xs i ≡ Some x → P x
each-at P [] i x all at = absurd (cc at)
each-at P (y ∷ xs) zero x all at = subst P (cc at) all.0
each-at P (y ∷ xs) (suc i) x all at = each-at P xs i x all.1 at

-- a place that waits is that of a request
pub place-within : (requests : List AcceptedRequest) (i place : ℕ) → slice_get (waiting_places 0 requests) i ≡ Some place → place < length requests
place-within requests i place at =
    each-at (λ p. p < length requests) (waiting_places 0 requests) i place (places-below 0 (length requests) requests (omega arith)) at

-- the first rides and the next
pub take-next : (f : ℕ → Ride) (xs : List ℕ) (n x : ℕ) → slice_get xs n ≡ Some x
    → map f (take n xs) ++ f x ∷ [] ≡ map f (take (suc n) xs)
take-next f [] n x at = absurd (cc at)
take-next f (y ∷ xs) zero x at = ap (λ z. f z ∷ []) (sym (first at))
  where
    first : Some y ≡ Some x → y ≡ x
    first e = cc e
take-next f (y ∷ xs) (suc n) x at = ap (λ rest. f y ∷ rest) (take-next f xs n x at)

-- where there is no next, all are taken
pub take-whole : {X : Type 0} (xs : List X) (n : ℕ) → slice_get xs n ≡ None → (m : ℕ) → n ≤ m → take n xs ≡ take m xs
take-whole {X} [] n none m less = nothing n ∙ sym (nothing m)
  where
    nothing : (k : ℕ) → take {A = X} k [] ≡ []
    nothing k = take_all k [] (omega arith)
take-whole (x ∷ xs) zero none m less = absurd (cc none)
take-whole (x ∷ xs) (suc n) none zero less = absurd (omega (arith, less))
take-whole (x ∷ xs) (suc n) none (suc m) less = ap (λ rest. x ∷ rest) (take-whole xs n none m (omega (arith, less)))

-- the first rides of the places that wait are the first rides that wait
pub first-rides : (requests : List AcceptedRequest) (n : ℕ)
    → map (ride_at requests) (take n (waiting_places 0 requests)) ≡ take n (waiting_of requests)
first-rides requests n =
    sym (take-map (ride_at requests) n (waiting_places 0 requests)) ∙ ap (take n) (rides-waiting requests requests 0 (λ k. ap (ride_at requests) (zero-more k)))
  where
    zero-more : (k : ℕ) → 0 + k ≡ k
    zero-more k = omega arith

-- the ride at a place
pub ride-of : (requests : List AcceptedRequest) (place : ℕ) (r : AcceptedRequest) → slice_get requests place ≡ Some r → r.ride ≡ ride_at requests place
ride-of [] place r at = absurd (cc at)
ride-of (q ∷ requests) zero r at = let is : r ≡ q = cc at in ap (λ (x : AcceptedRequest). x.ride) is
ride-of (q ∷ requests) (suc place) r at = ride-of requests place r at
