-- Outcomes that are decided one after another.
use Rattle.batch_commit.proofs.Common.{◌≡◌, ℕ, zero, suc, ◌+◌, ◌<◌, ◌≤◌, Bool, List, [], ◌∷◌, length, take, get_or, refl, sym, ◌∙◌, ap, subst, arith, add-one, map, slice_set, length-map, Outcome, Seat, Ride, Vehicle, State, ride_ids, BatchCopy, was_cancelled, seat_of, outcome_by, outcome_of, StandsSo}

-- one more is decided
pub decided-more : (f : ℕ → Outcome) (ids : List ℕ) (xs : List (ℕ × Outcome)) (r id : ℕ) (o : Outcome) → length xs ≡ length ids → r < length ids
    → id ≡ get_or ids r 0 → o ≡ f (get_or ids r 0)
    → take r xs ≡ take r (map (λ q. (q, f q)) ids)
    → take (r + 1) (slice_set xs r (id, o)) ≡ take (r + 1) (map (λ q. (q, f q)) ids)
decided-more f ids xs r id o same low id_is o_is so_far =
    ap (λ n. take n (slice_set xs r (id, o))) (add-one r) ∙ step ids xs r same low id_is o_is so_far ∙ ap (λ n. take n (map (λ q. (q, f q)) ids)) (sym (add-one r))
  where
    step : (qs : List ℕ) (ys : List (ℕ × Outcome)) (n : ℕ) → length ys ≡ length qs → n < length qs → id ≡ get_or qs n 0 → o ≡ f (get_or qs n 0)
        → take n ys ≡ take n (map (λ q. (q, f q)) qs)
        → take (suc n) (slice_set ys n (id, o)) ≡ take (suc n) (map (λ q. (q, f q)) qs)
    step [] ys n h k a b e = absurd (omega (arith, k))
    step (q ∷ qs) [] n h k a b e = absurd (omega (arith, h))
    step (q ∷ qs) (y ∷ ys) zero h k a b e = λ i. (a i, b i) ∷ []
    step (q ∷ qs) (y ∷ ys) (suc n) h k a b e =
        ap (λ z. z ∷ take (suc n) (slice_set ys n (id, o))) (cc e)
        ∙ ap (λ rest. (q, f q) ∷ rest) (step qs ys n (omega (arith, h)) (omega (arith, k)) a b (cc e))

-- the ids stay
pub ids-stay : (ids : List ℕ) (xs : List (ℕ × Outcome)) (r id : ℕ) (o : Outcome) → r < length ids → id ≡ get_or ids r 0
    → map (λ (item : ℕ × Outcome). item.0) xs ≡ ids → map (λ (item : ℕ × Outcome). item.0) (slice_set xs r (id, o)) ≡ ids
ids-stay [] xs r id o low id_is same = absurd (omega arith)
ids-stay (q ∷ ids) [] r id o low id_is same = absurd (cc same)
ids-stay (q ∷ ids) (x ∷ xs) zero id o low id_is same = λ i. id_is i ∷ rest i
  where
    rest : map (λ (item : ℕ × Outcome). item.0) xs ≡ ids
    rest = cc same
ids-stay (q ∷ ids) (x ∷ xs) (suc r) id o low id_is same =
    ap (λ n. n ∷ map (λ (item : ℕ × Outcome). item.0) (slice_set xs r (id, o))) first
    ∙ ap (λ more. q ∷ more) (ids-stay ids xs r id o (omega arith) id_is (cc same))
  where
    first : x.0 ≡ q
    first = cc same

-- an element of images
pub get_or-map : {X Y : Type 0} (f : X → Y) (xs : List X) (i : ℕ) (d : X) (e : Y) → i < length xs → f (get_or xs i d) ≡ get_or (map f xs) i e
get_or-map f [] i d e h = absurd (omega arith)
get_or-map f (x ∷ xs) zero d e h = refl
get_or-map f (x ∷ xs) (suc i) d e h = get_or-map f xs i d e (omega arith)

-- the next request's outcome is that of the moment
pub next-outcome : (batch : BatchCopy) (seats : List Seat) (now : ℕ) (vehicles : List Vehicle) (cancelled : List Bool) (s : State) (r id : ℕ) (o : Outcome) (e : Bool)
    → StandsSo batch now vehicles cancelled s → r < length batch.requests
    → id ≡ get_or (ride_ids batch.requests) r 0
    → o ≡ outcome_by batch s (get_or cancelled r e) (seat_of seats id)
    → o ≡ outcome_of batch seats s (get_or (ride_ids batch.requests) r 0)
next-outcome batch seats now vehicles cancelled s r id o e stands low id_is o_is =
    o_is
    ∙ ap (λ b. outcome_by batch s b (seat_of seats id))
    (ap (λ flags. get_or flags r e) stands.cancelled_are
    ∙ sym (get_or-map (was_cancelled s) (ride_ids batch.requests) r 0 e (omega (arith, low, length-map batch.requests (λ (q : Ride). q.id)))))
    ∙ ap (λ q. outcome_by batch s (was_cancelled s (get_or (ride_ids batch.requests) r 0)) (seat_of seats q)) id_is
