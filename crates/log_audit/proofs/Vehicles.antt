-- Seats of different vehicles.
use Rattle.log_audit.proofs.Common.{◌≡◌, ℕ, ◌+◌, ◌<◌, Bool, true, false, inl, inr, List, [], ◌∷◌, ◌++◌, length, get_or, take, drop, eqb, refl, sym, ◌∙◌, ap, subst, ◌==◌, map, AllByRecursion, list_any, drop_more, map-append, take-append-drop, take_more, IsDistinct-head, IsDistinct-tail, or_parts, Seat, Among, among_map, among_map_back}
use Rattle.std.specs.List.{IsDistinct}
use Rattle.model_laws.proofs.plain.Lists.{distinct-push}

abbrev pub vehicles_of : List Seat → List ℕ
vehicles_of seats = map (λ (seat : Seat). seat.vehicle) seats

pub once-none : IsDistinct eqb (vehicles_of [])
unfolding IsDistinct
once-none = tt

-- a test that none passes
none-passes : {X : Type 0} (p : X → Bool) (xs : List X) → list_any p xs ≡ false → (x : X) → Among x xs → p x ≡ false
none-passes p [] none x there = absurd there
none-passes p (y ∷ xs) none x (inl is) = ap p (sym is) ∙ (or_parts (p y) (list_any p xs) none).0
none-passes p (y ∷ xs) none x (inr there) = none-passes p xs (or_parts (p y) (list_any p xs) none).1 x there

passes-none : {X : Type 0} (p : X → Bool) (xs : List X) → ((x : X) → Among x xs → p x ≡ false) → list_any p xs ≡ false
passes-none p [] each = refl
passes-none p (y ∷ xs) each = rw (each y (inl refl)) (passes-none p xs (λ x there. each x (inr there)))

-- one more seat of another vehicle
pub once-more : (seats : List Seat) (k : ℕ) (d : Seat) → k < length seats → IsDistinct eqb (vehicles_of (take k seats))
    → list_any (λ (seat : Seat). seat.vehicle == (get_or seats k d).vehicle) (take k seats) ≡ false
    → IsDistinct eqb (vehicles_of (take (k + 1) seats))
once-more seats k d low differ none =
    subst (λ ss. IsDistinct eqb (vehicles_of ss)) (sym (take_more seats k d low))
    (subst (IsDistinct eqb) (sym (map-append (λ (seat : Seat). seat.vehicle) (take k seats) (get_or seats k d ∷ [])))
    (distinct-push (vehicles_of (take k seats)) (get_or seats k d).vehicle differ
    (λ y there. let (seat, among, is) = among_map_back (λ (s : Seat). s.vehicle) (take k seats) y there in
    ap (λ n. eqb n (get_or seats k d).vehicle) (sym is)
    ∙ none-passes (λ (s : Seat). s.vehicle == (get_or seats k d).vehicle) (take k seats) none seat among)))

-- those before one of different numbers are apart from it
before-apart : (xs : List ℕ) (v : ℕ) (ys : List ℕ) → IsDistinct eqb (xs ++ v ∷ ys) → (y : ℕ) → Among y xs → eqb y v ≡ false
before-apart [] v ys differ y there = absurd there
before-apart (x ∷ xs) v ys differ y (inl is) =
    ap (λ n. eqb n v) (sym is) ∙ second-of xs (IsDistinct-head eqb x (xs ++ v ∷ ys) differ)
  where
    second-of : (zs : List ℕ) → AllByRecursion (λ n. eqb x n ≡ false) (zs ++ v ∷ ys) → eqb x v ≡ false
    second-of [] (first, _) = first
    second-of (z ∷ zs) (_, rest) = second-of zs rest
before-apart (x ∷ xs) v ys differ y (inr there) = before-apart xs v ys (IsDistinct-tail eqb x (xs ++ v ∷ ys) differ) y there

-- a vehicle that comes twice
pub not-once : (seats : List Seat) (k : ℕ) (d : Seat) → k < length seats
    → list_any (λ (seat : Seat). seat.vehicle == (get_or seats k d).vehicle) (take k seats) ≡ true → IsDistinct eqb (vehicles_of seats) → ⊥
not-once seats k d low twice differ =
    let split : seats ≡ take k seats ++ get_or seats k d ∷ drop (k + 1) seats
    = sym (take-append-drop k seats) ∙ ap (λ l. take k seats ++ l) (drop_more seats k d low) in
    let parts : vehicles_of seats ≡ vehicles_of (take k seats) ++ (get_or seats k d).vehicle ∷ vehicles_of (drop (k + 1) seats)
    = ap vehicles_of split ∙ map-append (λ (s : Seat). s.vehicle) (take k seats) (get_or seats k d ∷ drop (k + 1) seats) in
    let none = passes-none (λ (s : Seat). s.vehicle == (get_or seats k d).vehicle) (take k seats)
    (λ s there. before-apart (vehicles_of (take k seats)) (get_or seats k d).vehicle (vehicles_of (drop (k + 1) seats))
    (subst (IsDistinct eqb) parts differ) s.vehicle (among_map (λ (x : Seat). x.vehicle) (take k seats) s there)) in
    let never : true ≡ false = sym twice ∙ none in (cc never)
