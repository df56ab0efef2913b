-- What is aboard of a plan with a ride more.
use Rattle.slack_tables.proofs.Common.{◌≡◌, ℕ, zero, suc, ◌+◌, ◌≤◌, Bool, true, false, cond, List, [], ◌∷◌, ◌++◌, length, take, eqb, refl, sym, ◌∙◌, ap, arith, add-zero, sum_by, AllByRecursion, sum_by-append, sum_by-cons, Load, Ride, Stop, is_pickup, is_aboard_from, is_aboard_after, load_after, relegged, with_stop}

-- legs do not matter
aboard-relegged : (aboard : Bool) (id place leg k : ℕ) (stops : List Stop)
    → is_aboard_from aboard id (take k (relegged place leg stops)) ≡ is_aboard_from aboard id (take k stops)
aboard-relegged aboard id place leg zero stops = refl
aboard-relegged aboard id place leg (suc k) [] = refl
aboard-relegged aboard id zero leg (suc k) (s ∷ stops) = refl
aboard-relegged aboard id (suc place) leg (suc k) (s ∷ stops) =
    aboard-relegged (cond (eqb s.ride id) (is_pickup s.kind) aboard) id place leg k stops

-- the stops before the new one
pub take-before : (place : ℕ) (x : Stop) (after k : ℕ) (stops : List Stop) → place ≤ length stops → k ≤ place
    → take k (with_stop place x after stops) ≡ take k stops
take-before place x after zero stops within low = refl
take-before zero x after (suc k) stops within low = absurd (omega arith)
take-before (suc place) x after (suc k) [] within low = absurd (omega arith)
take-before (suc place) x after (suc k) (s ∷ stops) within low = ap (λ rest. s ∷ rest)
    (take-before place x after k stops (omega arith) (omega arith))

-- a new stop of another ride lets nobody in or out
pub aboard-other : (aboard : Bool) (id place : ℕ) (x : Stop) (after k : ℕ) (stops : List Stop) → place ≤ length stops → place ≤ k
    → eqb x.ride id ≡ false → is_aboard_from aboard id (take (suc k) (with_stop place x after stops)) ≡ is_aboard_from aboard id
    (take k stops)
aboard-other aboard id zero x after k stops within high other =
    ap (λ b. is_aboard_from (cond b (is_pickup x.kind) aboard) id (take k (relegged 0 after stops))) other
    ∙ aboard-relegged aboard id 0 after k stops
aboard-other aboard id (suc place) x after zero stops within high other = absurd (omega arith)
aboard-other aboard id (suc place) x after (suc k) [] within high other = absurd (omega arith)
aboard-other aboard id (suc place) x after (suc k) (s ∷ stops) within high other =
    aboard-other (cond (eqb s.ride id) (is_pickup s.kind) aboard) id place x after k stops (omega arith) (omega arith) other

-- who has no stop stays as he is
pub aboard-none : (aboard : Bool) (id k : ℕ) (stops : List Stop) → AllByRecursion (λ (s : Stop). eqb s.ride id ≡ false) stops
    → is_aboard_from aboard id (take k stops) ≡ aboard
aboard-none aboard id zero stops others = refl
aboard-none aboard id (suc k) [] others = refl
aboard-none aboard id (suc k) (s ∷ stops) (other, rest) =
    ap (λ b. is_aboard_from (cond b (is_pickup s.kind) aboard) id (take k stops)) other ∙ aboard-none aboard id k stops rest

-- a new stop of a ride that has none before it says who is aboard from there on
pub aboard-own : (aboard : Bool) (id place : ℕ) (x : Stop) (after k : ℕ) (stops : List Stop) → place ≤ length stops → place ≤ k
    → eqb x.ride id ≡ true → AllByRecursion (λ (s : Stop). eqb s.ride id ≡ false) (take place stops)
    → is_aboard_from aboard id (take (suc k) (with_stop place x after stops)) ≡ is_aboard_from (is_pickup x.kind) id (take k stops)
aboard-own aboard id zero x after k stops within high own others =
    ap (λ b. is_aboard_from (cond b (is_pickup x.kind) aboard) id (take k (relegged 0 after stops))) own
    ∙ aboard-relegged (is_pickup x.kind) id 0 after k stops
aboard-own aboard id (suc place) x after zero stops within high own others = absurd (omega arith)
aboard-own aboard id (suc place) x after (suc k) [] within high own others = absurd (omega arith)
aboard-own aboard id (suc place) x after (suc k) (s ∷ stops) within high own (other, rest) =
    ap (λ b. is_aboard_from (cond b (is_pickup s.kind) aboard) id (take (suc k) (with_stop place x after stops))) other
    ∙ aboard-own aboard id place x after k stops (omega arith) (omega arith) own rest
    ∙ sym (ap (λ b. is_aboard_from (cond b (is_pickup s.kind) (is_pickup x.kind)) id (take k stops)) other)

pub others-taken : (id k : ℕ) (stops : List Stop) → AllByRecursion (λ (s : Stop). eqb s.ride id ≡ false) stops
    → AllByRecursion (λ (s : Stop). eqb s.ride id ≡ false) (take k stops)
others-taken id zero stops others = tt
others-taken id (suc k) [] others = tt
others-taken id (suc k) (s ∷ stops) (other, rest) = (other, others-taken id k stops rest)

-- a load with a ride more or not
abbrev pub load_with : Load → Bool → Ride → Load
load_with load aboard ride = record { seats = load.seats + cond aboard ride.seats 0; chairs = load.chairs + cond aboard ride.chairs 0 }

pub load-push : (rides : List Ride) (ride : Ride) (stops : List Stop) (aboard : Bool) → is_aboard_after stops ride ≡ aboard
    → load_after (rides ++ ride ∷ []) stops ≡ load_with (load_after rides stops) aboard ride
load-push rides ride stops aboard is = λ k. record {
  seats = (sum_by-append (λ (r : Ride). cond (is_aboard_after stops r) r.seats 0) rides (ride ∷ [])
      ∙ ap (λ n. sum_by (λ (r : Ride). cond (is_aboard_after stops r) r.seats 0) rides + n)
      (sum_by-cons (λ (r : Ride). cond (is_aboard_after stops r) r.seats 0) ride [] ∙ add-zero
      (cond (is_aboard_after stops ride) ride.seats 0) ∙ ap (λ b. cond b ride.seats 0) is)) k;
  chairs = (sum_by-append (λ (r : Ride). cond (is_aboard_after stops r) r.chairs 0) rides (ride ∷ [])
      ∙ ap (λ n. sum_by (λ (r : Ride). cond (is_aboard_after stops r) r.chairs 0) rides + n)
      (sum_by-cons (λ (r : Ride). cond (is_aboard_after stops r) r.chairs 0) ride [] ∙ add-zero
      (cond (is_aboard_after stops ride) ride.chairs 0) ∙ ap (λ b. cond b ride.chairs 0) is)) k;
}
