-- Lists of who is aboard.
use Rattle.stop_plans.proofs.Common.{◌≡◌, ℕ, zero, suc, ◌+◌, ◌*◌, ◌<◌, ◌≤◌, Bool, true, false, cond, List, [], ◌∷◌, ◌++◌, length, take, drop, get_or, eqb, refl, sym, ◌∙◌, ap, append_assoc, arith, add-one, map, is_some, slice_set, ◌==◌, if◌then◌else◌, AllByRecursion, range_with_len, sum_by-cons, Load, Ride, Vehicle, Stop, is_pickup, is_aboard_from, is_aboard_after, load_after, loads_of, boarded, seats_aboard, chairs_aboard, load_aboard, loads_behind, IsSmall}

zero_plus : 0 + 1 ≡ 1
zero_plus = refl

suc_plus : (i : ℕ) → suc i + 1 ≡ suc (i + 1)
suc_plus i = omega arith

-- the next rider is as he was
pub next-of-boarded : (stop : Stop) (rides : List Ride) (flags : List Bool) (n : ℕ) (e : Bool) → n < length rides → length flags ≡ length rides
    → get_or (boarded stop (take n rides) (take n flags) ++ drop n flags) n e ≡ get_or flags n e
next-of-boarded stop [] flags n e h k = absurd (omega arith)
next-of-boarded stop (r ∷ rides) [] n e h k = absurd (omega (arith, k))
next-of-boarded stop (r ∷ rides) (b ∷ flags) zero e h k = refl
next-of-boarded stop (r ∷ rides) (b ∷ flags) (suc n) e h k = next-of-boarded stop rides flags n e (omega arith) (omega (arith, k))

-- who is aboard where so many of these riders were let in or out
abbrev pub so_far_boarded : Stop → List Ride → List Bool → ℕ → List Bool
so_far_boarded stop rides flags n = boarded stop (take n rides) (take n flags) ++ drop n flags

-- one rider more is in or out
pub one-more-boarded : (stop : Stop) (rides : List Ride) (flags : List Bool) (n : ℕ) (d : Ride) → n < length rides → length flags ≡ length rides
    → eqb stop.ride (get_or rides n d).id ≡ true
    → slice_set (so_far_boarded stop rides flags n) n (is_pickup stop.kind) ≡ so_far_boarded stop rides flags (n + 1)
one-more-boarded stop rides flags n d h k own = step rides flags n h k own ∙ ap (so_far_boarded stop rides flags) (sym (add-one n))
  where
    step : (rs : List Ride) (fs : List Bool) (m : ℕ) → m < length rs → length fs ≡ length rs → eqb stop.ride (get_or rs m d).id ≡ true
        → slice_set (so_far_boarded stop rs fs m) m (is_pickup stop.kind) ≡ so_far_boarded stop rs fs (suc m)
    step [] fs m low same o = absurd (omega arith)
    step (r ∷ rs) [] m low same o = absurd (omega (arith, same))
    step (r ∷ rs) (b ∷ fs) zero low same o = sym (ap (λ x. cond x (is_pickup stop.kind) b ∷ fs) o)
    step (r ∷ rs) (b ∷ fs) (suc m) low same o =
        ap (λ rest. cond (eqb stop.ride r.id) (is_pickup stop.kind) b ∷ rest) (step rs fs m (omega arith) (omega (arith, same)) o)

-- or stays as he is
pub one-more-stays : (stop : Stop) (rides : List Ride) (flags : List Bool) (n : ℕ) (d : Ride) → n < length rides → length flags ≡ length rides
    → eqb stop.ride (get_or rides n d).id ≡ false → so_far_boarded stop rides flags n ≡ so_far_boarded stop rides flags (n + 1)
one-more-stays stop rides flags n d h k other = step rides flags n h k other ∙ ap (so_far_boarded stop rides flags) (sym (add-one n))
  where
    step : (rs : List Ride) (fs : List Bool) (m : ℕ) → m < length rs → length fs ≡ length rs → eqb stop.ride (get_or rs m d).id ≡ false
        → so_far_boarded stop rs fs m ≡ so_far_boarded stop rs fs (suc m)
    step [] fs m low same o = absurd (omega arith)
    step (r ∷ rs) [] m low same o = absurd (omega (arith, same))
    step (r ∷ rs) (b ∷ fs) zero low same o = sym (ap (λ x. cond x (is_pickup stop.kind) b ∷ fs) o)
    step (r ∷ rs) (b ∷ fs) (suc m) low same o =
        ap (λ rest. cond (eqb stop.ride r.id) (is_pickup stop.kind) b ∷ rest) (step rs fs m (omega arith) (omega (arith, same)) o)

-- all are in or out
pub all-boarded : (stop : Stop) (rides : List Ride) (flags : List Bool) (n : ℕ) → length rides ≤ n → length flags ≡ length rides
    → so_far_boarded stop rides flags n ≡ boarded stop rides flags
all-boarded stop [] [] zero h k = refl
all-boarded stop [] [] (suc n) h k = refl
all-boarded stop [] (b ∷ flags) n h k = absurd (omega (arith, k))
all-boarded stop (r ∷ rides) [] n h k = absurd (omega (arith, k))
all-boarded stop (r ∷ rides) (b ∷ flags) zero h k = absurd (omega (arith, h))
all-boarded stop (r ∷ rides) (b ∷ flags) (suc n) h k =
    ap (λ rest. (if stop.ride == r.id then is_pickup stop.kind else b) ∷ rest) (all-boarded stop rides flags n (omega (arith, h)) (omega (arith, k)))

pub length-boarded : (stop : Stop) (rides : List Ride) (flags : List Bool) → length flags ≡ length rides
    → length (boarded stop rides flags) ≡ length rides
length-boarded stop [] flags k = refl
length-boarded stop (r ∷ rides) [] k = absurd (omega (arith, k))
length-boarded stop (r ∷ rides) (b ∷ flags) k = ap suc (length-boarded stop rides flags (omega (arith, k)))

-- the parts of the riders, where one is in or out
pub seats-set : (rides : List Ride) (flags : List Bool) (n : ℕ) (d : Ride) (e b : Bool) → n < length rides → length flags ≡ length rides
    → seats_aboard rides (slice_set flags n b) + cond (get_or flags n e) (get_or rides n d).seats 0
    ≡ seats_aboard rides flags + cond b (get_or rides n d).seats 0
seats-set [] flags n d e b h k = absurd (omega arith)
seats-set (r ∷ rides) [] n d e b h k = absurd (omega (arith, k))
seats-set (r ∷ rides) (f ∷ flags) zero d e b h k = omega arith
seats-set (r ∷ rides) (f ∷ flags) (suc n) d e b h k = omega (arith, seats-set rides flags n d e b (omega arith) (omega (arith, k)))

pub chairs-set : (rides : List Ride) (flags : List Bool) (n : ℕ) (d : Ride) (e b : Bool) → n < length rides → length flags ≡ length rides
    → chairs_aboard rides (slice_set flags n b) + cond (get_or flags n e) (get_or rides n d).chairs 0
    ≡ chairs_aboard rides flags + cond b (get_or rides n d).chairs 0
chairs-set [] flags n d e b h k = absurd (omega arith)
chairs-set (r ∷ rides) [] n d e b h k = absurd (omega (arith, k))
chairs-set (r ∷ rides) (f ∷ flags) zero d e b h k = omega arith
chairs-set (r ∷ rides) (f ∷ flags) (suc n) d e b h k = omega (arith, chairs-set rides flags n d e b (omega arith) (omega (arith, k)))

-- a rider's part is no more than the load
pub seats-part : (rides : List Ride) (flags : List Bool) (n : ℕ) (d : Ride) (e : Bool) → n < length rides → length flags ≡ length rides
    → cond (get_or flags n e) (get_or rides n d).seats 0 ≤ seats_aboard rides flags
seats-part [] flags n d e h k = absurd (omega arith)
seats-part (r ∷ rides) [] n d e h k = absurd (omega (arith, k))
seats-part (r ∷ rides) (f ∷ flags) zero d e h k = omega arith
seats-part (r ∷ rides) (f ∷ flags) (suc n) d e h k = omega (arith, seats-part rides flags n d e (omega arith) (omega (arith, k)))

pub chairs-part : (rides : List Ride) (flags : List Bool) (n : ℕ) (d : Ride) (e : Bool) → n < length rides → length flags ≡ length rides
    → cond (get_or flags n e) (get_or rides n d).chairs 0 ≤ chairs_aboard rides flags
chairs-part [] flags n d e h k = absurd (omega arith)
chairs-part (r ∷ rides) [] n d e h k = absurd (omega (arith, k))
chairs-part (r ∷ rides) (f ∷ flags) zero d e h k = omega arith
chairs-part (r ∷ rides) (f ∷ flags) (suc n) d e h k = omega (arith, chairs-part rides flags n d e (omega arith) (omega (arith, k)))

pub if_at_most : (b : Bool) (n m : ℕ) → n ≤ m → cond b n 0 ≤ m
if_at_most true n m h = h
if_at_most false n m h = omega arith

-- small rides have a small load
pub seats-few : (rides : List Ride) (flags : List Bool) → AllByRecursion IsSmall rides → seats_aboard rides flags ≤ 8 * length rides
seats-few [] flags h = omega arith
seats-few (r ∷ rides) [] h = omega arith
seats-few (r ∷ rides) (f ∷ flags) (small, rest) = omega (arith, seats-few rides flags rest, if_at_most f r.seats 8 small.0)

pub chairs-few : (rides : List Ride) (flags : List Bool) → AllByRecursion IsSmall rides → chairs_aboard rides flags ≤ 8 * length rides
chairs-few [] flags h = omega arith
chairs-few (r ∷ rides) [] h = omega arith
chairs-few (r ∷ rides) (f ∷ flags) (small, rest) = omega (arith, chairs-few rides flags rest, if_at_most f r.chairs 4 small.1)

-- the load of one rider after another
pub seats-drop : (rides : List Ride) (flags : List Bool) (i : ℕ) (d : Ride) (e : Bool) → i < length rides → length flags ≡ length rides
    → seats_aboard (drop i rides) (drop i flags)
    ≡ (if get_or flags i e then (get_or rides i d).seats else 0) + seats_aboard (drop (i + 1) rides) (drop (i + 1) flags)
seats-drop [] flags i d e h k = absurd (omega arith)
seats-drop (r ∷ rides) [] i d e h k = absurd (omega (arith, k))
seats-drop (r ∷ rides) (b ∷ flags) zero d e h k = refl
seats-drop (r ∷ rides) (b ∷ flags) (suc i) d e h k = rw (suc_plus i) (seats-drop rides flags i d e (omega arith) (omega (arith, k)))

pub chairs-drop : (rides : List Ride) (flags : List Bool) (i : ℕ) (d : Ride) (e : Bool) → i < length rides → length flags ≡ length rides
    → chairs_aboard (drop i rides) (drop i flags)
    ≡ (if get_or flags i e then (get_or rides i d).chairs else 0) + chairs_aboard (drop (i + 1) rides) (drop (i + 1) flags)
chairs-drop [] flags i d e h k = absurd (omega arith)
chairs-drop (r ∷ rides) [] i d e h k = absurd (omega (arith, k))
chairs-drop (r ∷ rides) (b ∷ flags) zero d e h k = refl
chairs-drop (r ∷ rides) (b ∷ flags) (suc i) d e h k = rw (suc_plus i) (chairs-drop rides flags i d e (omega arith) (omega (arith, k)))

-- whether a rider is aboard after one stop more
pub aboard-push : (aboard : Bool) (id : ℕ) (stops : List Stop) (stop : Stop)
    → is_aboard_from aboard id (stops ++ stop ∷ []) ≡ (if stop.ride == id then is_pickup stop.kind else is_aboard_from aboard id stops)
aboard-push aboard id [] stop = refl
aboard-push aboard id (s ∷ stops) stop = aboard-push (cond (eqb s.ride id) (is_pickup s.kind) aboard) id stops stop

-- who is aboard after one stop more
pub boarded-push : (rides : List Ride) (stops : List Stop) (stop : Stop)
    → boarded stop rides (map (is_aboard_after stops) rides) ≡ map (is_aboard_after (stops ++ stop ∷ [])) rides
boarded-push [] stops stop = refl
boarded-push (r ∷ rides) stops stop =
    ap (λ b. b ∷ boarded stop rides (map (is_aboard_after stops) rides)) (sym (aboard-push (is_some r.picked) r.id stops stop))
    ∙ ap (λ rest. is_aboard_after (stops ++ stop ∷ []) r ∷ rest) (boarded-push rides stops stop)

-- the load of those who are aboard after some stops
pub seats-load : (rides : List Ride) (stops : List Stop) → seats_aboard rides (map (is_aboard_after stops) rides) ≡ (load_after rides stops).seats
seats-load [] stops = refl
seats-load (r ∷ rides) stops =
    ap (λ n. cond (is_aboard_after stops r) r.seats 0 + n) (seats-load rides stops)
    ∙ sym (sum_by-cons (λ (q : Ride). cond (is_aboard_after stops q) q.seats 0) r rides)

pub chairs-load : (rides : List Ride) (stops : List Stop) → chairs_aboard rides (map (is_aboard_after stops) rides) ≡ (load_after rides stops).chairs
chairs-load [] stops = refl
chairs-load (r ∷ rides) stops =
    ap (λ n. cond (is_aboard_after stops r) r.chairs 0 + n) (chairs-load rides stops)
    ∙ sym (sum_by-cons (λ (q : Ride). cond (is_aboard_after stops q) q.chairs 0) r rides)

-- the loads along the stops are those after so many of them
loads-after : (rides : List Ride) (before stops : List Stop)
    → loads_behind rides (map (is_aboard_after before) rides) stops
    ≡ map (λ n. load_after rides (before ++ take n stops)) (range_with_len 1 (length stops))
loads-after rides before [] = refl
loads-after rides before (s ∷ stops) =
    ap (λ flags. load_aboard rides flags ∷ loads_behind rides flags stops) (boarded-push rides before s)
    ∙ ap (λ load. load ∷ loads_behind rides (map (is_aboard_after (before ++ s ∷ [])) rides) stops) (load-aboard rides (before ++ s ∷ []))
    ∙ ap (λ rest. load_after rides (before ++ s ∷ []) ∷ rest)
    (loads-after rides (before ++ s ∷ []) stops ∙ shifted 1 (length stops) (λ n. load_after rides (before ++ s ∷ [] ++ take n stops)) (λ n. load_after rides (before ++ take n (s ∷ stops)))
    (λ n. ap (load_after rides) (append_assoc before (s ∷ []) (take n stops))))
  where
    load-aboard : (rs : List Ride) (ss : List Stop) → load_aboard rs (map (is_aboard_after ss) rs) ≡ load_after rs ss
    load-aboard rs ss = λ i. record { seats = seats-load rs ss i; chairs = chairs-load rs ss i }

    shifted : (from many : ℕ) (f g : ℕ → Load) → ((n : ℕ) → f n ≡ g (suc n)) → map f (range_with_len from many) ≡ map g (range_with_len (from + 1) many)
    shifted from zero f g same = refl
    shifted from (suc many) f g same =
        ap (λ load. load ∷ map f (range_with_len (from + 1) many)) (same from ∙ ap g (sym (add-one from)))
        ∙ ap (λ rest. g (from + 1) ∷ rest) (shifted (from + 1) many f g same)

pub loads_behind-is : (v : Vehicle) → loads_behind v.rides.items (map (λ (ride : Ride). is_some ride.picked) v.rides.items) v.stops.items ≡ loads_of v
loads_behind-is v = loads-after v.rides.items [] v.stops.items

-- the load at the start
pub load-at_start : (rides : List Ride) → load_aboard rides (map (λ (ride : Ride). is_some ride.picked) rides) ≡ load_after rides []
load-at_start rides = λ i. record { seats = seats-load rides [] i; chairs = chairs-load rides [] i }
