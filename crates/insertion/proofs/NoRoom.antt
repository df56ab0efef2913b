-- No offer on the way past a place where a ride does not fit beside what is aboard.
use Rattle.insertion.proofs.Common.{◌≡◌, inl, inr, ℕ, zero, suc, ◌+◌, ◌-◌, ◌<◌, ◌≤◌, Bool, true, false, cond, ◌&&◌, List, [], ◌∷◌, ◌++◌, length, take, get_or, eqb, leb, refl, sym, ◌∙◌, ap, subst, arith, add-one, add-zero, map, sum_by, insert, is_some, Contains, Option, Some, None, option_and_then, AllByRecursion, list_all, range_with_len, and_parts, eq-eqb, eqb-true, sum_by-append, sum_by-cons, Settings, Load, Ride, Stop, Vehicle, RoadMap, lesser, least_of, is_pickup, is_aboard_from, is_aboard_after, load_after, fits_load, loads_fit, keeps, keeps_ride, pickup_of, dropoff_of, stops_with, with_plan, inserted, is_open, start_of, offer_of, offer_of_plan, IsLawful, ride_ids, IsFresh, fits_throughout, length-same, load-agrees, load-same, unlegged-routed, inserted_facts, length-stops_with, plan-fresh, Near, IsAsked, cost_if_any, least_with_pickup, load_beside, fits_beside, rooms_of}
use Rattle.model_laws.proofs.plain.Among.{Among, contains_from_among}
use Rattle.model_laws.proofs.plain.Each.{each-take}
use Rattle.insertion.proofs.OfferLaws.{are-places, at-places, no-places, plan-broken}

-- the first stops of a plan with a stop more
take-before : (k j : ℕ) (x : Stop) (stops : List Stop) → k ≤ j → j ≤ length stops → take k (insert stops j x) ≡ take k stops
take-before zero j x stops low within = refl
take-before (suc k) zero x stops low within = absurd (omega (arith, low))
take-before (suc k) (suc j) x [] low within = absurd (omega arith)
take-before (suc k) (suc j) x (s ∷ stops) low within = ap (λ rest. s ∷ rest) (take-before k j x stops (omega (arith, low)) (omega arith))

take-behind : (k i : ℕ) (x : Stop) (stops : List Stop) → i ≤ k → i ≤ length stops → take (suc k) (insert stops i x) ≡ insert (take k stops) i x
take-behind k zero x stops low within = refl
take-behind zero (suc i) x stops low within = absurd (omega (arith, low))
take-behind (suc k) (suc i) x [] low within = absurd (omega arith)
take-behind (suc k) (suc i) x (s ∷ stops) low within = ap (λ rest. s ∷ rest) (take-behind k i x stops (omega (arith, low)) (omega arith))

length-taken : (k : ℕ) (stops : List Stop) → k ≤ length stops → length (take k stops) ≡ k
length-taken zero stops h = refl
length-taken (suc k) [] h = absurd (omega arith)
length-taken (suc k) (s ∷ stops) h = ap suc (length-taken k stops (omega arith))

-- a stop of another ride lets nobody in or out
aboard-other : (aboard : Bool) (id i : ℕ) (x : Stop) (stops : List Stop) → i ≤ length stops → eqb x.ride id ≡ false
    → is_aboard_from aboard id (insert stops i x) ≡ is_aboard_from aboard id stops
aboard-other aboard id zero x stops within other = ap (λ b. is_aboard_from (cond b (is_pickup x.kind) aboard) id stops) other
aboard-other aboard id (suc i) x [] within other = absurd (omega arith)
aboard-other aboard id (suc i) x (s ∷ stops) within other =
    aboard-other (cond (eqb s.ride id) (is_pickup s.kind) aboard) id i x stops (omega arith) other

-- who has no stop stays as he is
aboard-none : (aboard : Bool) (id : ℕ) (stops : List Stop) → AllByRecursion (λ (s : Stop). eqb s.ride id ≡ false) stops
    → is_aboard_from aboard id stops ≡ aboard
aboard-none aboard id [] h = refl
aboard-none aboard id (s ∷ stops) (other, others) =
    ap (λ b. is_aboard_from (cond b (is_pickup s.kind) aboard) id stops) other ∙ aboard-none aboard id stops others

-- and is as the only stop says
aboard-own : (aboard : Bool) (id i : ℕ) (x : Stop) (stops : List Stop) → i ≤ length stops → eqb x.ride id ≡ true
    → AllByRecursion (λ (s : Stop). eqb s.ride id ≡ false) stops → is_aboard_from aboard id (insert stops i x) ≡ is_pickup x.kind
aboard-own aboard id zero x stops within own others =
    ap (λ b. is_aboard_from (cond b (is_pickup x.kind) aboard) id stops) own ∙ aboard-none (is_pickup x.kind) id stops others
aboard-own aboard id (suc i) x [] within own others = absurd (omega arith)
aboard-own aboard id (suc i) x (s ∷ stops) within own (other, others) =
    aboard-own (cond (eqb s.ride id) (is_pickup s.kind) aboard) id i x stops (omega arith) own others

-- the load with a ride that is aboard
load-pushed : (rides : List Ride) (ride : Ride) (stops : List Stop) → is_aboard_after stops ride ≡ true
    → load_after (rides ++ ride ∷ []) stops ≡ load_beside ride (load_after rides stops)
load-pushed rides ride stops is = λ k. record { seats = sum (λ (r : Ride). r.seats) k; chairs = sum (λ (r : Ride). r.chairs) k }
  where
    sum : (part : Ride → ℕ) → sum_by (λ (r : Ride). cond (is_aboard_after stops r) (part r) 0) (rides ++ ride ∷ [])
        ≡ sum_by (λ (r : Ride). cond (is_aboard_after stops r) (part r) 0) rides + part ride
    sum part =
        sum_by-append (λ (r : Ride). cond (is_aboard_after stops r) (part r) 0) rides (ride ∷ [])
        ∙ ap (λ n. sum_by (λ (r : Ride). cond (is_aboard_after stops r) (part r) 0) rides + n)
        (sum_by-cons (λ (r : Ride). cond (is_aboard_after stops r) (part r) 0) ride []
        ∙ add-zero (cond (is_aboard_after stops ride) (part ride) 0) ∙ ap (λ b. cond b (part ride) 0) is)

-- the load on the way of a ride that is put into a plan
load-on-the-way : (rides : List Ride) (ride : Ride) (i j k : ℕ) (stops : List Stop) → i ≤ k → k ≤ j → j ≤ length stops
    → AllByRecursion (λ (r : Ride). eqb ride.id r.id ≡ false) rides → AllByRecursion (λ (s : Stop). eqb s.ride ride.id ≡ false) stops
    → load_after (rides ++ ride ∷ []) (take (suc k) (stops_with ride i j stops)) ≡ load_beside ride (load_after rides (take k stops))
load-on-the-way rides ride i j k stops low high within other_rides other_stops =
    ap (load_after (rides ++ ride ∷ [])) taken
    ∙ load-pushed rides ride (insert (take k stops) i (pickup_of ride))
    (aboard-own (is_some ride.picked) ride.id i (pickup_of ride) (take k stops) reached (eq-eqb ride.id ride.id refl) (each-take (λ (s : Stop). eqb s.ride ride.id ≡ false) k stops other_stops))
    ∙ ap (load_beside ride) (load-agrees rides (insert (take k stops) i (pickup_of ride)) (take k stops) (each rides other_rides))
  where
    inner : i ≤ length (insert stops j (dropoff_of ride))
    inner = grown j stops within (omega (arith, low, high))
      where
        grown : (m : ℕ) (ss : List Stop) → m ≤ length ss → i ≤ m → i ≤ length (insert ss m (dropoff_of ride))
        grown m ss inside under = omega (arith, inserted-length m ss inside, under, inside)
          where
            inserted-length : (n : ℕ) (xs : List Stop) → n ≤ length xs → length (insert xs n (dropoff_of ride)) ≡ suc (length xs)
            inserted-length zero xs h = refl
            inserted-length (suc n) [] h = absurd (omega arith)
            inserted-length (suc n) (x ∷ xs) h = ap suc (inserted-length n xs (omega arith))

    reached : i ≤ length (take k stops)
    reached = omega (arith, length-taken k stops (omega (arith, high, within)), low)

    taken : take (suc k) (stops_with ride i j stops) ≡ insert (take k stops) i (pickup_of ride)
    taken =
        take-behind k i (pickup_of ride) (insert stops j (dropoff_of ride)) low inner
        ∙ ap (λ xs. insert xs i (pickup_of ride)) (take-before k j (dropoff_of ride) stops high within)

    each : (rs : List Ride) → AllByRecursion (λ (r : Ride). eqb ride.id r.id ≡ false) rs
        → AllByRecursion (λ (r : Ride). is_aboard_after (insert (take k stops) i (pickup_of ride)) r ≡ is_aboard_after (take k stops) r) rs
    each [] h = tt
    each (r ∷ rs) (other, others) =
        (aboard-other (is_some r.picked) r.id i (pickup_of ride) (take k stops) reached other, each rs others)

-- the room before a place
at-range : {X Y : Type 0} (f : ℕ → X) (g : X → Y) (from many k : ℕ) (d : Y) → k < many
    → get_or (map g (map f (range_with_len from many))) k d ≡ g (f (from + k))
at-range f g from zero k d h = absurd (omega arith)
at-range f g from (suc many) zero d h = ap (λ n. g (f n)) (sym (add-zero from))
at-range f g from (suc many) (suc k) d h =
    at-range f g (from + 1) many k d (omega arith) ∙ ap (λ n. g (f n)) (moved from k)
  where
    moved : (n m : ℕ) → n + 1 + m ≡ n + suc m
    moved n m = omega arith

pub room-at : (v : Vehicle) (ride : Ride) (k : ℕ) (d : Bool) → k ≤ length v.stops.items
    → get_or (rooms_of v ride) k d ≡ fits_beside v ride (load_after v.rides.items (take k v.stops.items))
room-at v ride zero d h = refl
room-at v ride (suc k) d h =
    at-range (λ served. load_after v.rides.items (take served v.stops.items)) (fits_beside v ride) 1 (length v.stops.items) k d (omega arith)
    ∙ ap (λ n. fits_beside v ride (load_after v.rides.items (take n v.stops.items))) (one_and k)
  where
    one_and : (n : ℕ) → 1 + n ≡ suc n
    one_and n = omega arith

pub length-rooms : (v : Vehicle) (ride : Ride) → length (rooms_of v ride) ≡ length v.stops.items + 1
length-rooms v ride = ap suc (counted (fits_beside v ride) 1 (length v.stops.items)) ∙ sym (add-one (length v.stops.items))
  where
    counted : (g : Load → Bool) (from many : ℕ)
        → length (map g (map (λ served. load_after v.rides.items (take served v.stops.items)) (range_with_len from many))) ≡ many
    counted g from zero = refl
    counted g from (suc many) = ap suc (counted g (from + 1) many)

-- the other rides
other-rides : (rides : List Ride) (id : ℕ) → IsFresh rides id → AllByRecursion (λ (r : Ride). eqb id r.id ≡ false) rides
other-rides rides id fresh = each rides (λ q there. there)
  where
    differs : (q : ℕ) → Among q (ride_ids rides) → (b : Bool) → eqb id q ≡ b → b ≡ false
    differs q there true is = absurd (fresh (subst (Contains (ride_ids rides)) (sym (eqb-true id q is)) (contains_from_among (ride_ids rides) q there)))
    differs q there false is = refl

    each : (rs : List Ride) → ((q : ℕ) → Among q (ride_ids rs) → Among q (ride_ids rides)) → AllByRecursion (λ (r : Ride). eqb id r.id ≡ false) rs
    each [] part = tt
    each (r ∷ rs) part = (differs r.id (part r.id (inl refl)) (eqb id r.id) refl, each rs (λ q there. part q (inr there)))

-- a plan with a ride on the way past a place where it does not fit has no room
not-kept : (roads : RoadMap) (v : Vehicle) (ride : Ride) (i j k start dwell : ℕ) (new : Vehicle) → IsLawful roads v → IsFresh v.rides.items ride.id
    → i ≤ k → k ≤ j → j ≤ length v.stops.items → fits_beside v ride (load_after v.rides.items (take k v.stops.items)) ≡ false
    → inserted roads v ride i j ≡ Some new → (b : Bool) → keeps new start dwell ≡ b → b ≡ false
not-kept roads v ride i j k start dwell new lawful fresh low high within no_room is false kept = refl
not-kept roads v ride i j k start dwell new lawful fresh low high within no_room is true kept =
    let facts = inserted_facts roads v ride i j new is in
    let same = unlegged-routed roads v.at (stops_with ride i j v.stops.items) facts.out facts.route in
    let made : Vehicle = with_plan v (v.rides.items ++ ride ∷ []) facts.out in
    let keeps_made : keeps made start dwell ≡ true = subst (λ w. keeps w start dwell ≡ true) facts.new_is kept in
    let (_, fits) = and_parts (leb (length facts.out) 16 && list_all (keeps_ride made start dwell) (v.rides.items ++ ride ∷ [])) (loads_fit made) keeps_made in
    let many : length facts.out ≡ length v.stops.items + 2
    = length-same (stops_with ride i j v.stops.items) facts.out same ∙ length-stops_with ride i j v.stops.items (omega (arith, low, high)) within in
    let there : fits_load v (load_after (v.rides.items ++ ride ∷ []) (take (suc k) facts.out)) ≡ true
    = fits_throughout made fits (suc k) (omega (arith, many, high, within)) in
    let load : load_after (v.rides.items ++ ride ∷ []) (take (suc k) facts.out) ≡ load_beside ride (load_after v.rides.items (take k v.stops.items))
    = load-same (v.rides.items ++ ride ∷ []) (stops_with ride i j v.stops.items) facts.out (suc k) same
    ∙ load-on-the-way v.rides.items ride i j k v.stops.items low high within (other-rides v.rides.items ride.id fresh)
    (plan-fresh v.rides.items v.stops.items ride.id lawful.routed.planned fresh) in
    sym there ∙ ap (fits_load v) load ∙ no_room

pub no-room-on-the-way : (roads : RoadMap) (settings : Settings) (v : Vehicle) (ride : Ride) (near : Near) (time i j k : ℕ)
    → IsAsked roads v ride time settings near → i ≤ k → k ≤ j → fits_beside v ride (load_after v.rides.items (take k v.stops.items)) ≡ false
    → None ≡ offer_of roads settings v ride time i j
no-room-on-the-way roads settings v ride near time i j k asked low high no_room =
    elim (is_open v time && leb i j && leb j (length v.stops.items))
    as (λ b. (is_open v time && leb i j && leb j (length v.stops.items)) ≡ b → None ≡ offer_of roads settings v ride time i j) [
      | false ↦ λ may. no-places roads settings v ride time i j may
      | true ↦ λ may.
          elim (inserted roads v ride i j) as (λ o. inserted roads v ride i j ≡ o → None ≡ option_and_then (offer_of_plan settings v i j time) o) [
            | None ↦ λ _. refl
            | Some new ↦ λ is. plan-broken settings v i j time (start_of v settings.lead time) new refl
                (not-kept roads v ride i j k (start_of v settings.lead time) settings.dwell new asked.lawful asked.fresh low high
                (are-places v time i j may).in_range no_room is (keeps new (start_of v settings.lead time) settings.dwell) refl)
          ] refl
          ∙ at-places roads settings v ride time i j may
    ] refl

-- no least cost past a place where the ride does not fit
none-behind : (f : ℕ → Option ℕ) (from many : ℕ) → ((k : ℕ) → from ≤ k → None ≡ f k) → None ≡ least_of (map f (range_with_len from many))
none-behind f from zero none = refl
none-behind f from (suc many) none =
    none-behind f (from + 1) many (λ k low. none k (omega (arith, low)))
    ∙ ap (λ o. lesser o (least_of (map f (range_with_len (from + 1) many)))) (none from (omega arith))

pub no-least-behind : (roads : RoadMap) (settings : Settings) (v : Vehicle) (ride : Ride) (near : Near) (time i k : ℕ)
    → IsAsked roads v ride time settings near → i ≤ k → k ≤ length v.stops.items → (d : Bool) → get_or (rooms_of v ride) k d ≡ false
    → None ≡ least_with_pickup roads settings v ride time i k
no-least-behind roads settings v ride near time i k asked low within d no_room =
    none-behind (λ j. cost_if_any (offer_of roads settings v ride time i j)) k (length v.stops.items + 1 - k)
    (λ j high. ap cost_if_any (no-room-on-the-way roads settings v ride near time i j k asked low high (sym (room-at v ride k d within) ∙ no_room)))
