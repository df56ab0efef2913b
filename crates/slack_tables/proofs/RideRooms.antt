-- The limits of all rides under two delays, and the rooms of their trips.
use Rattle.slack_tables.proofs.Common.{◌≡◌, ℕ, suc, ◌+◌, ◌-◌, ◌<◌, ◌≤◌, Bool, true, false, not, cond, List, [], ◌∷◌, length, leb, leb-true, le-leb, refl, sym, ◌∙◌, ap, subst, arith, map, Some, None, option_map, is_some, AllByRecursion, list_all, filter_map, cons_option, and_from, and_parts, lt-leb, Pickup, Dropoff, Ride, Stop, visits_due, visit_of, stops_of, arrival_of, boarding_of, breaks_between, breaks_trip, breaks_along, HasVisits, Trip, Visit, first_visit, boarding_visit, trip_between, trip_of, no_limit, room_of}
use Rattle.slack_tables.proofs.Delays.{delayed}
use Rattle.slack_tables.proofs.Visits.{arrival-visit, postponed, visit-delayed, visit-place, one-visit, two-visits}
use Rattle.slack_tables.proofs.TripRooms.{limits_kept, kept_limits, Shift, Trips, limits_to_rooms, rooms_to_limits}

-- the arrivals with two delays
abbrev pub twice_delayed : ℕ → ℕ → ℕ → ℕ → List ℕ → List ℕ
twice_delayed i late j more times = delayed i late (delayed j more times)

-- what a delay adds at a place
abbrev added_at : ℕ → ℕ → ℕ → ℕ
added_at from d place = cond (leb from place) d 0

shift_at : (from place d : ℕ) → Shift from place d (added_at from d place)
shift_at from place d = record {
  behind = λ h. ap (λ b. cond b d 0) (le-leb from place h);
  before = λ h. ap (λ b. cond b d 0) (lt-leb from place h);
}

-- the shift of a boarding by the number of stops that are served with it
shift_suc : (from place d shift : ℕ) → Shift from place d shift → Shift (suc from) (place + 1) d shift
shift_suc from place d shift s = record { behind = λ h. s.behind (omega (arith, h)); before = λ h. s.before (omega (arith, h)) }

-- how a ride travels in a plan, and when with two delays
pub record Travels (ride : Ride) (stops : List Stop) (times : List ℕ) (i late j more : ℕ) : Type 0 where
  pub boarded : ℕ
  pub boarding : ℕ
  pub dropoff : ℕ
  pub arrival : ℕ
  pub p : ℕ
  pub q : ℕ
  pub r : ℕ
  pub s : ℕ
  pub trip_is : trip_of ride stops times ≡ Some
      (record { boarded = boarded; dropoff = dropoff; wait_room = ride.latest - boarding; ride_room = boarding + ride.longest - arrival })
  pub boards_first : boarded ≤ dropoff
  pub leaves : dropoff < length stops
  pub aboard : not (is_some ride.picked) ≡ false → boarded ≡ 0
  pub boards : boarding_of ride ride.picked stops times ≡ Some boarding
  pub arrives : arrival_of ride.id Dropoff stops times ≡ Some arrival
  pub boards_later : boarding_of ride ride.picked stops (twice_delayed i late j more times) ≡ Some (boarding + q + p)
  pub arrives_later : arrival_of ride.id Dropoff stops (twice_delayed i late j more times) ≡ Some (arrival + s + r)
  pub first_boarding : Shift (suc i) boarded late p
  pub second_boarding : Shift (suc j) boarded more q
  pub first_dropoff : Shift i dropoff late r
  pub second_dropoff : Shift j dropoff more s

-- an arrival with two delays
later-arrival : (ride : Ride) (stops : List Stop) (times : List ℕ) (i late j more : ℕ) (visit : Visit)
    → first_visit 0 ride.id Dropoff stops times ≡ Some visit
    → arrival_of ride.id Dropoff stops (twice_delayed i late j more times) ≡ Some
    (visit.time + added_at j more visit.place + added_at i late visit.place)
later-arrival ride stops times i late j more visit is =
    arrival-visit 0 ride.id Dropoff stops (twice_delayed i late j more times)
    ∙ ap (option_map (λ (v : Visit). v.time)) (visit-delayed i late ride.id Dropoff stops (delayed j more times)
    ∙ ap (option_map (postponed i late)) (visit-delayed j more ride.id Dropoff stops times ∙ ap (option_map (postponed j more)) is))

later-pickup : (ride : Ride) (stops : List Stop) (times : List ℕ) (i late j more : ℕ) (visit : Visit)
    → first_visit 0 ride.id Pickup stops times ≡ Some visit
    → arrival_of ride.id Pickup stops (twice_delayed i late j more times) ≡ Some
    (visit.time + added_at j more visit.place + added_at i late visit.place)
later-pickup ride stops times i late j more visit is =
    arrival-visit 0 ride.id Pickup stops (twice_delayed i late j more times)
    ∙ ap (option_map (λ (v : Visit). v.time)) (visit-delayed i late ride.id Pickup stops (delayed j more times)
    ∙ ap (option_map (postponed i late)) (visit-delayed j more ride.id Pickup stops times ∙ ap (option_map (postponed j more)) is))

travels_aboard : (ride : Ride) (stops : List Stop) (times : List ℕ) (i late j more at : ℕ) → length times ≡ length stops → ride.picked
    ≡ Some at
    → map visit_of (stops_of ride.id stops) ≡ visits_due ride (Some at) → Travels ride stops times i late j more
travels_aboard ride stops times i late j more at same picked due =
    let one = one-visit 0 ride.id ride.to stops times same due in
    let (_, within) = visit-place 0 ride.id Dropoff stops times one.dropoff one.there in
    record {
      boarded = 0;
      boarding = at;
      dropoff = one.dropoff.place;
      arrival = one.dropoff.time;
      p = 0;
      q = 0;
      r = added_at i late one.dropoff.place;
      s = added_at j more one.dropoff.place;
      trip_is = ap (λ o. trip_between ride (boarding_visit ride o stops times) (first_visit 0 ride.id Dropoff stops times)) picked
          ∙ ap (trip_between ride (Some (record { place = 0; time = at }))) one.there;
      boards_first = omega arith;
      leaves = omega (arith, within);
      aboard = λ _. refl;
      boards = ap (λ o. boarding_of ride o stops times) picked;
      arrives = arrival-visit 0 ride.id Dropoff stops times ∙ ap (option_map (λ (v : Visit). v.time)) one.there;
      boards_later = ap (λ o. boarding_of ride o stops (twice_delayed i late j more times)) picked ∙ ap Some (plus_zeros at);
      arrives_later = later-arrival ride stops times i late j more one.dropoff one.there;
      first_boarding = record { behind = λ h. absurd (omega (arith, h)); before = λ _. refl };
      second_boarding = record { behind = λ h. absurd (omega (arith, h)); before = λ _. refl };
      first_dropoff = shift_at i one.dropoff.place late;
      second_dropoff = shift_at j one.dropoff.place more;
    }
  where
    plus_zeros : (n : ℕ) → n ≡ n + 0 + 0
    plus_zeros n = omega arith

travels_waiting : (ride : Ride) (stops : List Stop) (times : List ℕ) (i late j more : ℕ) → length times ≡ length stops → ride.picked
    ≡ None
    → map visit_of (stops_of ride.id stops) ≡ visits_due ride None → Travels ride stops times i late j more
travels_waiting ride stops times i late j more same waits due =
    let two = two-visits 0 ride.id ride.from ride.to stops times same due in
    let (_, within) = visit-place 0 ride.id Dropoff stops times two.dropoff two.dropped in
    record {
      boarded = two.pickup.place + 1;
      boarding = two.pickup.time;
      dropoff = two.dropoff.place;
      arrival = two.dropoff.time;
      p = added_at i late two.pickup.place;
      q = added_at j more two.pickup.place;
      r = added_at i late two.dropoff.place;
      s = added_at j more two.dropoff.place;
      trip_is = ap (λ o. trip_between ride (boarding_visit ride o stops times) (first_visit 0 ride.id Dropoff stops times)) waits
          ∙ ap (λ o. trip_between ride (option_map (λ (v : Visit). record v { place = v.place + 1 }) o)
          (first_visit 0 ride.id Dropoff stops times)) two.picked_up
          ∙ ap (trip_between ride (Some (record { place = two.pickup.place + 1; time = two.pickup.time }))) two.dropped;
      boards_first = omega (arith, two.in_order);
      leaves = omega (arith, within);
      aboard = λ no. let waiting : not (is_some ride.picked) ≡ true = ap (λ o. not (is_some o)) waits in absurd (cc (no, waiting));
      boards = ap (λ o. boarding_of ride o stops times) waits ∙ arrival-visit 0 ride.id Pickup stops times
          ∙ ap (option_map (λ (v : Visit). v.time)) two.picked_up;
      arrives = arrival-visit 0 ride.id Dropoff stops times ∙ ap (option_map (λ (v : Visit). v.time)) two.dropped;
      boards_later = ap (λ o. boarding_of ride o stops (twice_delayed i late j more times)) waits
          ∙ later-pickup ride stops times i late j more two.pickup two.picked_up;
      arrives_later = later-arrival ride stops times i late j more two.dropoff two.dropped;
      first_boarding = shift_suc i two.pickup.place late _ (shift_at i two.pickup.place late);
      second_boarding = shift_suc j two.pickup.place more _ (shift_at j two.pickup.place more);
      first_dropoff = shift_at i two.dropoff.place late;
      second_dropoff = shift_at j two.dropoff.place more;
    }

pub travels : (ride : Ride) (stops : List Stop) (times : List ℕ) (i late j more : ℕ) → length times ≡ length stops
    → HasVisits stops ride
    → Travels ride stops times i late j more
travels ride stops times i late j more same due =
    elim ride.picked as (λ o. ride.picked ≡ o → map visit_of (stops_of ride.id stops) ≡ visits_due ride o
    → Travels ride stops times i late j more) [
      | None ↦ λ waits d. travels_waiting ride stops times i late j more same waits d
      | Some at ↦ λ picked d. travels_aboard ride stops times i late j more at same picked d
    ] refl due

-- the trip of a ride, as its travel has it
abbrev trip_in : {stops : List Stop} {times : List ℕ} {i late j more : ℕ} → (ride : Ride) → Travels ride stops times i late j more
    → Trip
trip_in ride t = record { boarded = t.boarded; dropoff = t.dropoff; wait_room = ride.latest - t.boarding; ride_room = t.boarding + ride.longest - t.arrival }

trips : {stops : List Stop} {times : List ℕ} {i late j more : ℕ} → (ride : Ride) → (t : Travels ride stops times i late j more) → i ≤ j
    → late + more ≤ no_limit
    → Trips (not (is_some ride.picked))
    (length stops) i j late more ride.latest ride.longest t.boarded t.dropoff t.boarding t.arrival t.p t.q t.r t.s
trips ride t in_order few = record {
  in_order = in_order;
  few = few;
  boards_first = t.boards_first;
  leaves = t.leaves;
  aboard = t.aboard;
  first_boarding = t.first_boarding;
  second_boarding = t.second_boarding;
  first_dropoff = t.first_dropoff;
  second_dropoff = t.second_dropoff;
}

-- the limits that a ride's arrivals break, now and with the delays
breaks-now : {stops : List Stop} {times : List ℕ} {i late j more : ℕ} → (ride : Ride) → (t : Travels ride stops times i late j more)
    → breaks_along stops times ride ≡ breaks_between ride t.boarding t.arrival
breaks-now {stops} {times} ride t =
    ap (λ o. breaks_trip ride o (arrival_of ride.id Dropoff stops times)) t.boards ∙ ap (breaks_trip ride (Some t.boarding)) t.arrives

breaks-later : {stops : List Stop} {times : List ℕ} {i late j more : ℕ} → (ride : Ride) → (t : Travels ride stops times i late j more)
    → breaks_along stops (twice_delayed i late j more times) ride ≡ breaks_between ride (t.boarding + t.q + t.p)
    (t.arrival + t.s + t.r)
breaks-later {stops} {times} {i} {late} {j} {more} ride t =
    ap (λ o. breaks_trip ride o (arrival_of ride.id Dropoff stops (twice_delayed i late j more times))) t.boards_later
    ∙ ap (breaks_trip ride (Some (t.boarding + t.q + t.p))) t.arrives_later

-- rooms of all trips that allow for two delays
pub record AllowsAll (trips : List Trip) (stops i j late more : ℕ) : Type 0 where
  pub first : late ≤ room_of trips i i
  pub both : j < stops → late + more ≤ room_of trips i j
  pub second : j < stops → more ≤ room_of trips j j

-- all rides keep their limits with the delays exactly where they do so now and their rooms allow for the delays
pub all_limits_to_rooms : (stops : List Stop) (times : List ℕ) (i late j more : ℕ) (rides : List Ride) → length times ≡ length stops
    → AllByRecursion (HasVisits stops) rides → i ≤ j → late + more ≤ no_limit
    → list_all (λ (ride : Ride). not (breaks_along stops (twice_delayed i late j more times) ride)) rides ≡ true
    → (list_all (λ (ride : Ride). not (breaks_along stops times ride)) rides ≡ true)
    × AllowsAll (filter_map (λ (ride : Ride). trip_of ride stops times) rides) (length stops) i j late more
all_limits_to_rooms stops times i late j more [] same due in_order few kept = (
  refl,
  record { first = omega (arith, few); both = λ _. few; second = λ _. omega (arith, few) },
)
all_limits_to_rooms stops times i late j more (ride ∷ rides) same (visits, due) in_order few kept =
    let t = travels ride stops times i late j more same visits in
    let (here, behind) = and_parts (not (breaks_along stops (twice_delayed i late j more times) ride))
    (list_all (λ (r : Ride). not (breaks_along stops (twice_delayed i late j more times) r)) rides) kept in
    let (rest, rooms) = all_limits_to_rooms stops times i late j more rides same due in_order few behind in
    let limits = limits_kept (not (is_some ride.picked)) ride.latest ride.longest (t.boarding + t.q + t.p) (t.arrival + t.s + t.r)
    (ap not (sym (breaks-later ride t)) ∙ here) in
    let (old, allows) = limits_to_rooms _ _ i j late more _ _ _ _ _ _ _ _ _ _ (trips ride t in_order few) limits in (
      and_from (not (breaks_along stops times ride)) (list_all (λ (r : Ride). not (breaks_along stops times r)) rides)
          (ap not (breaks-now ride t) ∙ kept_limits
          (not (is_some ride.picked)) ride.latest ride.longest t.boarding t.arrival old) rest,
      subst (λ o. AllowsAll (cons_option o (filter_map (λ (r : Ride). trip_of r stops times) rides)) (length stops) i j late more)
          (sym t.trip_is)
          (record {
            first = omega (arith, allows.first, rooms.first);
            both = λ h. omega (arith, allows.both h, rooms.both h);
            second = λ h. omega (arith, allows.second h, rooms.second h);
          }),
    )

pub all_rooms_to_limits : (stops : List Stop) (times : List ℕ) (i late j more : ℕ) (rides : List Ride) → length times ≡ length stops
    → AllByRecursion (HasVisits stops) rides → i ≤ j → late + more ≤ no_limit
    → list_all (λ (ride : Ride). not (breaks_along stops times ride)) rides ≡ true
    → AllowsAll (filter_map (λ (ride : Ride). trip_of ride stops times) rides) (length stops) i j late more
    → list_all (λ (ride : Ride). not (breaks_along stops (twice_delayed i late j more times) ride)) rides ≡ true
all_rooms_to_limits stops times i late j more [] same due in_order few kept rooms = refl
all_rooms_to_limits stops times i late j more (ride ∷ rides) same (visits, due) in_order few kept rooms =
    let t = travels ride stops times i late j more same visits in
    let (here, behind) = and_parts (not (breaks_along stops times ride))
    (list_all (λ (r : Ride). not (breaks_along stops times r)) rides) kept in
    let all : AllowsAll (trip_in ride t ∷ filter_map (λ (r : Ride). trip_of r stops times) rides) (length stops) i j late more
    = subst (λ o. AllowsAll (cons_option o (filter_map (λ (r : Ride). trip_of r stops times) rides))
    (length stops) i j late more) t.trip_is rooms in
    let old = limits_kept (not (is_some ride.picked)) ride.latest ride.longest t.boarding t.arrival
    (ap not (sym (breaks-now ride t)) ∙ here) in
    let limits = rooms_to_limits _ _ i j late more _ _ _ _ _ _ _ _ _ _ (trips ride t in_order few) old
    (record {
      first = omega (arith, all.first);
      both = λ h. omega (arith, all.both h);
      second = λ h. omega (arith, all.second h);
    }) in
    and_from (not (breaks_along stops (twice_delayed i late j more times) ride))
    (list_all (λ (r : Ride). not (breaks_along stops (twice_delayed i late j more times) r)) rides)
    (ap not (breaks-later ride t) ∙ kept_limits (not (is_some ride.picked)) ride.latest ride.longest (t.boarding + t.q + t.p)
    (t.arrival + t.s + t.r) limits)
    (all_rooms_to_limits stops times i late j more rides same due in_order few behind
    (record {
      first = omega (arith, all.first);
      both = λ h. omega (arith, all.both h);
      second = λ h. omega (arith, all.second h);
    }))
