-- A served stop of a ride that was not named late is in time, and the times of the stops that are left stay as they were.
use Rattle.model_laws.proofs.Common.{◌≡◌, ℕ, ◌+◌, ◌≤◌, ◌||◌, Bool, true, false, not, cond, List, [], ◌∷◌, ◌++◌, eqb, ltb, ltb-false, refl, sym, ◌∙◌, ap, subst, arith, map, Option, Some, None, slice_set, ◌==◌, nat_lt, IfSome, filter, eqb-true, not-true, or_parts, not-false, same_Some, Done, Fed, Kind, Pickup, Dropoff, Ride, Stop, Vehicle, breaks_visits, broken_by, is_late, KeepsEvent, travel, find_ride, find_vehicle, State, placed_vehicle, Answered, raised, served, served_reply, done_at_stop, done_found, IsPlanFor, IsRouted, HasLegs, visits_due, visit_of, stops_of, IsStart}
use Rattle.model_laws.proofs.plain.Among.{Among, among_map_back, among_filter_back, found_among}
use Rattle.model_laws.proofs.plain.Numbers.{eqb-comm}
use Rattle.model_laws.proofs.AboardLoads.{filter-kept, filter-skipped}
use Rattle.model_laws.proofs.Routes.{visits_from}
use Rattle.model_laws.proofs.TravelTimes.{travel-same}
use Rattle.model_laws.proofs.history_laws.Invariant.{Inv}
use Rattle.model_laws.proofs.history_laws.Kept.{Keeping, AllKeep, all_keep-more, keeping-more, all_keep-placed}
use Rattle.model_laws.proofs.history_laws.KeptReports.{AnswerKeeps}
use Rattle.model_laws.proofs.history_laws.Served.{picked_up, visits_at, waits_at, after_visit, after_last}
use Rattle.model_laws.proofs.history_laws.Fed.{answer_by, Found, found_at}

-- the visits of a ride are of its stops
visits-stops : (dwell leave id : ℕ) (stops : List Stop)
    → map (λ (visit : Stop × ℕ). visit.0) (filter (λ (visit : Stop × ℕ). visit.0.ride == id) (visits_from dwell leave stops))
    ≡ stops_of id stops
visits-stops dwell leave id [] = refl
visits-stops dwell leave id (stop ∷ stops) =
    by_test (visits-stops dwell (leave + stop.leg + dwell) id stops) (eqb stop.ride id)
  where
    rest : List (Stop × ℕ)
    rest = filter (λ (visit : Stop × ℕ). visit.0.ride == id) (visits_from dwell (leave + stop.leg + dwell) stops)

    by_test : map (λ (visit : Stop × ℕ). visit.0) rest ≡ stops_of id stops → (b : Bool)
        → map (λ (visit : Stop × ℕ). visit.0) (cond b ((stop, leave + stop.leg) ∷ rest) rest)
        ≡ cond b (stop ∷ stops_of id stops) (stops_of id stops)
    by_test later true = ap (λ others. stop ∷ others) later
    by_test later false = later

-- no visits where the ride has no stops, and one where it has one
no_visits : (visits : List (Stop × ℕ)) → map visit_of (map (λ (visit : Stop × ℕ). visit.0) visits) ≡ [] → visits ≡ []
no_visits [] h = refl
no_visits (visit ∷ visits) h = absurd (cc h)

one_visit : (visits : List (Stop × ℕ)) (only : Kind × ℕ) → map visit_of (map (λ (visit : Stop × ℕ). visit.0) visits) ≡ only ∷ []
    → (last : Stop × ℕ) × (visits ≡ last ∷ [])
one_visit [] only h = absurd (cc h)
one_visit (last ∷ []) only h = (last, refl)
one_visit (last ∷ more ∷ visits) only h = absurd (cc h)

module _ (s : State) (v : Vehicle) (stop : Stop) (rest : List Stop) (r : IsRouted s.roads v) (stops_are : v.stops.items ≡ stop ∷ rest)
    (at_stop : v.at ≡ stop.node) (late : List ℕ) (keeping : Keeping s.settings.dwell late v) where
  -- the visits that are left
  abbrev left : List (Stop × ℕ)
  left = visits_from s.settings.dwell (v.ready + s.settings.dwell) rest

  -- the stop is where the vehicle is, and visited when it is ready
  now_visited : visits_from s.settings.dwell v.ready v.stops.items ≡ (stop, v.ready) ∷ left
  now_visited =
      ap (visits_from s.settings.dwell v.ready) stops_are
      ∙ ap (λ n. (stop, n) ∷ visits_from s.settings.dwell (n + s.settings.dwell) rest) (at_once stop.leg no_way)
    where
      no_way : stop.leg ≡ 0
      no_way = same_Some stop.leg 0 (sym (subst (HasLegs s.roads v.at) stops_are r.legs).0
          ∙ ap (λ x. travel s.roads x stop.node) at_stop ∙ travel-same s.roads stop.node)

      at_once : (leg : ℕ) → leg ≡ 0 → v.ready + leg ≡ v.ready
      at_once leg h = omega (arith, h)

  -- the visits of the ride of the stop
  own_visits : (ride : Ride) → eqb ride.id stop.ride ≡ true
      → filter (λ (visit : Stop × ℕ). visit.0.ride == ride.id) (visits_from s.settings.dwell v.ready v.stops.items)
      ≡ (stop, v.ready) ∷ filter (λ (visit : Stop × ℕ). visit.0.ride == ride.id) left
  own_visits ride is =
      ap (filter (λ (visit : Stop × ℕ). visit.0.ride == ride.id)) now_visited
      ∙ filter-kept (λ (visit : Stop × ℕ). visit.0.ride == ride.id) (stop, v.ready) left (eqb-comm stop.ride ride.id ∙ is)

  -- those of another ride
  other_visits : (ride : Ride) → eqb ride.id stop.ride ≡ false
      → filter (λ (visit : Stop × ℕ). visit.0.ride == ride.id) (visits_from s.settings.dwell v.ready v.stops.items)
      ≡ filter (λ (visit : Stop × ℕ). visit.0.ride == ride.id) left
  other_visits ride is =
      ap (filter (λ (visit : Stop × ℕ). visit.0.ride == ride.id)) now_visited
      ∙ filter-skipped (λ (visit : Stop × ℕ). visit.0.ride == ride.id) (stop, v.ready) left (eqb-comm stop.ride ride.id ∙ is)

  -- the plan, its first stop first
  plan : IsPlanFor v.rides.items (stop ∷ rest)
  plan = subst (IsPlanFor v.rides.items) stops_are r.planned

  -- the visits due to the ride of the stop
  due : (ride : Ride) → Among ride v.rides.items → eqb ride.id stop.ride ≡ true
      → visit_of stop ∷ map visit_of (stops_of ride.id rest) ≡ visits_due ride ride.picked
  due ride there is = visits_at v.rides.items stop rest ride plan there is

  -- what the visits that are left are to their ride
  left_are : (ride : Ride) (kinds : List (Kind × ℕ)) → map visit_of (stops_of ride.id rest) ≡ kinds
      → map visit_of (map (λ (visit : Stop × ℕ). visit.0) (filter (λ (visit : Stop × ℕ). visit.0.ride == ride.id) left)) ≡ kinds
  left_are ride kinds is =
      ap (map visit_of) (visits-stops s.settings.dwell (v.ready + s.settings.dwell) ride.id rest) ∙ is

  -- the limits of the ride of the stop are not broken
  own_whole : (ride : Ride) → Among ride v.rides.items → eqb ride.id stop.ride ≡ true → is_late late ride.id ≡ false
      → breaks_visits ride ride.picked ((stop, v.ready) ∷ filter (λ (visit : Stop × ℕ). visit.0.ride == ride.id) left) ≡ false
  own_whole ride there is h = sym (ap (breaks_visits ride ride.picked) (own_visits ride is)) ∙ keeping ride there h

  -- a pickup is in time
  picked_in_time : stop.kind ≡ Pickup → (ride : Ride) → Among ride v.rides.items → eqb ride.id stop.ride ≡ true
      → is_late late ride.id ≡ false → v.ready ≤ ride.latest
  picked_in_time kind_is ride there is h =
      let waits = waits_at ride ride.picked stop (map visit_of (stops_of ride.id rest)) kind_is (due ride there is) in
      let (last, only) = one_visit (filter (λ (visit : Stop × ℕ). visit.0.ride == ride.id) left) (Dropoff, ride.to)
      (left_are ride ((Dropoff, ride.to) ∷ []) (after_visit ride ride.picked stop (map visit_of (stops_of ride.id rest)) kind_is
      (due ride there is))) in
      let whole : (ltb ride.latest v.ready || ltb (v.ready + ride.longest) last.1) ≡ false
      = sym (ap (λ picked. breaks_visits ride picked ((stop, v.ready) ∷ last ∷ [])) waits)
      ∙ sym (ap (λ visits. breaks_visits ride ride.picked ((stop, v.ready) ∷ visits)) only)
      ∙ own_whole ride there is h in
      ltb-false ride.latest v.ready (or_parts (ltb ride.latest v.ready) (ltb (v.ready + ride.longest) last.1) whole).0

  -- a drop-off is in time
  dropped_in_time : stop.kind ≡ Dropoff → (ride : Ride) → Among ride v.rides.items → eqb ride.id stop.ride ≡ true
      → is_late late ride.id ≡ false → IfSome ride.picked (λ picked. v.ready ≤ picked + ride.longest)
  dropped_in_time kind_is ride there is h =
      by_picked ride.picked
      (sym (ap (λ visits. breaks_visits ride ride.picked ((stop, v.ready) ∷ visits)) none_left) ∙ own_whole ride there is h)
    where
      none_left : filter (λ (visit : Stop × ℕ). visit.0.ride == ride.id) left ≡ []
      none_left = no_visits (filter (λ (visit : Stop × ℕ). visit.0.ride == ride.id) left)
          (left_are ride [] (after_last ride ride.picked stop (map visit_of (stops_of ride.id rest)) kind_is (due ride there is)))

      by_picked : (picked : Option ℕ) → breaks_visits ride picked ((stop, v.ready) ∷ []) ≡ false
          → IfSome picked (λ at. v.ready ≤ at + ride.longest)
      by_picked None whole = tt
      by_picked (Some at) whole = ltb-false (at + ride.longest) v.ready whole

  -- another ride's times stay
  others_keep : (ride : Ride) → Among ride v.rides.items → eqb ride.id stop.ride ≡ false → is_late late ride.id ≡ false
      → breaks_visits ride ride.picked (filter (λ (visit : Stop × ℕ). visit.0.ride == ride.id) left) ≡ false
  others_keep ride there is h = sym (ap (breaks_visits ride ride.picked) (other_visits ride is)) ∙ keeping ride there h

  -- a drop-off that was in time after the pickup is so after the rider is aboard
  aboard_whole : (ride : Ride) (visits : List (Stop × ℕ)) → breaks_visits ride None ((stop, v.ready) ∷ visits) ≡ false
      → breaks_visits (record ride { picked = Some v.ready }) (Some v.ready) visits ≡ false
  aboard_whole ride [] whole = refl
  aboard_whole ride (last ∷ []) whole = (or_parts (ltb ride.latest v.ready) (ltb (v.ready + ride.longest) last.1) whole).1
  aboard_whole ride (last ∷ more ∷ visits) whole = refl

  -- the vehicle after the stop keeps what it kept
  served_keeping : (kind : Kind) → stop.kind ≡ kind
      → Keeping s.settings.dwell late (raised (served s.settings.dwell v stop rest kind))
  served_keeping Pickup kind_is new there h =
      let (ride, ride_there, is) = among_map_back (picked_up stop.ride v.ready) v.rides.items new there in
      subst (λ (x : Ride). is_late late x.id ≡ false
      → breaks_visits x x.picked (filter (λ (visit : Stop × ℕ). visit.0.ride == x.id) left) ≡ false) is
      (λ not_late. each ride ride_there not_late (eqb ride.id stop.ride) refl) h
    where
      unchanged : (ride : Ride) (b : Bool) → is_late late (cond b (record ride { picked = Some v.ready }) ride).id ≡ false
          → is_late late ride.id ≡ false
      unchanged ride true h = h
      unchanged ride false h = h

      each : (ride : Ride) → Among ride v.rides.items → is_late late (picked_up stop.ride v.ready ride).id ≡ false → (b : Bool)
          → eqb ride.id stop.ride ≡ b
          → breaks_visits (cond b (record ride { picked = Some v.ready }) ride) (cond b (record ride { picked = Some v.ready }) ride).picked
          (filter (λ (visit : Stop × ℕ). visit.0.ride == (cond b (record ride { picked = Some v.ready }) ride).id) left) ≡ false
      each ride ride_there h true is =
          aboard_whole ride (filter (λ (visit : Stop × ℕ). visit.0.ride == ride.id) left)
          (sym (ap (λ picked. breaks_visits ride picked
          ((stop, v.ready) ∷ filter (λ (visit : Stop × ℕ). visit.0.ride == ride.id) left))
          (waits_at ride ride.picked stop (map visit_of (stops_of ride.id rest)) kind_is (due ride ride_there is)))
          ∙ own_whole ride ride_there is (unchanged ride (eqb ride.id stop.ride) h))
      each ride ride_there h false is = others_keep ride ride_there is (unchanged ride (eqb ride.id stop.ride) h)
  served_keeping Dropoff kind_is ride there h =
      let (ride_there, other) = among_filter_back (λ (x : Ride). not (x.id == stop.ride)) v.rides.items ride there in
      others_keep ride ride_there (not-true (eqb ride.id stop.ride) other) h

  -- the event of the stop
  served_event : (vehicle : ℕ) → find_vehicle s.vehicles vehicle ≡ Some v → (kind : Kind) → stop.kind ≡ kind
      → KeepsEvent s late (Fed (Done vehicle) (served_reply stop kind))
  served_event vehicle found Pickup kind_is =
      λ h. rw found (by_ride h (find_ride v.rides.items stop.ride) refl)
    where
      by_ride : is_late late stop.ride ≡ false → (o : Option Ride) → find_ride v.rides.items stop.ride ≡ o → IfSome o (λ r. v.ready ≤ r.latest)
      by_ride h None is = tt
      by_ride h (Some ride) is =
          let (there, same) = found_among (λ (x : Ride). x.id == stop.ride) v.rides.items ride is in
          picked_in_time kind_is ride there same (ap (is_late late) (eqb-true ride.id stop.ride same) ∙ h)
  served_event vehicle found Dropoff kind_is =
      λ h. rw found (by_ride h (find_ride v.rides.items stop.ride) refl)
    where
      by_ride : is_late late stop.ride ≡ false → (o : Option Ride) → find_ride v.rides.items stop.ride ≡ o → IfSome o (λ r. IfSome r.picked (λ picked. v.ready ≤ picked + r.longest))
      by_ride h None is = tt
      by_ride h (Some ride) is =
          let (there, same) = found_among (λ (x : Ride). x.id == stop.ride) v.rides.items ride is in
          dropped_in_time kind_is ride there same (ap (is_late late) (eqb-true ride.id stop.ride same) ∙ h)

-- a served stop is in time, and after it the vehicles keep what they kept
abbrev pub ServiceKeeps : State → List ℕ → ℕ → Answered → Type 0
ServiceKeeps s late vehicle answer =
    KeepsEvent s late (Fed (Done vehicle) answer.reply) × AnswerKeeps s.settings.dwell late (Done vehicle) answer

module _ (desks fed : ℕ) (ok : ℕ → Type 0) (start s : State) (begins : IsStart start) (inv : Inv desks fed ok start s)
    (late : List ℕ) (vehicle : ℕ) (keep : AllKeep s.settings.dwell late s.vehicles) where
  -- a refusal
  none_served : AllKeep s.settings.dwell (late ++ []) s.vehicles
  none_served = all_keep-more s.settings.dwell late [] s.vehicles keep

  -- the first of these stops is served
  done_at_keeps : (place : ℕ) (v : Vehicle) → Found s place vehicle v → (stops : List Stop) → v.stops.items ≡ stops
      → ServiceKeeps s late vehicle (done_at_stop s place v stops)
  done_at_keeps place v at [] is = (tt, none_served)
  done_at_keeps place v at (stop ∷ rest) is =
      answer_by (ServiceKeeps s late vehicle) (not (eqb v.at stop.node)) _ _ (λ _. (tt, none_served)) (λ at_stop.
      answer_by (ServiceKeeps s late vehicle) (nat_lt 1000003600 (v.ready + s.settings.dwell)) _ _ (λ _. (tt, none_served)) (λ _. by_kind
      (eqb-true v.at stop.node (not-false (eqb v.at stop.node) at_stop)) stop.kind refl))
    where
      by_kind : v.at ≡ stop.node → (kind : Kind) → stop.kind ≡ kind
          → KeepsEvent s late (Fed (Done vehicle) (served_reply stop kind))
          × AllKeep s.settings.dwell (late ++ broken_by (Fed (Done vehicle) (served_reply stop kind)))
          (slice_set s.vehicles place (raised (served s.settings.dwell v stop rest kind)))
      by_kind at_stop kind kind_is =
          let r = (inv.lawful v at.there).routed in
          let found : find_vehicle s.vehicles vehicle ≡ Some v
          = ap (find_vehicle s.vehicles) (sym at.id_is) ∙ at.placed.found in
          let keeping = served_keeping s v stop rest r is at_stop late (keep v at.there) kind kind_is in (
            served_event s v stop rest r is at_stop late (keep v at.there) vehicle found kind kind_is,
            all_keep-placed s.settings.dwell _ s.vehicles place v (raised (served s.settings.dwell v stop rest kind)) at.placed
                (same_id kind) (all_keep-more s.settings.dwell late _ s.vehicles keep)
                (keeping-more s.settings.dwell late _ (raised (served s.settings.dwell v stop rest kind)) keeping),
          )
        where
          same_id : (kind : Kind) → (raised (served s.settings.dwell v stop rest kind)).id ≡ v.id
          same_id Pickup = refl
          same_id Dropoff = refl

  -- a served stop of a vehicle that is there or not
  pub done_keeps : (o : Option (ℕ × Vehicle)) → placed_vehicle s vehicle ≡ o → ServiceKeeps s late vehicle (done_found s o)
  done_keeps None is = (tt, none_served)
  done_keeps (Some (place, v)) is = done_at_keeps place v (found_at desks fed ok start s place vehicle v begins inv is) v.stops.items refl
