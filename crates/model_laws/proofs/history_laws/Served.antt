-- A vehicle that has served its first stop is lawful.
use Rattle.model_laws.proofs.Common.{◌≡◌, ℕ, suc, ◌+◌, ◌≤◌, Bool, true, false, not, cond, inl, List, [], ◌∷◌, length, take, eqb, refl, sym, ◌∙◌, ap, subst, arith, map, Option, Some, None, is_some, All, Contains, IfSome, nat_eq, ◌==◌, sum_by, AllByRecursion, IsDistinct, eq-eqb, All-weaker, All-tail, All-filter, IfSome_then, Kind, Pickup, Dropoff, Ride, Stop, Vehicle, RoadMap, IsRide, IsLawful, IsPlanFor, HasLegs, visits_due, visit_of, stops_of, ride_ids, is_pickup, is_aboard_from, is_aboard_after, load_after, fits_load, with_plan, stops_without, rides_without, rides_with_picked}
use Rattle.model_laws.proofs.plain.Among.{Among, among_from_contains, among_map_back}
use Rattle.model_laws.proofs.AboardLoads.{fits_throughout, loads_fit-throughout, fits-without, filter-kept, filter-skipped}
use Rattle.model_laws.proofs.Insertions.{all-kept}
use Rattle.model_laws.proofs.PlanStops.{unlegged, plan-without}
use Rattle.model_laws.proofs.plain.Sums.{sum_by-map}
use Rattle.model_laws.proofs.plain.Numbers.{eqb-comm}
use Rattle.model_laws.proofs.plain.Each.{of_all, all_of}
use Rattle.model_laws.proofs.plain.Lists.{same-head, same-tail}
use Rattle.model_laws.proofs.history_laws.Lookups.{ids-map}

-- a ride with its rider picked up, where it is the one of the id
abbrev pub picked_up : ℕ → ℕ → Ride → Ride
picked_up id time ride = cond (eqb ride.id id) (record ride { picked = Some time }) ride

-- a pickup changes no id
pub picked_up-id : (id time : ℕ) (ride : Ride) → (picked_up id time ride).id ≡ ride.id
picked_up-id id time ride = by_test (eqb ride.id id)
  where
    by_test : (b : Bool) → (cond b (record ride { picked = Some time }) ride).id ≡ ride.id
    by_test true = refl
    by_test false = refl

-- a vehicle after its first stop, which is a pickup
abbrev pub after_pickup : ℕ → Vehicle → Stop → List Stop → Vehicle
after_pickup dwell v stop rest = with_plan (record v { ready = v.ready + dwell }) (rides_with_picked stop.ride v.ready v.rides.items) rest

-- the ride of a stop needs it
pub visits_at : (rides : List Ride) (stop : Stop) (rest : List Stop) (ride : Ride) → IsPlanFor rides (stop ∷ rest) → Among ride rides
    → eqb ride.id stop.ride ≡ true → visit_of stop ∷ map visit_of (stops_of ride.id rest) ≡ visits_due ride ride.picked
visits_at rides stop rest ride plan there is =
    sym (ap (map visit_of) (filter-kept (λ (s : Stop). s.ride == ride.id) stop rest (eqb-comm stop.ride ride.id ∙ is)))
    ∙ of_all (λ (r : Ride). map visit_of (stops_of r.id (stop ∷ rest)) ≡ visits_due r r.picked) rides ride plan.each_ride there

-- another ride does not
pub visits_past : (rides : List Ride) (stop : Stop) (rest : List Stop) (ride : Ride) → IsPlanFor rides (stop ∷ rest)
    → Among ride rides
    → eqb ride.id stop.ride ≡ false → map visit_of (stops_of ride.id rest) ≡ visits_due ride ride.picked
visits_past rides stop rest ride plan there is =
    sym (ap (map visit_of) (filter-skipped (λ (s : Stop). s.ride == ride.id) stop rest (eqb-comm stop.ride ride.id ∙ is)))
    ∙ of_all (λ (r : Ride). map visit_of (stops_of r.id (stop ∷ rest)) ≡ visits_due r r.picked) rides ride plan.each_ride there

-- a rider whose pickup is due is not aboard
pub waits_at : (ride : Ride) (picked : Option ℕ) (stop : Stop) (visits : List (Kind × ℕ)) → stop.kind ≡ Pickup
    → visit_of stop ∷ visits ≡ visits_due ride picked → picked ≡ None
waits_at ride None stop visits kind_is is = refl
waits_at ride (Some at) stop visits kind_is is = absurd (differ (same-head (visit_of stop) (Dropoff, ride.to) visits [] is))
  where
    differ : visit_of stop ≡ (Dropoff, ride.to) → ⊥
    differ equal = let kinds : stop.kind ≡ Dropoff = ap (λ (p : Kind × ℕ). p.0) equal in cc (kind_is, kinds)

-- what a ride needs after its pickup
pub after_visit : (ride : Ride) (picked : Option ℕ) (stop : Stop) (visits : List (Kind × ℕ)) → stop.kind ≡ Pickup
    → visit_of stop ∷ visits ≡ visits_due ride picked → visits ≡ (Dropoff, ride.to) ∷ []
after_visit ride None stop visits kind_is is = same-tail (visit_of stop) (Pickup, ride.from) visits ((Dropoff, ride.to) ∷ []) is
after_visit ride (Some at) stop visits kind_is is = absurd (cc (waits_at ride (Some at) stop visits kind_is is))

-- what a ride needs after its drop-off
pub after_last : (ride : Ride) (picked : Option ℕ) (stop : Stop) (visits : List (Kind × ℕ)) → stop.kind ≡ Dropoff
    → visit_of stop ∷ visits ≡ visits_due ride picked → visits ≡ []
after_last ride (Some at) stop visits kind_is is = same-tail (visit_of stop) (Dropoff, ride.to) visits [] is
after_last ride None stop visits kind_is is = absurd
    (differ (same-head (visit_of stop) (Pickup, ride.from) visits ((Dropoff, ride.to) ∷ []) is))
  where
    differ : visit_of stop ≡ (Pickup, ride.from) → ⊥
    differ equal = let kinds : stop.kind ≡ Pickup = ap (λ (p : Kind × ℕ). p.0) equal in cc (kind_is, kinds)

-- the plan after a pickup
pub plan-picked : (rides : List Ride) (stop : Stop) (rest : List Stop) (time : ℕ) → IsPlanFor rides (stop ∷ rest)
    → stop.kind ≡ Pickup
    → IsPlanFor (rides_with_picked stop.ride time rides) rest
plan-picked rides stop rest time plan kind_is =
    let ids_same : ride_ids (rides_with_picked stop.ride time rides) ≡ ride_ids rides = ids-map (λ (r : Ride). r.id)
    (picked_up stop.ride time) (picked_up-id stop.ride time) rides in
    record {
      ids_differ = subst (IsDistinct nat_eq) (sym ids_same) plan.ids_differ;
      each_ride = all_of _ (rides_with_picked stop.ride time rides) (λ new there.
          let (ride, ride_there, is) = among_map_back (picked_up stop.ride time) rides new there in
          subst (λ (r : Ride). map visit_of (stops_of r.id rest) ≡ visits_due r r.picked) is
          (each ride ride_there (eqb ride.id stop.ride) refl));
      each_stop = subst (λ ids. All (λ (s : Stop). Contains ids s.ride) rest) (sym ids_same)
          (All-tail (λ (s : Stop). Contains (ride_ids rides) s.ride) stop rest plan.each_stop);
    }
  where
    each : (ride : Ride) → Among ride rides → (b : Bool) → eqb ride.id stop.ride ≡ b
        → map visit_of (stops_of (cond b (record ride { picked = Some time }) ride).id rest)
        ≡ visits_due (cond b (record ride { picked = Some time }) ride) (cond b (record ride { picked = Some time }) ride).picked
    each ride there true is =
        after_visit ride ride.picked stop (map visit_of (stops_of ride.id rest)) kind_is (visits_at rides stop rest ride plan there is)
    each ride there false is = visits_past rides stop rest ride plan there is

-- what is aboard after a pickup and so many stops
load-picked : (rides : List Ride) (stop : Stop) (rest : List Stop) (time : ℕ) → stop.kind ≡ Pickup
    → load_after (rides_with_picked stop.ride time rides) rest ≡ load_after rides (stop ∷ rest)
load-picked rides stop rest time kind_is = λ i. record {
  seats = (sum_by-map (λ (r : Ride). cond (is_aboard_after rest r) r.seats 0) (picked_up stop.ride time) rides
      ∙ ap (λ (f : Ride → ℕ). sum_by f rides) (λ j r. seats r (eqb r.id stop.ride) refl j)) i;
  chairs = (sum_by-map (λ (r : Ride). cond (is_aboard_after rest r) r.chairs 0) (picked_up stop.ride time) rides
      ∙ ap (λ (f : Ride → ℕ). sum_by f rides) (λ j r. chairs r (eqb r.id stop.ride) refl j)) i;
}
  where
    aboard : (r : Ride) (b : Bool) → eqb r.id stop.ride ≡ b
        → is_aboard_after rest (cond b (record r { picked = Some time }) r) ≡ is_aboard_after (stop ∷ rest) r
    aboard r true is =
        ap (λ c. is_aboard_from c r.id rest)
        (sym (ap (λ c. cond c (is_pickup stop.kind) (is_some r.picked)) (eqb-comm stop.ride r.id ∙ is) ∙ ap is_pickup kind_is))
    aboard r false is =
        ap (λ c. is_aboard_from c r.id rest) (sym
        (ap (λ c. cond c (is_pickup stop.kind) (is_some r.picked)) (eqb-comm stop.ride r.id ∙ is)))

    same_seats : (r : Ride) (b : Bool) → (cond b (record r { picked = Some time }) r).seats ≡ r.seats
    same_seats r true = refl
    same_seats r false = refl

    same_chairs : (r : Ride) (b : Bool) → (cond b (record r { picked = Some time }) r).chairs ≡ r.chairs
    same_chairs r true = refl
    same_chairs r false = refl

    seats : (r : Ride) (b : Bool) → eqb r.id stop.ride ≡ b
        → cond (is_aboard_after rest (picked_up stop.ride time r)) (picked_up stop.ride time r).seats 0 ≡ cond
        (is_aboard_after (stop ∷ rest) r) r.seats 0
    seats r b is =
        ap (λ c. cond c (picked_up stop.ride time r).seats 0) (aboard r (eqb r.id stop.ride) refl)
        ∙ ap (λ n. cond (is_aboard_after (stop ∷ rest) r) n 0) (same_seats r (eqb r.id stop.ride))

    chairs : (r : Ride) (b : Bool) → eqb r.id stop.ride ≡ b
        → cond (is_aboard_after rest (picked_up stop.ride time r)) (picked_up stop.ride time r).chairs 0 ≡ cond
        (is_aboard_after (stop ∷ rest) r) r.chairs 0
    chairs r b is =
        ap (λ c. cond c (picked_up stop.ride time r).chairs 0) (aboard r (eqb r.id stop.ride) refl)
        ∙ ap (λ n. cond (is_aboard_after (stop ∷ rest) r) n 0) (same_chairs r (eqb r.id stop.ride))

-- a lawful vehicle is so after a pickup
pub lawful-picked : (roads : RoadMap) (v : Vehicle) (stop : Stop) (rest : List Stop) (dwell : ℕ) → IsLawful roads v
    → v.stops.items ≡ stop ∷ rest
    → v.at ≡ stop.node → v.ready + dwell ≤ 1000003600 → stop.kind ≡ Pickup → IsLawful roads (after_pickup dwell v stop rest)
lawful-picked roads v stop rest dwell lawful stops_are at_stop in_time kind_is =
    let r = lawful.routed in
    record {
      routed = record {
        some_seat = r.some_seat;
        seats_limit = r.seats_limit;
        chairs_limit = r.chairs_limit;
        at_node = r.at_node;
        ready_limit = in_time;
        rides_fit = all_of (IsRide roads) (rides_with_picked stop.ride v.ready v.rides.items) (λ new there.
            let (ride, ride_there, is) = among_map_back (picked_up stop.ride v.ready) v.rides.items new there in
            subst (IsRide roads) is (ride_fits ride (of_all (IsRide roads) v.rides.items ride r.rides_fit ride_there)
            (eqb ride.id stop.ride)));
        picked_before = all_of (λ (ride : Ride). IfSome ride.picked (λ at. at ≤ v.ready + dwell))
            (rides_with_picked stop.ride v.ready v.rides.items) (λ new there.
            let (ride, ride_there, is) = among_map_back (picked_up stop.ride v.ready) v.rides.items new there in
            subst (λ (q : Ride). IfSome q.picked (λ at. at ≤ v.ready + dwell)) is
            (before ride (of_all (λ (q : Ride). IfSome q.picked (λ at. at ≤ v.ready)) v.rides.items ride r.picked_before ride_there)
            (eqb ride.id stop.ride)));
        planned = plan-picked v.rides.items stop rest v.ready (subst (IsPlanFor v.rides.items) stops_are r.planned) kind_is;
        legs = subst (λ x. HasLegs roads x rest) (sym at_stop) (subst (HasLegs roads v.at) stops_are r.legs).1;
      };
      loads = loads_fit-throughout (after_pickup dwell v stop rest) (λ k few.
          subst (λ l. fits_load v l ≡ true) (sym (load-picked v.rides.items stop (take k rest) v.ready kind_is))
          (subst (λ stops. fits_load v (load_after v.rides.items (take (suc k) stops)) ≡ true) stops_are
          (fits_throughout v lawful.loads (suc k) (omega (arith, few, ap length stops_are)))));
    }
  where
    ride_fits : (ride : Ride) → IsRide roads ride → (b : Bool) → IsRide roads (cond b (record ride { picked = Some v.ready }) ride)
    ride_fits ride fits true = record {
      from_node = fits.from_node;
      to_node = fits.to_node;
      nodes_differ = fits.nodes_differ;
      seats_limit = fits.seats_limit;
      chairs_limit = fits.chairs_limit;
      some_load = fits.some_load;
      latest_limit = fits.latest_limit;
      some_seconds = fits.some_seconds;
      longest_limit = fits.longest_limit;
    }
    ride_fits ride fits false = fits

    before : (ride : Ride) → IfSome ride.picked (λ at. at ≤ v.ready) → (b : Bool)
        → IfSome (cond b (record ride { picked = Some v.ready }) ride).picked (λ at. at ≤ v.ready + dwell)
    before ride h true = omega arith
    before ride h false = IfSome_then ride.picked h (λ at low. omega (arith, low))

-- a vehicle after its first stop, which is a drop-off
abbrev pub after_dropoff : ℕ → Vehicle → Stop → List Stop → Vehicle
after_dropoff dwell v stop rest = with_plan (record v { ready = v.ready + dwell }) (rides_without stop.ride v.rides.items) rest

-- a drop-off is the last stop of its ride
pub rest-without : (rides : List Ride) (stop : Stop) (rest : List Stop) → IsPlanFor rides (stop ∷ rest) → stop.kind ≡ Dropoff
    → stops_without stop.ride (stop ∷ rest) ≡ rest
rest-without rides stop rest plan kind_is =
    let there = among_from_contains (ride_ids rides) stop.ride
    (of_all (λ (s : Stop). Contains (ride_ids rides) s.ride) (stop ∷ rest) stop plan.each_stop (inl refl)) in
    let (ride, ride_there, id_is) = among_map_back (λ (r : Ride). r.id) rides stop.ride there in
    let none = after_last ride ride.picked stop (map visit_of (stops_of ride.id rest)) kind_is
    (visits_at rides stop rest ride plan ride_there (eq-eqb ride.id stop.ride id_is)) in
    filter-skipped (λ (s : Stop). not (s.ride == stop.ride)) stop rest (ap not (eq-eqb stop.ride stop.ride refl))
    ∙ all-kept stop.ride rest (differ rest (subst (λ q. stops_of q rest ≡ []) id_is (no_images (stops_of ride.id rest) none)))
  where
    no_images : (stops : List Stop) → map visit_of stops ≡ [] → stops ≡ []
    no_images [] h = refl
    no_images (s ∷ stops) h = absurd (cc h)

    differ : (stops : List Stop) → stops_of stop.ride stops ≡ []
        → AllByRecursion (λ (s : Stop). eqb s.ride stop.ride ≡ false) stops
    differ [] h = tt
    differ (s ∷ stops) h = (first (eqb s.ride stop.ride) refl h, differ stops (later (eqb s.ride stop.ride) h))
      where
        first : (b : Bool) → eqb s.ride stop.ride ≡ b → cond b (s ∷ stops_of stop.ride stops) (stops_of stop.ride stops) ≡ []
            → eqb s.ride stop.ride ≡ false
        first true is none = absurd (cc none)
        first false is none = is

        later : (b : Bool) → cond b (s ∷ stops_of stop.ride stops) (stops_of stop.ride stops) ≡ [] → stops_of stop.ride stops ≡ []
        later true none = absurd (cc none)
        later false none = none

-- a lawful vehicle is so after a drop-off
pub lawful-dropped : (roads : RoadMap) (v : Vehicle) (stop : Stop) (rest : List Stop) (dwell : ℕ) → IsLawful roads v
    → v.stops.items ≡ stop ∷ rest
    → v.at ≡ stop.node → v.ready + dwell ≤ 1000003600 → stop.kind ≡ Dropoff → IsLawful roads (after_dropoff dwell v stop rest)
lawful-dropped roads v stop rest dwell lawful stops_are at_stop in_time kind_is =
    let r = lawful.routed in
    let left : stops_without stop.ride v.stops.items ≡ rest
    = ap (stops_without stop.ride) stops_are ∙ rest-without v.rides.items stop rest (subst (IsPlanFor v.rides.items) stops_are r.planned)
    kind_is in
    record {
      routed = record {
        some_seat = r.some_seat;
        seats_limit = r.seats_limit;
        chairs_limit = r.chairs_limit;
        at_node = r.at_node;
        ready_limit = in_time;
        rides_fit = All-filter (λ (ride : Ride). not (ride.id == stop.ride)) (IsRide roads) v.rides.items r.rides_fit;
        picked_before = All-weaker (λ (ride : Ride). IfSome ride.picked (λ at. at ≤ v.ready))
            (λ (ride : Ride). IfSome ride.picked (λ at. at ≤ v.ready + dwell))
            (λ ride h. IfSome_then ride.picked h (λ at low. omega (arith, low))) (rides_without stop.ride v.rides.items)
            (All-filter (λ (ride : Ride). not (ride.id == stop.ride)) (λ (ride : Ride). IfSome ride.picked (λ at. at ≤ v.ready))
            v.rides.items r.picked_before);
        planned = subst (IsPlanFor (rides_without stop.ride v.rides.items)) left
            (plan-without stop.ride v.rides.items v.stops.items r.planned);
        legs = subst (λ x. HasLegs roads x rest) (sym at_stop) (subst (HasLegs roads v.at) stops_are r.legs).1;
      };
      loads = loads_fit-throughout (after_dropoff dwell v stop rest)
          (fits-without v stop.ride rest (ap unlegged (sym left)) (fits_throughout v lawful.loads));
    }
