-- What the trials ask is allowed: a vehicle that passes the test is lawful.
use Rattle.std.proofs.Common.{◌≡◌, ◌≢◌, ℕ, zero, suc, ◌+◌, ◌≤◌, Bool, true, false, not, ◌&&◌, List, [], ◌∷◌, eqb, leb, leb-true, refl, sym, ◌∙◌, ap, arith}
use Rattle.std.specs.Prelude.{map, All, Contains, Option, Some, None, IfSome}
use Rattle.std.specs.List.{list_all, AllByRecursion, IsDistinct}
use Rattle.std.proofs.lemmas.Bool.{eqb-true, eq-eqb, not-true, and_parts}
use Rattle.std.proofs.lemmas.List.Elements.{All-from_recursion}
use Rattle.ride_model.specs.declared.vehicle.Kind.{Kind}
use Rattle.ride_model.specs.declared.vehicle.Kind.TheVariants.{Pickup, Dropoff}
use Rattle.ride_model.specs.declared.vehicle.Ride.{Ride}
use Rattle.ride_model.specs.declared.vehicle.Stop.{Stop}
use Rattle.ride_model.specs.declared.vehicle.Vehicle.{Vehicle}
use Rattle.ride_model.specs.Road.{IsNode, travel, travel_within}
use Rattle.ride_model.specs.Vehicle.{IsRide, IsRouted, IsLawful, HasLegs, visits_due, visit_of, stops_of, ride_ids}
use Rattle.ride_model.specs.inner.Vehicle.{IsLawfulSomewhere, IsRoutedSomewhere}
use Rattle.ride_model.specs.Loads.{loads_fit}
use Rattle.stop_plans.specs.inner.First.{is_kind}
use Rattle.plan_trials.specs.SmallPlans.{four_nodes}
use Rattle.plan_trials.proofs.SmallPlans.{map_fits}
use Rattle.plan_trials.specs.LineRoad.{seconds_between, is_node, is_ride, picked_by, is_new, all_new, same_visits, has_legs, is_routed, is_lawful}

-- what holds of each of four nodes
each_node : (P : ℕ → Type 0) → P 1 → P 2 → P 3 → P 4 → (x : ℕ) → 1 ≤ x → x ≤ 4 → P x
each_node P a b c d zero low high = absurd (omega arith)
each_node P a b c d (suc zero) low high = a
each_node P a b c d (suc (suc zero)) low high = b
each_node P a b c d (suc (suc (suc zero))) low high = c
each_node P a b c d (suc (suc (suc (suc zero)))) low high = d
each_node P a b c d (suc (suc (suc (suc (suc n))))) low high = absurd (omega arith)

-- travel times along the line
pub travel-in-line : (x y : ℕ) → IsNode four_nodes x → IsNode four_nodes y → travel four_nodes x y ≡ Some (seconds_between x y)
unfolding travel travel_within
travel-in-line x y (first, last) (low, high) =
    each_node (λ a. travel four_nodes a y ≡ Some (seconds_between a y))
    (each_node (λ b. travel four_nodes 1 b ≡ Some (seconds_between 1 b)) refl refl refl refl y low high)
    (each_node (λ b. travel four_nodes 2 b ≡ Some (seconds_between 2 b)) refl refl refl refl y low high)
    (each_node (λ b. travel four_nodes 3 b ≡ Some (seconds_between 3 b)) refl refl refl refl y low high)
    (each_node (λ b. travel four_nodes 4 b ≡ Some (seconds_between 4 b)) refl refl refl refl y low high)
    x first last

pub a_node : (x : ℕ) → is_node x ≡ true → IsNode four_nodes x
a_node x h = let (low, high) = and_parts (leb 1 x) (leb x 4) h in (leb-true 1 x low, leb-true x 4 high)

differ : (a b : ℕ) → not (eqb a b) ≡ true → a ≢ b
differ a b h same = absurd (cc (h, ap not (eq-eqb a b same)))

pub a_ride : (ride : Ride) → is_ride ride ≡ true → IsRide four_nodes ride
a_ride ride h =
    let (h8, longest) = and_parts _ (leb ride.longest 1000000) h in
    let (h7, some) = and_parts _ (leb 1 ride.longest) h8 in
    let (h6, latest) = and_parts _ (leb ride.latest 1000000000) h7 in
    let (h5, load) = and_parts _ (leb 1 (ride.seats + ride.chairs)) h6 in
    let (h4, chairs) = and_parts _ (leb ride.chairs 4) h5 in
    let (h3, seats) = and_parts _ (leb ride.seats 8) h4 in
    let (h2, others) = and_parts _ (not (eqb ride.from ride.to)) h3 in
    let (from, to) = and_parts (is_node ride.from) (is_node ride.to) h2 in
    record {
      from_node = a_node ride.from from;
      to_node = a_node ride.to to;
      nodes_differ = differ ride.from ride.to others;
      seats_limit = leb-true ride.seats 8 seats;
      chairs_limit = leb-true ride.chairs 4 chairs;
      some_load = leb-true 1 (ride.seats + ride.chairs) load;
      latest_limit = leb-true ride.latest 1000000000 latest;
      some_seconds = leb-true 1 ride.longest some;
      longest_limit = leb-true ride.longest 1000000 longest;
    }

-- what a test says of each
each : {X : Type 0} (test : X → Bool) (P : X → Type 0) (xs : List X) → ((x : X) → test x ≡ true → P x) → list_all test xs ≡ true → All P xs
each test P xs says all = All-from_recursion P xs (by_recursion xs all)
  where
    by_recursion : (ys : List _) → list_all test ys ≡ true → AllByRecursion P ys
    by_recursion [] h = tt
    by_recursion (y ∷ ys) h = let (first, rest) = and_parts (test y) (list_all test ys) h in (says y first, by_recursion ys rest)

pub fresh : (ids : List ℕ) (id : ℕ) → is_new id ids ≡ true → Contains ids id → ⊥
fresh [] id h (k, within, is) = absurd (omega (arith, within))
fresh (other ∷ ids) id h (zero, within, is) = differ id other (and_parts (not (eqb id other)) (is_new id ids) h).0 (sym is)
fresh (other ∷ ids) id h (suc k, within, is) = fresh ids id (and_parts (not (eqb id other)) (is_new id ids) h).1 (k, omega (arith, within), is)

distinct : (ids : List ℕ) → all_new ids ≡ true → IsDistinct eqb ids
unfolding IsDistinct
distinct [] h = tt
distinct (id ∷ ids) h =
    let (first, rest) = and_parts (is_new id ids) (all_new ids) h in
    (others ids first, distinct ids rest)
  where
    others : (rest : List ℕ) → is_new id rest ≡ true → AllByRecursion (λ other. eqb id other ≡ false) rest
    others [] h = tt
    others (other ∷ rest) h =
        let (first, behind) = and_parts (not (eqb id other)) (is_new id rest) h in
        (not-true (eqb id other) first, others rest behind)

contained : (ids : List ℕ) (id : ℕ) → not (is_new id ids) ≡ true → Contains ids id
contained [] id h = absurd (cc h)
contained (other ∷ ids) id h =
    elim (eqb id other) as (λ b. eqb id other ≡ b → not (not b && is_new id ids) ≡ true → Contains (other ∷ ids) id) [
      | true ↦ λ same _. (0, omega arith, sym (eqb-true id other same))
      | false ↦ λ _ behind. let (k, within, is) = contained ids id behind in (suc k, omega (arith, within), is)
    ] refl h

same_kind : (a b : Kind) → is_kind a b ≡ true → a ≡ b
same_kind Pickup Pickup h = refl
same_kind Dropoff Dropoff h = refl
same_kind Pickup Dropoff h = absurd (cc h)
same_kind Dropoff Pickup h = absurd (cc h)

visits : (xs ys : List (Kind × ℕ)) → same_visits xs ys ≡ true → xs ≡ ys
visits [] [] h = refl
visits [] (y ∷ ys) h = absurd (cc h)
visits (x ∷ xs) [] h = absurd (cc h)
visits (x ∷ xs) (y ∷ ys) h =
    let (both, rest) = and_parts (is_kind x.0 y.0 && eqb x.1 y.1) (same_visits xs ys) h in
    let (kind, node) = and_parts (is_kind x.0 y.0) (eqb x.1 y.1) both in
    ap (λ k. (k, x.1) ∷ xs) (same_kind x.0 y.0 kind)
    ∙ ap (λ n. (y.0, n) ∷ xs) (eqb-true x.1 y.1 node)
    ∙ ap (λ more. y ∷ more) (visits xs ys rest)

-- the legs, and that the stops are at nodes
legs : (at : ℕ) (stops : List Stop) → IsNode four_nodes at → has_legs at stops ≡ true → HasLegs four_nodes at stops
legs at [] here h = tt
legs at (s ∷ stops) here h =
    let (both, rest) = and_parts (is_node s.node && eqb s.leg (seconds_between at s.node)) (has_legs s.node stops) h in
    let (node, leg) = and_parts (is_node s.node) (eqb s.leg (seconds_between at s.node)) both in (
      travel-in-line at s.node here (a_node s.node node) ∙ ap Some (sym (eqb-true s.leg (seconds_between at s.node) leg)),
      legs s.node stops (a_node s.node node) rest,
    )

pub routed : (v : Vehicle) → is_routed v ≡ true → IsRouted four_nodes v
routed v h =
    let (h10, has) = and_parts _ (has_legs v.at v.stops.items) h in
    let (h9, each_stop) = and_parts _ (list_all (λ (stop : Stop). not (is_new stop.ride (ride_ids v.rides.items))) v.stops.items) h10 in
    let (h8, each_ride) = and_parts _ (list_all (λ (ride : Ride). same_visits (map visit_of (stops_of ride.id v.stops.items)) (visits_due ride ride.picked)) v.rides.items) h9 in
    let (h7, ids) = and_parts _ (all_new (ride_ids v.rides.items)) h8 in
    let (h6, picked) = and_parts _ (list_all (λ (ride : Ride). picked_by v.ready ride.picked) v.rides.items) h7 in
    let (h5, rides) = and_parts _ (list_all is_ride v.rides.items) h6 in
    let (h4, ready) = and_parts _ (leb v.ready 1000003600) h5 in
    let (h3, at) = and_parts _ (is_node v.at) h4 in
    let (h2, chairs) = and_parts _ (leb v.chairs 4) h3 in
    let (some, seats) = and_parts (leb 1 v.seats) (leb v.seats 16) h2 in
    record {
      some_seat = leb-true 1 v.seats some;
      seats_limit = leb-true v.seats 16 seats;
      chairs_limit = leb-true v.chairs 4 chairs;
      at_node = a_node v.at at;
      ready_limit = leb-true v.ready 1000003600 ready;
      rides_fit = each is_ride (IsRide four_nodes) v.rides.items a_ride rides;
      picked_before = each (λ (ride : Ride). picked_by v.ready ride.picked) (λ (ride : Ride). IfSome ride.picked (λ at_time. at_time ≤ v.ready)) v.rides.items
          (λ ride. before ride.picked) picked;
      planned = record {
        ids_differ = distinct (ride_ids v.rides.items) ids;
        each_ride = each (λ (ride : Ride). same_visits (map visit_of (stops_of ride.id v.stops.items)) (visits_due ride ride.picked))
            (λ (ride : Ride). map visit_of (stops_of ride.id v.stops.items) ≡ visits_due ride ride.picked) v.rides.items (λ ride. visits _ _) each_ride;
        each_stop = each (λ (stop : Stop). not (is_new stop.ride (ride_ids v.rides.items))) (λ (stop : Stop). Contains (ride_ids v.rides.items) stop.ride) v.stops.items
            (λ stop. contained (ride_ids v.rides.items) stop.ride) each_stop;
      };
      legs = legs v.at v.stops.items (a_node v.at at) has;
    }
  where
    before : (picked : Option ℕ) → picked_by v.ready picked ≡ true → IfSome picked (λ at_time. at_time ≤ v.ready)
    before None h = tt
    before (Some at_time) h = leb-true at_time v.ready h

pub lawful : (v : Vehicle) → is_lawful v ≡ true → IsLawful four_nodes v
lawful v h =
    let (in_order, loads) = and_parts (is_routed v) (loads_fit v) h in
    record { routed = routed v in_order; loads = loads }

-- the legs of one that is in order
pub legs-tested : (v : Vehicle) → is_lawful v ≡ true → has_legs v.at v.stops.items ≡ true
legs-tested v h = (and_parts _ (has_legs v.at v.stops.items) (and_parts (is_routed v) (loads_fit v) h).0).1

pub lawful_somewhere : (v : Vehicle) → is_lawful v ≡ true → IsLawfulSomewhere v
lawful_somewhere v h = (four_nodes, map_fits, lawful v h)

pub routed_somewhere : (v : Vehicle) → is_routed v ≡ true → IsRoutedSomewhere v
routed_somewhere v h = (four_nodes, map_fits, routed v h)
