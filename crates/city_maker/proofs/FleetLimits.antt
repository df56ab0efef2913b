-- The fleet of a plan within its ranges is within the limits of a fleet, and each vehicle is as a fleet starts.
use Rattle.city_maker.proofs.Common.{◌≡◌, ◌≢◌, ℕ, zero, suc, ◌+◌, ◌*◌, ◌<◌, ◌≤◌, ◌^◌, nat_eq, [], length, ◌∷◌, get_or, map, refl, sym, ap, ◌∙◌, subst, arith, All, range_with_len, ne_eqb, All-nil, length-map-range_with_len, get_or-map-range_with_len, IsDistinct-from_apart, mul-le, Vehicle, IsFleet, IsLawful, CityPlan, draw_at, nodes_of, IsPlan, network_of, fleet_of, road_draws, vehicle_of}
use Rattle.std.specs.List.{IsDistinct}
use Rattle.city_maker.proofs.AllOfPieces.{All-map_range}
use Rattle.city_maker.proofs.DrawLemmas.{draw_at-below}

abbrev id_of : Vehicle → ℕ
id_of v = v.id

vehicle-id : (plan : CityPlan) (before : ℕ) → (vehicle_of plan before).id ≡ before + 1
unfolding vehicle_of
vehicle-id plan before = refl

-- the ids are 1, 2 and so on
ids-are : (plan : CityPlan) (a n : ℕ) → map id_of (map (vehicle_of plan) (range_with_len a n)) ≡ map (λ k. k + 1) (range_with_len a n)
ids-are plan a zero = refl
ids-are plan a (suc n) =
    ap (λ id. id ∷ map id_of (map (vehicle_of plan) (range_with_len (a + 1) n))) (vehicle-id plan a)
    ∙ ap (λ ids. (a + 1) ∷ ids) (ids-are plan (a + 1) n)

numbers-distinct : (n : ℕ) → IsDistinct nat_eq (map (λ k. k + 1) (range_with_len 0 n))
numbers-distinct n = IsDistinct-from_apart nat_eq (map (λ k. k + 1) (range_with_len 0 n)) (λ i j d earlier below.
    let j_in : j < n = omega (arith, length-map-range_with_len (λ k. k + 1) 0 n) in
    let i_in : i < n = omega arith in
    let at_i : get_or (map (λ k. k + 1) (range_with_len 0 n)) i d ≡ i + 1 = get_or-map-range_with_len (λ k. k + 1) 0 n i i d i_in (omega arith) in
    let at_j : get_or (map (λ k. k + 1) (range_with_len 0 n)) j d ≡ j + 1 = get_or-map-range_with_len (λ k. k + 1) 0 n j j d j_in (omega arith) in
    let differ : i + 1 ≢ j + 1 = omega arith in
    ap (λ x. nat_eq x (get_or (map (λ k. k + 1) (range_with_len 0 n)) j d)) at_i ∙ ap (λ y. nat_eq (i + 1) y) at_j ∙ ne_eqb (i + 1) (j + 1) differ)

pub fleet-fits : (plan : CityPlan) → IsPlan plan → IsFleet (fleet_of plan)
fleet-fits plan is = record {
  few = omega (arith, length-map-range_with_len (vehicle_of plan) 0 plan.vehicles, is.vehicles_limit);
  ids_differ = subst (IsDistinct nat_eq) (sym (ids-are plan 0 plan.vehicles)) (numbers-distinct plan.vehicles);
  ids_fit = All-map_range (λ (v : Vehicle). v.id < 10 ^ 18) (vehicle_of plan) 0 plan.vehicles (λ k _ below.
      let small : k + 1 < 10 ^ 18 = omega (arith, is.vehicles_limit) in subst (λ id. id < 10 ^ 18) (sym (vehicle-id plan k)) small);
}

vehicle-lawful : (plan : CityPlan) (before : ℕ) → IsPlan plan → IsLawful (network_of plan) (vehicle_of plan before)
unfolding vehicle_of IsDistinct
vehicle-lawful plan before is =
    let some : 2 * 2 ≤ plan.side * plan.side = mul-le 2 2 plan.side plan.side is.least_side is.least_side in
    let on_map : draw_at plan.seed (road_draws plan + before) (nodes_of plan) < nodes_of plan = draw_at-below plan.seed (road_draws plan + before) (nodes_of plan) (omega arith) in
    record {
      routed = record {
        some_seat = omega arith;
        seats_limit = omega arith;
        chairs_limit = omega arith;
        at_node = (omega arith, omega arith);
        ready_limit = omega arith;
        rides_fit = All-nil _;
        picked_before = All-nil _;
        planned = record { ids_differ = tt; each_ride = All-nil _; each_stop = All-nil _ };
        legs = tt;
      };
      loads = refl;
    }

pub fleet-lawful : (plan : CityPlan) → IsPlan plan → All (IsLawful (network_of plan)) (fleet_of plan)
fleet-lawful plan is = All-map_range (IsLawful (network_of plan)) (vehicle_of plan) 0 plan.vehicles (λ k _ _. vehicle-lawful plan k is)

pub fleet-idle : (plan : CityPlan) → All (λ (v : Vehicle). v.stops.items ≡ []) (fleet_of plan)
unfolding vehicle_of
fleet-idle plan = All-map_range (λ (v : Vehicle). v.stops.items ≡ []) (vehicle_of plan) 0 plan.vehicles (λ k _ _. refl)

pub fleet-first_versions : (plan : CityPlan) → All (λ (v : Vehicle). v.version ≡ 0) (fleet_of plan)
unfolding vehicle_of
fleet-first_versions plan = All-map_range (λ (v : Vehicle). v.version ≡ 0) (vehicle_of plan) 0 plan.vehicles (λ k _ _. refl)

pub length-fleet_of : (plan : CityPlan) → length (fleet_of plan) ≡ plan.vehicles
length-fleet_of plan = length-map-range_with_len (vehicle_of plan) 0 plan.vehicles
