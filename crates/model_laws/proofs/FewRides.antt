-- A plan has at least as many stops as rides.
use Rattle.model_laws.proofs.Common.{◌≡◌, ℕ, suc, ◌+◌, ◌≤◌, Bool, true, false, not, cond, List, [], ◌∷◌, length, eqb, refl, sym, ◌∙◌, ap, subst, arith, map, Option, Some, None, ◌==◌, AllByRecursion, eqb-true, eq-eqb, length-map, recursion_from_All, IsDistinct-head, Ride, Stop, visits_due, visit_of, stops_of, ride_ids, IsPlanFor, stops_without, rides_without}
use Rattle.model_laws.proofs.PlanStops.{plan-without}
use Rattle.model_laws.proofs.AboardLoads.{filter-skipped, filter-kept}

-- the stops of a ride and the others are all
parts : (id : ℕ) (stops : List Stop) → length (stops_of id stops) + length (stops_without id stops) ≡ length stops
parts id [] = omega arith
parts id (s ∷ stops) =
    elim (eqb s.ride id) as (λ b. length (cond b (s ∷ stops_of id stops) (stops_of id stops))
    + length (cond (not b) (s ∷ stops_without id stops) (stops_without id stops)) ≡ suc (length stops)) [
      | true ↦ omega (arith, parts id stops)
      | false ↦ omega (arith, parts id stops)
    ]

-- some visit is due
some-due : (ride : Ride) (picked : Option ℕ) → 1 ≤ length (visits_due ride picked)
some-due ride None = omega arith
some-due ride (Some at) = omega arith

-- the other rides are left
others-left : (id : ℕ) (rides : List Ride) → AllByRecursion (λ q. eqb id q ≡ false) (ride_ids rides) → rides_without id rides ≡ rides
others-left id [] h = refl
others-left id (r ∷ rides) (other, rest) =
    filter-kept (λ (ride : Ride). not (ride.id == id)) r rides (ap not (turned (eqb r.id id) refl)) ∙ ap (λ more. r ∷ more) (others-left id rides rest)
  where
    turned : (b : Bool) → eqb r.id id ≡ b → eqb r.id id ≡ false
    turned false is = is
    turned true is = absurd (cc (other, eq-eqb id r.id (sym (eqb-true r.id id is))))

pub few-rides : (rides : List Ride) (stops : List Stop) → IsPlanFor rides stops → length rides ≤ length stops
few-rides [] stops plan = omega arith
few-rides (r ∷ rides) stops plan =
    let left : rides_without r.id (r ∷ rides) ≡ rides
    = filter-skipped (λ (ride : Ride). not (ride.id == r.id)) r rides (ap not (eq-eqb r.id r.id refl))
    ∙ others-left r.id rides (IsDistinct-head eqb r.id (ride_ids rides) plan.ids_differ) in
    let rest = few-rides rides (stops_without r.id stops)
    (subst (λ rs. IsPlanFor rs (stops_without r.id stops)) left (plan-without r.id (r ∷ rides) stops plan)) in
    let due : map visit_of (stops_of r.id stops) ≡ visits_due r r.picked = (recursion_from_All (λ (x : Ride). map visit_of (stops_of x.id stops) ≡ visits_due x x.picked) (r ∷ rides) plan.each_ride).0 in
    omega (arith, rest, parts r.id stops, ap length due, some-due r r.picked, length-map (stops_of r.id stops) visit_of)
