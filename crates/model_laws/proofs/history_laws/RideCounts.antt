-- A vehicle has at most as many rides as stops.
use Rattle.model_laws.proofs.Common.{◌≡◌, ℕ, ◌≤◌, false, not, inl, inr, List, [], ◌∷◌, length, eqb, refl, sym, ◌∙◌, ap, arith, map, Option, Some, None, ◌==◌, All, IsDistinct, length-filter_both, IsDistinct-head, IsDistinct-tail, Entry, Ride, Stop, Vehicle, IsLegal, replay, State, IsPlanFor, visits_due, visit_of, stops_of, ride_ids, stops_without, IsStart}
use Rattle.model_laws.proofs.plain.Among.{Among, among_map}
use Rattle.model_laws.proofs.plain.Numbers.{eqb-comm}
use Rattle.model_laws.proofs.plain.Each.{of_each, of_all, all_of}
use Rattle.model_laws.proofs.PlanStops.{stops-without}
use Rattle.model_laws.proofs.FewRides.{few-rides}
use Rattle.model_laws.proofs.history_laws.EveryState.{legal_goes}

-- rides of different ids with a stop each are no more than the stops
counted : (rides : List Ride) (stops : List Stop) → IsDistinct eqb (ride_ids rides)
    → ((ride : Ride) → Among ride rides → stops_of ride.id stops ≡ [] → ⊥)
    → length rides ≤ length stops
counted [] stops distinct some = omega arith
counted (ride ∷ rides) stops distinct some =
    let left = counted rides (stops_without ride.id stops) (IsDistinct-tail eqb ride.id (ride_ids rides) distinct) (λ other there none.
    some other (inr there) (sym (stops-without ride.id other.id stops (differs other there)) ∙ none)) in
    let both = length-filter_both (λ (s : Stop). s.ride == ride.id) (λ (s : Stop). not (s.ride == ride.id)) (λ s. refl) stops in
    omega (arith, left, both, at_least_one (stops_of ride.id stops) (some ride (inl refl)))
  where
    differs : (other : Ride) → Among other rides → eqb other.id ride.id ≡ false
    differs other there =
        eqb-comm other.id ride.id
        ∙ of_each (λ k. eqb ride.id k ≡ false) (ride_ids rides) other.id (IsDistinct-head eqb ride.id (ride_ids rides) distinct)
        (among_map (λ (r : Ride). r.id) rides other there)

    at_least_one : (xs : List Stop) → (xs ≡ [] → ⊥) → 1 ≤ length xs
    at_least_one [] h = absurd (h refl)
    at_least_one (x ∷ xs) h = omega arith

-- a vehicle of a legal history has at most 16 stops
pub plans_short : (feeds desks : ℕ) (start : State) (entries : List Entry) → IsStart start → IsLegal feeds desks start entries
    → All (λ (v : Vehicle). length v.stops.items ≤ 16) (replay start entries).vehicles
plans_short feeds desks start entries begins legal =
    all_of (λ (v : Vehicle). length v.stops.items ≤ 16) (replay start entries).vehicles
    (legal_goes feeds desks start entries begins legal).inv.few_stops

-- and no more rides than stops
pub rides_short : (feeds desks : ℕ) (start : State) (entries : List Entry) → IsStart start → IsLegal feeds desks start entries
    → All (λ (v : Vehicle). length v.rides.items ≤ length v.stops.items) (replay start entries).vehicles
rides_short feeds desks start entries begins legal =
    all_of (λ (v : Vehicle). length v.rides.items ≤ length v.stops.items) (replay start entries).vehicles
    (λ v there. few-rides v.rides.items v.stops.items
    ((legal_goes feeds desks start entries begins legal).inv.lawful v there).routed.planned)
