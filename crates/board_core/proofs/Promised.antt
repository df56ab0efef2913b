-- Requests that a vehicle has promised.
use Rattle.board_core.proofs.Common.{◌≡◌, ℕ, eqb, refl, sym, ◌∙◌, ap, subst, Option, Some, None, option_map, All, Contains, IfSome, IsSomeAnd, eqb-true, same_Some, Ride, Vehicle, IsFleet, find_vehicle, State, AcceptedRequest, accepted_request, request_state, placed_vehicle, ride_ids, among_from_contains, contains_from_among, among_map_back, found_among, of_all, HasPromised, IsWithVehicle, promised_as, promised_state, vehicle_of_request, placed_is, HasWaiting}
use Rattle.ride_model.specs.declared.reply.RequestState.TheVariants.{Confirmed}

-- a ride whose request is confirmed waits
waits-by_state : (vehicle other : ℕ) (picked : Option ℕ) → promised_state other picked ≡ Confirmed vehicle → picked ≡ None
waits-by_state vehicle other None is = refl
waits-by_state vehicle other (Some at) is = absurd (cc is)

-- the request that a vehicle has promised is a ride of it that waits
pub confirmed-waits : (s : State) (id vehicle place : ℕ) (v : Vehicle) → IsFleet s.vehicles → All (HasPromised s) s.vehicles
    → All (IsWithVehicle s) s.requests → request_state s id ≡ Some (Confirmed vehicle) → placed_vehicle s vehicle ≡ Some (place, v)
    → HasWaiting v id
confirmed-waits s id vehicle place v fleet promised with_vehicles confirmed placed =
    elim (accepted_request s id)
    as (λ o. accepted_request s id ≡ o → option_map (λ (r : AcceptedRequest). r.state) o ≡ Some (Confirmed vehicle) → HasWaiting v id) [
      | None ↦ λ _ none. absurd (cc none)
      | Some r ↦ λ accepted state. waiting r accepted (same_Some r.state (Confirmed vehicle) state)
    ] refl confirmed
  where
    found : find_vehicle s.vehicles vehicle ≡ Some v
    found = (placed_is s.vehicles vehicle place v fleet.ids_differ placed).found

    waiting : (r : AcceptedRequest) → accepted_request s id ≡ Some r → r.state ≡ Confirmed vehicle → HasWaiting v id
    waiting r accepted state =
        let (r_there, r_is) = found_among (λ (q : AcceptedRequest). eqb q.ride.id id) s.requests r accepted in
        let (v_there, v_is) = found_among (λ (w : Vehicle). eqb w.id vehicle) s.vehicles v found in
        let has : IsSomeAnd (find_vehicle s.vehicles vehicle) (λ (w : Vehicle). Contains (ride_ids w.rides.items) r.ride.id)
        = subst (λ st. IfSome (vehicle_of_request st) (λ k. IsSomeAnd (find_vehicle s.vehicles k)
        (λ (w : Vehicle). Contains (ride_ids w.rides.items) r.ride.id))) state (of_all (IsWithVehicle s) s.requests r with_vehicles r_there) in
        let contains : Contains (ride_ids v.rides.items) r.ride.id
        = subst (λ o. IsSomeAnd o (λ (w : Vehicle). Contains (ride_ids w.rides.items) r.ride.id)) found has in
        let (ride, ride_there, ride_is) = among_map_back (λ (q : Ride). q.id) v.rides.items r.ride.id
        (among_from_contains (ride_ids v.rides.items) r.ride.id contains) in
        let ride_id : ride.id ≡ id = ride_is ∙ eqb-true r.ride.id id r_is in
        let known = of_all (λ (q : Ride). accepted_request s q.id ≡ Some (promised_as v.id q)) v.rides.items ride
        (of_all (HasPromised s) s.vehicles v promised v_there) ride_there in
        let same : r ≡ promised_as v.id ride
        = same_Some r (promised_as v.id ride) (sym accepted ∙ ap (accepted_request s) (sym ride_id) ∙ known) in
        record {
          ride = ride;
          there = contains_from_among v.rides.items ride ride_there;
          id_is = ride_id;
          waits = waits-by_state vehicle v.id ride.picked (sym (ap (λ (q : AcceptedRequest). q.state) same) ∙ state);
        }
