-- A change of one vehicle with the request of one of its rides.
use Rattle.model_laws.proofs.Common.{◌≡◌, ℕ, ◌+◌, ◌≤◌, ◌⊎◌, Bool, true, false, cond, inl, inr, length, eqb, refl, sym, ◌∙◌, ap, subst, arith, map, Some, None, option_map, ◌==◌, eqb-true, eq-eqb, same_Some, RequestState, Ride, Vehicle, BatchCopy, find_vehicle, State, AcceptedRequest, with_vehicle, with_request_state, IsLawful, ride_ids, is_closed, IsEarlier, promised_as, vehicle_of_request, IsStart}
use Rattle.model_laws.proofs.plain.Among.{Among, found_among}
use Rattle.model_laws.proofs.RequestStates.{marked, marked-ride}
use Rattle.model_laws.proofs.history_laws.Lookups.{found_by, put, put-id, Placed}
use Rattle.model_laws.proofs.history_laws.Earlier.{earlier-same, earlier-raised}
use Rattle.model_laws.proofs.history_laws.Invariant.{find_request, Inv, Goes}
use Rattle.model_laws.proofs.history_laws.Changes.{stays_in, Change, find_request-map, changed}
use Rattle.model_laws.proofs.history_laws.Marks.{marked-passing, marked-other, vehicle_of-promised, put_cases}

-- a vehicle is changed together with the request of this id, which was with no vehicle or with this one: the rides of other
-- ids stay as they are, and where the vehicle has a ride of this id the request is the one of that ride
pub record Move (s : State) (v new : Vehicle) (id : ℕ) (was : AcceptedRequest) (state : RequestState) : Type 0 where
  pub found : find_vehicle s.vehicles v.id ≡ Some v
  pub accepted : find_request s.requests id ≡ Some was
  pub was_with : (vehicle_of_request was.state ≡ None) ⊎ (vehicle_of_request was.state ≡ Some v.id)
  pub was_open : is_closed was.state ≡ false
  pub id_is : new.id ≡ v.id
  pub version_is : new.version ≡ v.version + 1
  pub lawful : IsLawful s.roads new
  pub few_stops : length new.stops.items ≤ 16
  pub rides_back : (ride : Ride) → Among ride new.rides.items
      → ((eqb ride.id id ≡ false) × Among ride v.rides.items)
      ⊎ ((eqb ride.id id ≡ true) × (record was { state = state } ≡ promised_as v.id ride))
  pub rides_kept : (q : ℕ) → eqb q id ≡ false → Among q (ride_ids v.rides.items) → Among q (ride_ids new.rides.items)
  pub is_with : (k : ℕ) → vehicle_of_request state ≡ Some k → (v.id ≡ k) × Among id (ride_ids new.rides.items)
  pub in_batches : (b : BatchCopy) → Among b s.batches → stays_in b.number was.state ≡ true → stays_in b.number state ≡ true

-- whether a vehicle is the one that was changed
abbrev pub IsPut : Vehicle → Vehicle → Vehicle → Type 0
IsPut v new w = ((w ≡ v) × (put new w ≡ new)) ⊎ ((w.id ≡ v.id → ⊥) × (put new w ≡ w))

-- the request of an id, where the ids differ
pub only_request : (desks fed : ℕ) (ok : ℕ → Type 0) (start s : State) (id : ℕ) (was r : AcceptedRequest)
    → Inv desks fed ok start s
    → find_request s.requests id ≡ Some was → Among r s.requests → eqb r.ride.id id ≡ true → r ≡ was
only_request desks fed ok start s id was r inv accepted there is =
    same_Some r was (sym (found_by (λ (x : AcceptedRequest). x.ride.id) s.requests r inv.requests_differ there)
    ∙ ap (find_request s.requests) (eqb-true r.ride.id id is) ∙ accepted)

-- such a move is a change
pub move-change : (desks fed : ℕ) (ok : ℕ → Type 0) (start s : State) (v new : Vehicle) (id : ℕ) (was : AcceptedRequest)
    (state : RequestState)
    → IsStart start → Inv desks fed ok start s → Move s v new id was state → Change s (put new) (marked (λ q. q == id) state)
move-change desks fed ok start s v new id was state begins inv move = record {
  same_ids = put-id new;
  same_rides = marked-ride (λ q. q == id) state;
  lawful = λ w there. of_lawful w there (cases w there);
  few_stops = λ w there. of_few w there (cases w there);
  goes_on = λ w there. of_earlier w (cases w there);
  promised = λ w there ride ride_there. of_promised w there ride (cases w there) ride_there;
  with_vehicles = λ r there k is. of_request r there k (eqb r.ride.id id) refl is;
  in_batches = λ b b_there r there is. in_batch b b_there r there is (eqb r.ride.id id) refl;
  closed = λ r there is. not_closed r there is (eqb r.ride.id id) refl;
}
  where
    cases : (w : Vehicle) → Among w s.vehicles → IsPut v new w
    cases w there = put_cases desks fed ok start s begins inv v new w move.found move.id_is there

    of_lawful : (w : Vehicle) → Among w s.vehicles → IsPut v new w → IsLawful s.roads (put new w)
    of_lawful w there (inl (is, put_is)) = subst (IsLawful s.roads) (sym put_is) move.lawful
    of_lawful w there (inr (differs, put_is)) = subst (IsLawful s.roads) (sym put_is) (inv.lawful w there)

    of_few : (w : Vehicle) → Among w s.vehicles → IsPut v new w → length (put new w).stops.items ≤ 16
    of_few w there (inl (is, put_is)) = subst (λ (x : Vehicle). length x.stops.items ≤ 16) (sym put_is) move.few_stops
    of_few w there (inr (differs, put_is)) = subst (λ (x : Vehicle). length x.stops.items ≤ 16) (sym put_is) (inv.few_stops w there)

    of_earlier : (w : Vehicle) → IsPut v new w → IsEarlier w (put new w)
    of_earlier w (inl (is, put_is)) =
        subst (λ x. IsEarlier w x) (sym put_is) (subst (λ x. IsEarlier x new) (sym is) (earlier-raised v new move.id_is move.version_is))
    of_earlier w (inr (differs, put_is)) = subst (λ x. IsEarlier w x) (sym put_is) (earlier-same w)

    found_then : (q : ℕ) → find_request (map (marked (λ q. q == id) state) s.requests) q ≡ option_map (marked (λ q. q == id) state)
        (find_request s.requests q)
    found_then q = find_request-map (marked (λ q. q == id) state) (marked-ride (λ q. q == id) state) q s.requests

    of_new : (ride : Ride)
        → ((eqb ride.id id ≡ false) × Among ride v.rides.items)
        ⊎ ((eqb ride.id id ≡ true) × (record was { state = state } ≡ promised_as v.id ride))
        → Among v s.vehicles → find_request (map (marked (λ q. q == id) state) s.requests) ride.id ≡ Some (promised_as v.id ride)
    of_new ride (inl (differs, ride_there)) there =
        found_then ride.id ∙ ap (option_map (marked (λ q. q == id) state)) (inv.promised v there ride ride_there)
        ∙ ap Some (marked-other (λ q. q == id) state (promised_as v.id ride) differs)
    of_new ride (inr (is, request_is)) there =
        let ride_is : ride.id ≡ id = eqb-true ride.id id is in
        let was_id : was.ride.id ≡ id = eqb-true was.ride.id id
        (found_among (λ (r : AcceptedRequest). r.ride.id == id) s.requests was move.accepted).1 in
        found_then ride.id ∙ ap (λ q. option_map (marked (λ q. q == id) state) (find_request s.requests q)) ride_is
        ∙ ap (option_map (marked (λ q. q == id) state)) move.accepted
        ∙ ap Some (marked-passing (λ q. q == id) state was (eq-eqb was.ride.id id was_id) ∙ request_is)

    of_other : (w : Vehicle) → (ride : Ride) → (w.id ≡ v.id → ⊥)
        → find_request s.requests ride.id ≡ Some (promised_as w.id ride)
        → (vehicle_of_request was.state ≡ None) ⊎ (vehicle_of_request was.state ≡ Some v.id) → (b : Bool) → eqb ride.id id ≡ b
        → b ≡ false
    of_other w ride differs found was_with false is = refl
    of_other w ride differs found (inl none) true is =
        let both : Some (promised_as w.id ride) ≡ Some was = sym found ∙ ap (find_request s.requests) (eqb-true ride.id id is)
        ∙ move.accepted in
        let at : promised_as w.id ride ≡ was = cc both in
        absurd (cc (at, none, vehicle_of-promised w.id ride.picked))
    of_other w ride differs found (inr some) true is =
        let both : Some (promised_as w.id ride) ≡ Some was = sym found ∙ ap (find_request s.requests) (eqb-true ride.id id is)
        ∙ move.accepted in
        let at : promised_as w.id ride ≡ was = cc both in
        let equal : Some w.id ≡ Some v.id = sym (vehicle_of-promised w.id ride.picked)
        ∙ ap (λ (r : AcceptedRequest). vehicle_of_request r.state) at ∙ some in
        absurd (differs (cc equal))

    of_promised : (w : Vehicle) → Among w s.vehicles → (ride : Ride) → IsPut v new w → Among ride (put new w).rides.items
        → find_request (map (marked (λ q. q == id) state) s.requests) ride.id ≡ Some (promised_as w.id ride)
    of_promised w there ride (inl (is, put_is)) ride_there =
        of_new ride (move.rides_back ride (subst (λ (x : Vehicle). Among ride x.rides.items) put_is ride_there))
        (subst (λ x. Among x s.vehicles) is there)
        ∙ ap (λ (x : Vehicle). Some (promised_as x.id ride)) (sym is)
    of_promised w there ride (inr (differs, put_is)) ride_there =
        let found = inv.promised w there ride (subst (λ (x : Vehicle). Among ride x.rides.items) put_is ride_there) in
        found_then ride.id ∙ ap (option_map (marked (λ q. q == id) state)) found
        ∙ ap Some (marked-other (λ q. q == id) state (promised_as w.id ride)
        (of_other w ride differs found move.was_with (eqb ride.id id) refl))

    kept_in : (w : Vehicle) → (q : ℕ) → eqb q id ≡ false → IsPut v new w → Among q (ride_ids w.rides.items)
        → Among q (ride_ids (put new w).rides.items)
    kept_in w q differs (inl (is, put_is)) there =
        subst (λ (x : Vehicle). Among q (ride_ids x.rides.items)) (sym put_is)
        (move.rides_kept q differs (subst (λ (x : Vehicle). Among q (ride_ids x.rides.items)) is there))
    kept_in w q differs (inr (other, put_is)) there = subst (λ (x : Vehicle). Among q (ride_ids x.rides.items)) (sym put_is) there

    new_in : IsPut v new v → Among id (ride_ids new.rides.items) → Among id (ride_ids (put new v).rides.items)
    new_in (inl (is, put_is)) there = subst (λ (x : Vehicle). Among id (ride_ids x.rides.items)) (sym put_is) there
    new_in (inr (other, put_is)) there = absurd (other refl)

    of_request : (r : AcceptedRequest) → Among r s.requests → (k : ℕ) → (b : Bool) → eqb r.ride.id id ≡ b
        → vehicle_of_request (cond b (record r { state = state }) r).state ≡ Some k
        → (u : Vehicle) × (find_vehicle s.vehicles k ≡ Some u) × Among r.ride.id (ride_ids (put new u).rides.items)
    of_request r there k true is some =
        let (same, ride_there) = move.is_with k some in
        let v_there = (found_among (λ (x : Vehicle). x.id == v.id) s.vehicles v move.found).0 in (
          v,
          ap (find_vehicle s.vehicles) (sym same) ∙ move.found,
          subst (λ q. Among q (ride_ids (put new v).rides.items)) (sym (eqb-true r.ride.id id is)) (new_in (cases v v_there) ride_there),
        )
    of_request r there k false is some =
        let (u, found, ride_there) = inv.with_vehicles r there k some in
        let u_there = (found_among (λ (x : Vehicle). x.id == k) s.vehicles u found).0 in
        (u, found, kept_in u r.ride.id is (cases u u_there) ride_there)

    in_batch : (b : BatchCopy) → Among b s.batches → (r : AcceptedRequest) → Among r s.requests → stays_in b.number r.state ≡ true
        → (c : Bool) → eqb r.ride.id id ≡ c → stays_in b.number (cond c (record r { state = state }) r).state ≡ true
    in_batch b b_there r there is true passes =
        move.in_batches b b_there (subst (λ (x : AcceptedRequest). stays_in b.number x.state ≡ true)
        (only_request desks fed ok start s id was r inv move.accepted there passes) is)
    in_batch b b_there r there is false fails = is

    not_closed : (r : AcceptedRequest) → Among r s.requests → is_closed r.state ≡ true → (c : Bool) → eqb r.ride.id id ≡ c
        → cond c (record r { state = state }) r ≡ r
    not_closed r there is true passes =
        absurd (cc (
          is,
          move.was_open,
          ap (λ (x : AcceptedRequest). is_closed x.state)
              (only_request desks fed ok start s id was r inv move.accepted there passes),
        ))
    not_closed r there is false fails = refl

-- what is kept holds after a vehicle was changed at its place, together with a request
pub move_goes : (desks fed after_fed : ℕ) (ok : ℕ → Type 0) (start s : State) (place : ℕ) (v new : Vehicle) (id : ℕ)
    (was : AcceptedRequest)
    (state : RequestState) → IsStart start → Inv desks fed ok start s → Placed s.vehicles v.id place v → Move s v new id was state
    → fed ≤ after_fed → new.version + length s.batches ≤ after_fed + s.opened
    → Goes desks after_fed ok start s (with_request_state id state (with_vehicle s place new))
move_goes desks fed after_fed ok start s place v new id was state begins inv placed move more fits =
    subst (λ vehicles. Goes desks after_fed ok start s
    (record s { vehicles = vehicles; requests = map (marked (λ q. q == id) state) s.requests }))
    (sym (placed.set_is new move.id_is))
    (changed desks fed after_fed ok start s (put new) (marked (λ q. q == id) state) inv
    (move-change desks fed ok start s v new id was state begins inv move)
    (λ w there. by_case w there (put_cases desks fed ok start s begins inv v new w move.found move.id_is there)))
  where
    by_case : (w : Vehicle) → Among w s.vehicles → IsPut v new w → (put new w).version + length s.batches ≤ after_fed + s.opened
    by_case w there (inl (is, put_is)) = omega (arith, fits, ap (λ (x : Vehicle). x.version) put_is)
    by_case w there (inr (differs, put_is)) = omega (arith, inv.versions_fit w there, more, ap (λ (x : Vehicle). x.version) put_is)
