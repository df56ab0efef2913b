-- Changes of requests' states alone, and of one vehicle alone.
use Rattle.model_laws.proofs.Common.{◌≡◌, ℕ, ◌+◌, ◌≤◌, ◌⊎◌, Bool, true, false, cond, inl, inr, length, eqb, refl, sym, ◌∙◌, ap, subst, arith, map, Option, Some, None, option_map, ◌==◌, eqb-true, eqb-false, same_Some, RequestState, Ride, Vehicle, BatchCopy, find_vehicle, State, AcceptedRequest, with_vehicle, IsLawful, ride_ids, is_closed, IsEarlier, promised_state, promised_as, vehicle_of_request, IsStart}
use Rattle.model_laws.proofs.plain.Among.{Among, found_among}
use Rattle.model_laws.proofs.RequestStates.{marked, marked-ride}
use Rattle.model_laws.proofs.history_laws.Lookups.{map-same, found_by, put, put-id, Placed}
use Rattle.model_laws.proofs.history_laws.Earlier.{earlier-same, earlier-raised}
use Rattle.model_laws.proofs.history_laws.Invariant.{find_request, Inv, Goes, fleet_of}
use Rattle.model_laws.proofs.history_laws.Changes.{stays_in, Change, find_request-map, changed}

-- a request that passes is marked
pub marked-passing : (test : ℕ → Bool) (state : RequestState) (r : AcceptedRequest) → test r.ride.id ≡ true
    → marked test state r ≡ record r { state = state }
marked-passing test state r passes = ap (λ b. cond b (record r { state = state }) r) passes

-- a request that fails is not
pub marked-other : (test : ℕ → Bool) (state : RequestState) (r : AcceptedRequest) → test r.ride.id ≡ false
    → marked test state r ≡ r
marked-other test state r fails = ap (λ b. cond b (record r { state = state }) r) fails

-- a promised request is with its vehicle
pub vehicle_of-promised : (vehicle : ℕ) (picked : Option ℕ) → vehicle_of_request (promised_state vehicle picked) ≡ Some vehicle
vehicle_of-promised vehicle None = refl
vehicle_of-promised vehicle (Some at) = refl

-- requests that are with no vehicle and not closed get a state in which they are with none
pub record Marks (s : State) (test : ℕ → Bool) (state : RequestState) : Type 0 where
  pub with_none : vehicle_of_request state ≡ None
  pub were_with_none : (r : AcceptedRequest) → Among r s.requests → test r.ride.id ≡ true → vehicle_of_request r.state ≡ None
  pub were_open : (r : AcceptedRequest) → Among r s.requests → test r.ride.id ≡ true → is_closed r.state ≡ false
  pub in_batches : (b : BatchCopy) → Among b s.batches → (r : AcceptedRequest) → Among r s.requests → test r.ride.id ≡ true
      → stays_in b.number r.state ≡ true → stays_in b.number state ≡ true

-- marking such requests is a change
marks-change : (desks fed : ℕ) (ok : ℕ → Type 0) (start s : State) (test : ℕ → Bool) (state : RequestState)
    → Inv desks fed ok start s
    → Marks s test state → Change s (λ v. v) (marked test state)
marks-change desks fed ok start s test state inv marks = record {
  same_ids = λ v. refl;
  same_rides = marked-ride test state;
  lawful = inv.lawful;
  few_stops = inv.few_stops;
  goes_on = λ v there. earlier-same v;
  promised = λ v there ride ride_there.
      let found : find_request s.requests ride.id ≡ Some (promised_as v.id ride) = inv.promised v there ride ride_there in
      find_request-map (marked test state) (marked-ride test state) ride.id s.requests ∙ ap (option_map (marked test state)) found
      ∙ ap Some (marked-other test state (promised_as v.id ride) (promised_fails v ride found (test ride.id) refl));
  with_vehicles = λ r there k is. with_it r there k (test r.ride.id) refl is;
  in_batches = λ b b_there r there is. in_batch b b_there r there is (test r.ride.id) refl;
  closed = λ r there is. not_closed r there is (test r.ride.id) refl;
}
  where
    promised_fails : (v : Vehicle) (ride : Ride) → find_request s.requests ride.id ≡ Some (promised_as v.id ride) → (b : Bool)
        → test ride.id ≡ b → b ≡ false
    promised_fails v ride found false is = refl
    promised_fails v ride found true is =
        let there = (found_among (λ (r : AcceptedRequest). r.ride.id == ride.id) s.requests (promised_as v.id ride) found).0 in
        absurd (cc (marks.were_with_none (promised_as v.id ride) there is, vehicle_of-promised v.id ride.picked))

    with_it : (r : AcceptedRequest) → Among r s.requests → (k : ℕ) → (b : Bool) → test r.ride.id ≡ b
        → vehicle_of_request (cond b (record r { state = state }) r).state ≡ Some k
        → (v : Vehicle) × (find_vehicle s.vehicles k ≡ Some v) × Among r.ride.id (ride_ids v.rides.items)
    with_it r there k true is some = absurd (cc (marks.with_none, some))
    with_it r there k false is some = inv.with_vehicles r there k some

    in_batch : (b : BatchCopy) → Among b s.batches → (r : AcceptedRequest) → Among r s.requests → stays_in b.number r.state ≡ true
        → (c : Bool) → test r.ride.id ≡ c → stays_in b.number (cond c (record r { state = state }) r).state ≡ true
    in_batch b b_there r there is true passes = marks.in_batches b b_there r there passes is
    in_batch b b_there r there is false fails = is

    not_closed : (r : AcceptedRequest) → Among r s.requests → is_closed r.state ≡ true → (c : Bool) → test r.ride.id ≡ c
        → cond c (record r { state = state }) r ≡ r
    not_closed r there is true passes = absurd (cc (is, marks.were_open r there passes))
    not_closed r there is false fails = refl

-- what is kept holds after requests were marked
pub marks_go : (desks fed after_fed : ℕ) (ok : ℕ → Type 0) (start s : State) (test : ℕ → Bool) (state : RequestState)
    → fed ≤ after_fed → Inv desks fed ok start s → Marks s test state
    → Goes desks after_fed ok start s (record s { requests = map (marked test state) s.requests })
marks_go desks fed after_fed ok start s test state more inv marks =
    subst (λ vehicles. Goes desks after_fed ok start s (record s { vehicles = vehicles; requests = map (marked test state) s.requests }))
    (map-same (λ v. v) s.vehicles (λ v there. refl))
    (changed desks fed after_fed ok start s (λ v. v) (marked test state) inv (marks-change desks fed ok start s test state inv marks)
    (λ v there. omega (arith, inv.versions_fit v there)))

-- the vehicle of an id is the only one of it
pub put_cases : (desks fed : ℕ) (ok : ℕ → Type 0) (start s : State) → IsStart start → Inv desks fed ok start s
    → (v new w : Vehicle)
    → find_vehicle s.vehicles v.id ≡ Some v → new.id ≡ v.id → Among w s.vehicles
    → ((w ≡ v) × (put new w ≡ new)) ⊎ ((w.id ≡ v.id → ⊥) × (put new w ≡ w))
put_cases desks fed ok start s begins inv v new w found id_is there = by_test (eqb w.id new.id) refl
  where
    by_test : (b : Bool) → eqb w.id new.id ≡ b → ((w ≡ v) × (put new w ≡ new)) ⊎ ((w.id ≡ v.id → ⊥) × (put new w ≡ w))
    by_test true is = inl (
      same_Some w v (sym (found_by (λ (x : Vehicle). x.id) s.vehicles w (fleet_of desks fed ok start s begins inv).ids_differ there)
          ∙ ap (find_vehicle s.vehicles) (eqb-true w.id new.id is ∙ id_is) ∙ found),
      ap (λ b. cond b new w) is,
    )
    by_test false is = inr (λ equal. eqb-false w.id new.id is (equal ∙ sym id_is), ap (λ b. cond b new w) is)

-- a vehicle is changed with its rides as they are
pub record Turn (s : State) (v new : Vehicle) : Type 0 where
  pub found : find_vehicle s.vehicles v.id ≡ Some v
  pub id_is : new.id ≡ v.id
  pub version_is : new.version ≡ v.version + 1
  pub rides_are : new.rides.items ≡ v.rides.items
  pub lawful : IsLawful s.roads new
  pub few_stops : length new.stops.items ≤ 16

-- such a turn is a change
turn-change : (desks fed : ℕ) (ok : ℕ → Type 0) (start s : State) (v new : Vehicle) → IsStart start → Inv desks fed ok start s
    → Turn s v new → Change s (put new) (λ r. r)
turn-change desks fed ok start s v new begins inv turn = record {
  same_ids = put-id new;
  same_rides = λ r. refl;
  lawful = λ w there. of_lawful w there (cases w there);
  few_stops = λ w there. of_few w there (cases w there);
  goes_on = λ w there. of_earlier w (cases w there);
  promised = λ w there ride ride_there.
      ap (λ rs. find_request rs ride.id) (map-same (λ r. r) s.requests (λ r r_there. refl))
      ∙ inv.promised w there ride (subst (Among ride) (rides_of w (cases w there)) ride_there);
  with_vehicles = λ r there k is.
      let (w, w_found, ride_there) = inv.with_vehicles r there k is in
      let w_there = (found_among (λ (x : Vehicle). x.id == k) s.vehicles w w_found).0 in
      (w, w_found, subst (λ rides. Among r.ride.id (ride_ids rides)) (sym (rides_of w (cases w w_there))) ride_there);
  in_batches = λ b b_there r there is. is;
  closed = λ r there is. refl;
}
  where
    cases : (w : Vehicle) → Among w s.vehicles → ((w ≡ v) × (put new w ≡ new)) ⊎ ((w.id ≡ v.id → ⊥) × (put new w ≡ w))
    cases w there = put_cases desks fed ok start s begins inv v new w turn.found turn.id_is there

    of_lawful : (w : Vehicle) → Among w s.vehicles → ((w ≡ v) × (put new w ≡ new))
        ⊎ ((w.id ≡ v.id → ⊥) × (put new w ≡ w)) → IsLawful s.roads (put new w)
    of_lawful w there (inl (is, put_is)) = subst (IsLawful s.roads) (sym put_is) turn.lawful
    of_lawful w there (inr (differs, put_is)) = subst (IsLawful s.roads) (sym put_is) (inv.lawful w there)

    of_few : (w : Vehicle) → Among w s.vehicles → ((w ≡ v) × (put new w ≡ new)) ⊎ ((w.id ≡ v.id → ⊥) × (put new w ≡ w))
        → length (put new w).stops.items ≤ 16
    of_few w there (inl (is, put_is)) = subst (λ (x : Vehicle). length x.stops.items ≤ 16) (sym put_is) turn.few_stops
    of_few w there (inr (differs, put_is)) = subst (λ (x : Vehicle). length x.stops.items ≤ 16) (sym put_is) (inv.few_stops w there)

    of_earlier : (w : Vehicle) → ((w ≡ v) × (put new w ≡ new)) ⊎ ((w.id ≡ v.id → ⊥) × (put new w ≡ w))
        → IsEarlier w (put new w)
    of_earlier w (inl (is, put_is)) =
        subst (λ x. IsEarlier w x) (sym put_is) (subst (λ x. IsEarlier x new) (sym is) (earlier-raised v new turn.id_is turn.version_is))
    of_earlier w (inr (differs, put_is)) = subst (λ x. IsEarlier w x) (sym put_is) (earlier-same w)

    rides_of : (w : Vehicle) → ((w ≡ v) × (put new w ≡ new)) ⊎ ((w.id ≡ v.id → ⊥) × (put new w ≡ w))
        → (put new w).rides.items ≡ w.rides.items
    rides_of w (inl (is, put_is)) = ap (λ (x : Vehicle). x.rides.items) put_is ∙ turn.rides_are
        ∙ ap (λ (x : Vehicle). x.rides.items) (sym is)
    rides_of w (inr (differs, put_is)) = ap (λ (x : Vehicle). x.rides.items) put_is

-- the versions after one of them was raised
put_version : (desks fed : ℕ) (ok : ℕ → Type 0) (start s : State) (v new w : Vehicle) → IsStart start → Inv desks fed ok start s
    → find_vehicle s.vehicles v.id ≡ Some v → new.id ≡ v.id → new.version ≡ v.version + 1 → Among w s.vehicles
    → (put new w).version ≤ w.version + 1
put_version desks fed ok start s v new w begins inv found id_is version_is there =
    by_case (put_cases desks fed ok start s begins inv v new w found id_is there)
  where
    by_case : ((w ≡ v) × (put new w ≡ new)) ⊎ ((w.id ≡ v.id → ⊥) × (put new w ≡ w))
        → (put new w).version ≤ w.version + 1
    by_case (inl (is, put_is)) = omega (arith, version_is, ap (λ (x : Vehicle). x.version) is, ap (λ (x : Vehicle). x.version) put_is)
    by_case (inr (differs, put_is)) = omega (arith, ap (λ (x : Vehicle). x.version) put_is)

-- what is kept holds after a command that changed a vehicle at its place
pub turn_goes : (desks fed : ℕ) (ok : ℕ → Type 0) (start s : State) (place : ℕ) (v new : Vehicle) → IsStart start
    → Inv desks fed ok start s
    → Placed s.vehicles v.id place v → Turn s v new → Goes desks (fed + 1) ok start s (with_vehicle s place new)
turn_goes desks fed ok start s place v new begins inv placed turn =
    subst (λ vehicles. Goes desks (fed + 1) ok start s (record s { vehicles = vehicles })) (sym (placed.set_is new turn.id_is))
    (subst (λ requests. Goes desks (fed + 1) ok start s (record s { vehicles = map (put new) s.vehicles; requests = requests }))
    (map-same (λ r. r) s.requests (λ r there. refl))
    (changed desks fed (fed + 1) ok start s (put new) (λ r. r) inv (turn-change desks fed ok start s v new begins inv turn)
    (λ w there. omega (
      arith,
      inv.versions_fit w there,
      put_version desks fed ok start s v new w begins inv turn.found turn.id_is turn.version_is there,
    ))))
