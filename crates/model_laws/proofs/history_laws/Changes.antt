-- Changes of vehicles and of requests' states, which keep what is kept.
use Rattle.model_laws.proofs.Common.{◌≡◌, ℕ, ◌+◌, ◌≤◌, ◌||◌, Bool, true, List, length, refl, sym, ◌∙◌, ap, subst, arith, map, Some, option_map, ◌==◌, nat_eq, IsDistinct, length-map, RequestState, Ride, Vehicle, is_in_batch, is_cancelled, BatchCopy, find_vehicle, IsBatchOver, State, AcceptedRequest, IsRide, IsLawful, ride_ids, is_closed, promised_as, vehicle_of_request, IsInBatch, IsEarlier, AreEarlier, IsOpenBatch}
use Rattle.model_laws.proofs.plain.Among.{Among, among_map_back, found_among}
use Rattle.model_laws.proofs.plain.Each.{of_all, all_of}
use Rattle.model_laws.proofs.history_laws.Lookups.{find-map, ids-map}
use Rattle.model_laws.proofs.history_laws.Earlier.{earlier-map, all_earlier-then}
use Rattle.model_laws.proofs.history_laws.Invariant.{find_request, Inv, Goes}

-- whether a request of this state is in the batch of this number or was cancelled
abbrev pub stays_in : ℕ → RequestState → Bool
stays_in number state = is_in_batch number state || is_cancelled state

-- an open batch at a later state, whose vehicles have gone on and where its requests are still in it or cancelled
pub open_batch-later : (desks : ℕ) (s after : State) (b : BatchCopy) → after.roads ≡ s.roads → after.settings ≡ s.settings
    → s.clock ≤ after.clock
    → s.opened ≤ after.opened → AreEarlier s.vehicles after.vehicles
    → ((ride : Ride) → IsInBatch s b.number ride → IsInBatch after b.number ride) → IsOpenBatch desks s b
    → IsOpenBatch desks after b
open_batch-later desks s after b roads_is settings_is later more goes_on still open_batch = record {
  desk_in = open_batch.desk_in;
  number_in = (open_batch.number_in.0, omega (arith, open_batch.number_in.1, more));
  settings_are = open_batch.settings_are ∙ sym settings_is;
  in_time = omega (arith, open_batch.in_time, later);
  over_map = subst (λ roads. IsBatchOver roads b) (sym roads_is) open_batch.over_map;
  requests_differ = open_batch.requests_differ;
  requests_are = all_of (IsInBatch after b.number) b.requests (λ ride there.
      still ride (of_all (IsInBatch s b.number) b.requests ride open_batch.requests_are there));
  fleet_fits = open_batch.fleet_fits;
  lawful = all_of (IsLawful after.roads) b.vehicles (λ v there.
      subst (λ roads. IsLawful roads v) (sym roads_is) (of_all (IsLawful s.roads) b.vehicles v open_batch.lawful there));
  copies = all_earlier-then b.vehicles s.vehicles after.vehicles open_batch.copies goes_on;
}

-- a change of the vehicles and of the requests, one by one, that changes no id and no ride
pub record Change (s : State) (g : Vehicle → Vehicle) (h : AcceptedRequest → AcceptedRequest) : Type 0 where
  pub same_ids : (v : Vehicle) → (g v).id ≡ v.id
  pub same_rides : (r : AcceptedRequest) → (h r).ride ≡ r.ride
  pub lawful : (v : Vehicle) → Among v s.vehicles → IsLawful s.roads (g v)
  pub few_stops : (v : Vehicle) → Among v s.vehicles → length (g v).stops.items ≤ 16
  pub goes_on : (v : Vehicle) → Among v s.vehicles → IsEarlier v (g v)
  pub promised : (v : Vehicle) → Among v s.vehicles → (ride : Ride) → Among ride (g v).rides.items
      → find_request (map h s.requests) ride.id ≡ Some (promised_as v.id ride)
  pub with_vehicles : (r : AcceptedRequest) → Among r s.requests → (k : ℕ) → vehicle_of_request (h r).state ≡ Some k
      → (v : Vehicle) × (find_vehicle s.vehicles k ≡ Some v) × Among r.ride.id (ride_ids (g v).rides.items)
  pub in_batches : (b : BatchCopy) → Among b s.batches → (r : AcceptedRequest) → Among r s.requests
      → stays_in b.number r.state ≡ true → stays_in b.number (h r).state ≡ true
  pub closed : (r : AcceptedRequest) → Among r s.requests → is_closed r.state ≡ true → h r ≡ r

-- the state after a change
abbrev pub with_both : State → (Vehicle → Vehicle) → (AcceptedRequest → AcceptedRequest) → State
with_both s g h = record s { vehicles = map g s.vehicles; requests = map h s.requests }

-- requests of the same rides are found alike
pub find_request-map : (h : AcceptedRequest → AcceptedRequest) → ((r : AcceptedRequest) → (h r).ride ≡ r.ride)
    → (id : ℕ) (requests : List AcceptedRequest)
    → find_request (map h requests) id ≡ option_map h (find_request requests id)
find_request-map h same id requests = find-map (λ (r : AcceptedRequest). r.ride.id) h
    (λ r. ap (λ (ride : Ride). ride.id) (same r)) id requests

-- a ride of a batch is still in it after a change
still_in : (s : State) (g : Vehicle → Vehicle) (h : AcceptedRequest → AcceptedRequest) → Change s g h → (b : BatchCopy)
    → Among b s.batches
    → (ride : Ride) → IsInBatch s b.number ride → IsInBatch (with_both s g h) b.number ride
still_in s g h change b b_there ride within =
    let was : AcceptedRequest = record { ride = ride; state = within.state } in
    let there : Among was s.requests = (found_among (λ (r : AcceptedRequest). r.ride.id == ride.id) s.requests was within.accepted).0 in
    record {
      state = (h was).state;
      accepted = find_request-map h change.same_rides ride.id s.requests ∙ ap (option_map h) within.accepted
          ∙ ap Some (λ i. record { ride = change.same_rides was i; state = (h was).state });
      in_or_cancelled = change.in_batches b b_there was there within.in_or_cancelled;
    }

-- what is kept holds after a change, with so many commands answered that the versions fit
pub changed : (desks fed after_fed : ℕ) (ok : ℕ → Type 0) (start s : State) (g : Vehicle → Vehicle)
    (h : AcceptedRequest → AcceptedRequest)
    → Inv desks fed ok start s → Change s g h
    → ((v : Vehicle) → Among v s.vehicles → (g v).version + length s.batches ≤ after_fed + s.opened)
    → Goes desks after_fed ok start s (with_both s g h)
changed desks fed after_fed ok start s g h inv change versions =
    let goes_on : AreEarlier s.vehicles (map g s.vehicles) = earlier-map g s.vehicles change.goes_on in
    record {
      inv = record {
        roads_stay = inv.roads_stay;
        settings_stay = inv.settings_stay;
        fleet_stays = ids-map (λ (v : Vehicle). v.id) g change.same_ids s.vehicles ∙ inv.fleet_stays;
        clock_fits = inv.clock_fits;
        few_asked = inv.few_asked;
        few_opened = inv.few_opened;
        few_requests = omega (arith, inv.few_requests, length-map s.requests h);
        requests_differ = subst (IsDistinct nat_eq)
            (sym (ids-map (λ (r : AcceptedRequest). r.ride.id) h (λ r. ap (λ (ride : Ride). ride.id) (change.same_rides r)) s.requests))
            inv.requests_differ;
        requests_fit = λ r there.
            let (q, q_there, is) = among_map_back h s.requests r there in
            subst (IsRide s.roads) (sym (change.same_rides q) ∙ ap (λ (x : AcceptedRequest). x.ride) is) (inv.requests_fit q q_there);
        requests_wait = λ r there.
            let (q, q_there, is) = among_map_back h s.requests r there in
            ap (λ (x : AcceptedRequest). x.ride.picked) (sym is) ∙ ap (λ (x : Ride). x.picked) (change.same_rides q)
            ∙ inv.requests_wait q q_there;
        ids_ok = λ r there.
            let (q, q_there, is) = among_map_back h s.requests r there in
            subst ok (ap (λ (x : Ride). x.id) (sym (change.same_rides q) ∙ ap (λ (x : AcceptedRequest). x.ride) is))
            (inv.ids_ok q q_there);
        lawful = λ v there.
            let (w, w_there, is) = among_map_back g s.vehicles v there in
            subst (IsLawful s.roads) is (change.lawful w w_there);
        few_stops = λ v there.
            let (w, w_there, is) = among_map_back g s.vehicles v there in
            subst (λ (x : Vehicle). length x.stops.items ≤ 16) is (change.few_stops w w_there);
        promised = λ v there.
            let (w, w_there, is) = among_map_back g s.vehicles v there in
            subst (λ (x : Vehicle). (ride : Ride) → Among ride x.rides.items → find_request (map h s.requests) ride.id ≡ Some
            (promised_as x.id ride)) is
            (λ ride ride_there. change.promised w w_there ride ride_there
            ∙ ap (λ n. Some (promised_as n ride)) (sym (change.same_ids w)));
        with_vehicles = λ r there k.
            let (q, q_there, is) = among_map_back h s.requests r there in
            subst (λ (x : AcceptedRequest). vehicle_of_request x.state ≡ Some k
            → (v : Vehicle) × (find_vehicle (map g s.vehicles) k ≡ Some v) × Among x.ride.id (ride_ids v.rides.items)) is
            (λ state_is.
            let (v, found, ride_there) = change.with_vehicles q q_there k state_is in (
              g v,
              find-map (λ (x : Vehicle). x.id) g change.same_ids k s.vehicles ∙ ap (option_map g) found,
              subst (λ (ride : Ride). Among ride.id (ride_ids (g v).rides.items)) (sym (change.same_rides q)) ride_there,
            ));
        versions_fit = λ v there.
            let (w, w_there, is) = among_map_back g s.vehicles v there in
            subst (λ (x : Vehicle). x.version + length s.batches ≤ after_fed + s.opened) is (versions w w_there);
        batches_fit = λ b there.
            open_batch-later desks s (with_both s g h) b refl refl (omega arith) (omega arith) goes_on (still_in s g h change b there)
            (inv.batches_fit b there);
        numbers_differ = inv.numbers_differ;
        desks_differ = inv.desks_differ;
      };
      earlier = goes_on;
      closed_stay = λ id r found is.
          find_request-map h change.same_rides id s.requests ∙ ap (option_map h) found
          ∙ ap Some (change.closed r (found_among (λ (q : AcceptedRequest). q.ride.id == id) s.requests r found).0 is);
    }
