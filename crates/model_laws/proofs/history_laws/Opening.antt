-- What is kept is kept by the opening of a batch.
use Rattle.model_laws.proofs.Common.{◌≡◌, ℕ, zero, suc, ◌+◌, ◌&&◌, ◌||◌, ◌⊎◌, Bool, true, false, not, inl, inr, List, [], ◌∷◌, ◌++◌, take, eqb, ltb-true, refl, sym, ◌∙◌, ap, subst, arith, length-append, length-take, map, Some, None, option_map, is_some, nat_lt, nat_eq, All, filter, IsDistinct, eqb-true, eq-eqb, ne_eqb, not-true, and_parts, same_Some, map-append, Desk, RequestState, Waiting, InBatch, Aboard, Away, Cancelled, Ride, Vehicle, is_waiting, waiting_rides, may_open, next_batch, after_opening, IsNumbered, BatchCopy, IsBatchOver, State, AcceptedRequest, has_ended, open_batch_of, IsRide, IsRouted, IsLawful, ride_ids, IsFresh, IsStart, is_closed, promised_as, vehicle_of_request, IsInBatch, IsOpenBatch, is_of}
use Rattle.ride_model.specs.declared.reply.RequestState.TheVariants.{Confirmed, Done}
use Rattle.model_laws.proofs.plain.Among.{Among, among_from_contains, among_map_back, among_filter_back, among_push_back}
use Rattle.model_laws.proofs.plain.Each.{all_of}
use Rattle.model_laws.proofs.plain.Lists.{distinct-push}
use Rattle.model_laws.proofs.RequestStates.{marked, opening-is, marked-ride}
use Rattle.model_laws.proofs.history_laws.Lookups.{found_by, fresh_by, distinct-filter_by, distinct-take_by, among_take}
use Rattle.model_laws.proofs.history_laws.Earlier.{all_earlier-same}
use Rattle.model_laws.proofs.history_laws.Invariant.{find_request, Inv, Goes, settings_of, fleet_of}
use Rattle.model_laws.proofs.history_laws.Changes.{stays_in, find_request-map, open_batch-later}
use Rattle.model_laws.proofs.history_laws.Marks.{marked-passing, Marks, marks_go, vehicle_of-promised}

-- a waiting request is with no vehicle, and open
waiting-none : (state : RequestState) → is_waiting state ≡ true → (vehicle_of_request state ≡ None) × (is_closed state ≡ false)
waiting-none Waiting h = (refl, refl)
waiting-none (InBatch n) h = absurd (cc h)
waiting-none (Confirmed v) h = absurd (cc h)
waiting-none (Aboard v) h = absurd (cc h)
waiting-none Done h = absurd (cc h)
waiting-none (Away n) h = absurd (cc h)
waiting-none Cancelled h = absurd (cc h)

-- a waiting request is in no batch
waiting-stays : (number : ℕ) (state : RequestState) → is_waiting state ≡ true → stays_in number state ≡ false
waiting-stays number Waiting h = refl
waiting-stays number (InBatch n) h = absurd (cc h)
waiting-stays number (Confirmed v) h = absurd (cc h)
waiting-stays number (Aboard v) h = absurd (cc h)
waiting-stays number Done h = absurd (cc h)
waiting-stays number (Away n) h = absurd (cc h)
waiting-stays number Cancelled h = absurd (cc h)

-- the ride of an id that is one of the rides'
pub of_rides : (rides : List Ride) (id : ℕ) → is_of rides id ≡ true → (ride : Ride) × Among ride rides × (ride.id ≡ id)
of_rides [] id h = absurd (cc h)
of_rides (ride ∷ rides) id h = by_test (λ later. of_rides rides id later) (eqb ride.id id) refl h
  where
    by_test : (is_of rides id ≡ true → (r : Ride) × Among r rides × (r.id ≡ id)) → (b : Bool) → eqb ride.id id ≡ b
        → (b || is_of rides id) ≡ true
        → (r : Ride) × Among r (ride ∷ rides) × (r.id ≡ id)
    by_test later true is h = (ride, inl refl, eqb-true ride.id id is)
    by_test later false is h = let (r, there, id_is) = later h in (r, inr there, id_is)

-- the id of a ride that is among the rides
pub is_of-among : (rides : List Ride) (ride : Ride) → Among ride rides → is_of rides ride.id ≡ true
is_of-among [] ride there = absurd there
is_of-among (r ∷ rides) ride (inl is) = ap (λ b. b || is_of rides ride.id) (eq-eqb r.id ride.id (ap (λ (x : Ride). x.id) is))
is_of-among (r ∷ rides) ride (inr there) = by_test (is_of-among rides ride there) (eqb r.id ride.id)
  where
    by_test : is_of rides ride.id ≡ true → (b : Bool) → (b || is_of rides ride.id) ≡ true
    by_test later true = refl
    by_test later false = later

-- a ride of the next batch is that of a waiting request
pub record Waits (s : State) (ride : Ride) : Type 0 where
  pub request : AcceptedRequest
  pub there : Among request s.requests
  pub waiting : is_waiting request.state ≡ true
  pub ride_is : request.ride ≡ ride

-- each ride of the next batch waits
pub waits_in : (s : State) (most : ℕ) (ride : Ride) → Among ride (take most (waiting_rides s)) → Waits s ride
waits_in s most ride there =
    let (r, r_there, ride_is) = among_map_back (λ (request : AcceptedRequest). request.ride)
    (filter (λ (request : AcceptedRequest). is_waiting request.state) s.requests) ride (among_take most (waiting_rides s) ride there) in
    let (among, waiting) = among_filter_back (λ (request : AcceptedRequest). is_waiting request.state) s.requests r r_there in
    record { request = r; there = among; waiting = waiting; ride_is = ride_is }

module _ (desks fed : ℕ) (ok : ℕ → Type 0) (start s : State) (begins : IsStart start) (inv : Inv desks fed ok start s)
    (desk : ℕ) where
  -- a request of the next batch waits
  waiting_of : (r : AcceptedRequest) → Among r s.requests → is_of (next_batch s desk).requests r.ride.id ≡ true
      → is_waiting r.state ≡ true
  waiting_of r there passes =
      let (ride, ride_there, id_is) = of_rides (next_batch s desk).requests r.ride.id passes in
      let w = waits_in s s.settings.batch ride ride_there in
      let key = λ (x : AcceptedRequest). x.ride.id in
      let same_id : w.request.ride.id ≡ r.ride.id = ap (λ (x : Ride). x.id) w.ride_is ∙ id_is in
      let both : Some w.request ≡ Some r
      = sym (found_by key s.requests w.request inv.requests_differ w.there) ∙ ap (find_request s.requests) same_id
      ∙ found_by key s.requests r inv.requests_differ there in
      ap (λ (x : AcceptedRequest). is_waiting x.state) (sym (same_Some w.request r both)) ∙ w.waiting

  -- the requests of the next batch may be marked
  opening_marks : Marks s (is_of (next_batch s desk).requests) (InBatch (s.opened + 1))
  opening_marks = record {
    with_none = refl;
    were_with_none = λ r there passes. (waiting-none r.state (waiting_of r there passes)).0;
    were_open = λ r there passes. (waiting-none r.state (waiting_of r there passes)).1;
    in_batches = λ b b_there r there passes is. absurd (cc (is, waiting-stays b.number r.state (waiting_of r there passes)));
  }

  -- the next batch is over the map
  next_over : IsBatchOver s.roads (next_batch s desk)
  next_over = record {
    settings_fit = settings_of desks fed ok start s begins inv;
    few = omega (arith, (settings_of desks fed ok start s begins inv).batch_limit, length-take s.settings.batch (waiting_rides s));
    vehicles_fit = all_of (IsRouted s.roads) s.vehicles (λ v there. (inv.lawful v there).routed);
    rides_fit = all_of (IsRide s.roads) (next_batch s desk).requests (λ ride there.
        let w = waits_in s s.settings.batch ride there in subst (IsRide s.roads) w.ride_is (inv.requests_fit w.request w.there));
    rides_wait = all_of (λ (ride : Ride). ride.picked ≡ None) (next_batch s desk).requests (λ ride there.
        let w = waits_in s s.settings.batch ride there in ap (λ (x : Ride). x.picked) (sym w.ride_is)
        ∙ inv.requests_wait w.request w.there);
    rides_fresh = all_of (λ (ride : Ride). All (λ (v : Vehicle). IsFresh v.rides.items ride.id) s.vehicles) (next_batch s desk).requests
        (λ ride there.
        all_of (λ (v : Vehicle). IsFresh v.rides.items ride.id) s.vehicles
        (λ v v_there contained. fresh (waits_in s s.settings.batch ride there) v v_there
        (among_map_back (λ (r : Ride). r.id) v.rides.items ride.id (among_from_contains (ride_ids v.rides.items) ride.id contained))));
  }
    where
      fresh : {ride : Ride} (w : Waits s ride) (v : Vehicle) → Among v s.vehicles → (other : Ride) × Among other v.rides.items
          × (other.id ≡ ride.id) → ⊥
      fresh {ride} w v v_there (other, other_there, id_is) =
          let promised = inv.promised v v_there other other_there in
          let found = found_by (λ (x : AcceptedRequest). x.ride.id) s.requests w.request inv.requests_differ w.there in
          let both : Some w.request ≡ Some (promised_as v.id other)
          = sym found ∙ ap (find_request s.requests) (ap (λ (x : Ride). x.id) w.ride_is ∙ sym id_is) ∙ promised in
          let equal : w.request ≡ promised_as v.id other = same_Some w.request (promised_as v.id other) both in
          cc (
            (waiting-none w.request.state w.waiting).0,
            ap (λ (x : AcceptedRequest). vehicle_of_request x.state) equal,
            vehicle_of-promised v.id other.picked,
          )

  -- the state with the requests in the batch
  abbrev pub marked_state : State
  marked_state = record s { requests = map (marked (is_of (next_batch s desk).requests) (InBatch (s.opened + 1))) s.requests }

  -- a ride of the next batch is in it
  next_in : (ride : Ride) → Among ride (next_batch s desk).requests
      → find_request (map (marked (is_of (next_batch s desk).requests) (InBatch (s.opened + 1))) s.requests) ride.id
      ≡ Some (record { ride = ride; state = InBatch (s.opened + 1) })
  next_in ride there =
      let w = waits_in s s.settings.batch ride there in
      let test = is_of (next_batch s desk).requests in
      let id_is : w.request.ride.id ≡ ride.id = ap (λ (x : Ride). x.id) w.ride_is in
      find_request-map (marked test (InBatch (s.opened + 1))) (marked-ride test (InBatch (s.opened + 1))) ride.id s.requests
      ∙ ap (option_map (marked test (InBatch (s.opened + 1)))) (ap (find_request s.requests) (sym id_is)
      ∙ found_by (λ (x : AcceptedRequest). x.ride.id) s.requests w.request inv.requests_differ w.there)
      ∙ ap Some (marked-passing test (InBatch (s.opened + 1)) w.request
      (ap test id_is ∙ is_of-among (next_batch s desk).requests ride there)
      ∙ λ i. record { ride = w.ride_is i; state = InBatch (s.opened + 1) })

  -- the state after the opening
  abbrev pub opened_state : State
  opened_state = record marked_state { opened = s.opened + 1; batches = s.batches ++ next_batch s desk ∷ [] }

  -- the next batch is in order
  next_opened : IsNumbered desks desk → IsOpenBatch desks opened_state (next_batch s desk)
  next_opened desk_in = record {
    desk_in = desk_in;
    number_in = (omega arith, omega arith);
    settings_are = refl;
    in_time = omega arith;
    over_map = next_over;
    requests_differ = subst (IsDistinct nat_eq) (sym ids_are)
        (distinct-take_by key s.settings.batch (filter waits s.requests) (distinct-filter_by key waits s.requests inv.requests_differ));
    requests_are = all_of (IsInBatch opened_state (s.opened + 1)) (next_batch s desk).requests (λ ride there. record {
      state = InBatch (s.opened + 1);
      accepted = next_in ride there;
      in_or_cancelled = ap (λ b. b || false) (eq-eqb (s.opened + 1) (s.opened + 1) refl);
    });
    fleet_fits = fleet_of desks fed ok start s begins inv;
    lawful = all_of (IsLawful s.roads) s.vehicles inv.lawful;
    copies = all_earlier-same s.vehicles;
  }
    where
      key : AcceptedRequest → ℕ
      key r = r.ride.id

      waits : AcceptedRequest → Bool
      waits r = is_waiting r.state

      ids_are : ride_ids (next_batch s desk).requests ≡ map (λ (r : AcceptedRequest). r.ride.id)
          (take s.settings.batch (filter (λ (r : AcceptedRequest). is_waiting r.state) s.requests))
      ids_are = taken s.settings.batch (filter (λ (r : AcceptedRequest). is_waiting r.state) s.requests)
        where
          taken : (n : ℕ) (rs : List AcceptedRequest) → ride_ids (take n (map (λ (r : AcceptedRequest). r.ride) rs)) ≡ map
              (λ (r : AcceptedRequest). r.ride.id) (take n rs)
          taken zero rs = refl
          taken (suc n) [] = refl
          taken (suc n) (r ∷ rs) = ap (λ rest. r.ride.id ∷ rest) (taken n rs)

  -- an opening
  pub opened_goes : IsNumbered desks desk → may_open s desk ≡ true → Goes desks fed ok start s (after_opening s (next_batch s desk))
  opened_goes desk_in may =
      let (both, fewer) = and_parts (not (has_ended s (Desk desk)) && not (is_some (open_batch_of s desk))) (nat_lt s.opened s.asked) may in
      let (_, none_open) = and_parts (not (has_ended s (Desk desk))) (not (is_some (open_batch_of s desk))) both in
      let marks = marks_go desks fed fed ok start s (is_of (next_batch s desk).requests) (InBatch (s.opened + 1))
      (omega arith) inv opening_marks in
      let kept = marks.inv in
      subst (Goes desks fed ok start s) (sym (opening-is s (next_batch s desk))) (record {
        inv = record {
          roads_stay = kept.roads_stay;
          settings_stay = kept.settings_stay;
          fleet_stays = kept.fleet_stays;
          clock_fits = kept.clock_fits;
          few_asked = kept.few_asked;
          few_opened = omega (arith, ltb-true s.opened s.asked fewer);
          few_requests = kept.few_requests;
          requests_differ = kept.requests_differ;
          requests_fit = kept.requests_fit;
          requests_wait = kept.requests_wait;
          ids_ok = kept.ids_ok;
          lawful = kept.lawful;
          few_stops = kept.few_stops;
          promised = kept.promised;
          with_vehicles = kept.with_vehicles;
          versions_fit = λ v there. omega (arith, kept.versions_fit v there, length-append s.batches (next_batch s desk ∷ []));
          batches_fit = λ b there. by_place b kept desk_in (among_push_back s.batches (next_batch s desk) b there);
          numbers_differ = subst (IsDistinct nat_eq) (sym (map-append (λ (b : BatchCopy). b.number) s.batches (next_batch s desk ∷ [])))
              (distinct-push (map (λ (b : BatchCopy). b.number) s.batches) (s.opened + 1) inv.numbers_differ (λ n there. lower n
              (among_map_back (λ (b : BatchCopy). b.number) s.batches n there)));
          desks_differ = subst (IsDistinct nat_eq) (sym (map-append (λ (b : BatchCopy). b.desk) s.batches (next_batch s desk ∷ [])))
              (distinct-push (map (λ (b : BatchCopy). b.desk) s.batches) desk inv.desks_differ
              (fresh_by (λ (b : BatchCopy). b.desk) s.batches desk (not-true (is_some (open_batch_of s desk)) none_open)));
        };
        earlier = marks.earlier;
        closed_stay = marks.closed_stay;
      })
    where
      by_place : (b : BatchCopy) → Inv desks fed ok start marked_state → IsNumbered desks desk → Among b s.batches
          ⊎ (next_batch s desk ≡ b)
          → IsOpenBatch desks opened_state b
      by_place b kept desk_in (inl there) =
          open_batch-later desks marked_state opened_state b refl refl (omega arith) (omega arith) (all_earlier-same s.vehicles)
          (λ ride within. record { state = within.state; accepted = within.accepted; in_or_cancelled = within.in_or_cancelled })
          (kept.batches_fit b there)
      by_place b kept desk_in (inr is) = subst (IsOpenBatch desks opened_state) is (next_opened desk_in)

      lower : (n : ℕ) → (b : BatchCopy) × Among b s.batches × (b.number ≡ n) → eqb n (s.opened + 1) ≡ false
      lower n (b, there, is) = ne_eqb n (s.opened + 1) (λ equal. omega (arith, equal, is, (inv.batches_fit b there).number_in.1))
