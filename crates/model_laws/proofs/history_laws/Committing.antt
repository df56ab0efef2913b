-- What is kept is kept by a commit, one outcome after the other.
use Rattle.model_laws.proofs.Common.{◌≡◌, ℕ, ◌||◌, ◌⊎◌, Bool, true, false, not, cond, inl, inr, List, [], ◌∷◌, ◌++◌, length, eqb, refl, sym, ◌∙◌, ap, subst, arith, map, Option, Some, None, option_map, find, ◌==◌, nat_eq, nat_lt, All, IsSome, IsDistinct, eqb-true, eq-eqb, ne_eqb, Outcome, Confirmed, Gone, Moved, Behind, Seat, RequestState, Settings, Ride, Vehicle, is_in_batch, is_cancelled, seat_of, version_of, priced_start, outcome_by, was_cancelled, outcome_of, with_confirmed, confirm, after_outcome, after_outcomes, without_batch, after_commit, BatchCopy, IsSeating, find_vehicle, seat_offer, State, AcceptedRequest, placed_vehicle, with_vehicle, with_request_state, with_plan, start_of, offer_of, raised, IsRide, ride_ids, IsFresh, IsStart, is_closed, promised_state, promised_as, vehicle_of_request, IsInBatch, IsOpenBatch, IsDistinct-head, IsDistinct-tail, same_Some, or-false, map-append}
use Rattle.ride_model.specs.declared.entry.Outcome.TheVariants.{Away}
use Rattle.ride_model.specs.declared.reply.RequestState.TheVariants.{Waiting as WaitingState, Confirmed as ConfirmedState, Away as AwayState}
use Rattle.model_laws.proofs.plain.Among.{Among, among_map, contains_from_among, among_push_back, found_among}
use Rattle.model_laws.proofs.plain.Numbers.{eqb-comm}
use Rattle.model_laws.proofs.plain.Each.{of_each, of_all}
use Rattle.model_laws.proofs.OfferPrices.{among_append}
use Rattle.model_laws.proofs.Certificates.{seat_facts}
use Rattle.model_laws.proofs.RequestStates.{marked, marked-ride}
use Rattle.model_laws.proofs.history_laws.Lookups.{find-map, found_by, put, put-id, Placed}
use Rattle.model_laws.proofs.history_laws.Changes.{stays_in, find_request-map}
use Rattle.model_laws.proofs.history_laws.Marks.{marked-passing, marked-other, marks_go}
use Rattle.model_laws.proofs.history_laws.Moves.{only_request, move_goes}
use Rattle.model_laws.proofs.history_laws.Leaving.{without_inv, fewer-filter, others_of, is_batch-own, other_number, in_batch-none, in_batch-stays}
use Rattle.model_laws.proofs.history_laws.Confirming.{ready_at, Confirming, confirming, version_of-found, with_confirmed-is}
use Rattle.model_laws.proofs.history_laws.Kept.{Keeping, AllKeep, all_keep-placed, keeping-kept}
use Rattle.model_laws.proofs.history_laws.Raised.{lawful-raised}
use Rattle.model_laws.proofs.history_laws.Fed.{found_at}
use Rattle.model_laws.proofs.history_laws.Earlier.{all_earlier-same, all_earlier-then, later_of}
use Rattle.model_laws.proofs.history_laws.Invariant.{find_request, Inv, Goes}

-- a commit takes its batch out first
pub without-outcome : (batch : BatchCopy) (ride : Ride) (seat : Option Seat) (outcome : Outcome) (s : State)
    → after_outcome batch ride seat outcome (without_batch batch s) ≡ without_batch batch (after_outcome batch ride seat outcome s)
without-outcome batch ride seat Gone s = refl
without-outcome batch ride seat Away s = refl
without-outcome batch ride seat (Moved named stands) s = refl
without-outcome batch ride seat (Behind first now) s = refl
without-outcome batch ride None Confirmed s = refl
without-outcome batch ride (Some seat) Confirmed s = by_place (placed_vehicle s seat.vehicle)
  where
    by_place : (o : Option (ℕ × Vehicle)) → confirm batch ride seat o (without_batch batch s) ≡ without_batch batch
        (confirm batch ride seat o s)
    by_place None = refl
    by_place (Some placed) = refl

-- the same for all outcomes in turn
pub without-outcomes : (batch : BatchCopy) (seats : List Seat) (moment : State) (rides : List Ride) (s : State)
    → after_outcomes batch seats moment rides (without_batch batch s) ≡ without_batch batch (after_outcomes batch seats moment rides s)
without-outcomes batch seats moment [] s = refl
without-outcomes batch seats moment (ride ∷ rides) s =
    ap (after_outcomes batch seats moment rides) (without-outcome batch ride (seat_of seats ride.id)
    (outcome_of batch seats moment ride.id) s)
    ∙ without-outcomes batch seats moment rides (after_outcome batch ride (seat_of seats ride.id)
    (outcome_of batch seats moment ride.id) s)

-- nothing changes
pub stays : (desks fed : ℕ) (ok : ℕ → Type 0) (start s : State) → Inv desks fed ok start s → Goes desks fed ok start s s
stays desks fed ok start s inv = record { inv = inv; earlier = all_earlier-same s.vehicles; closed_stay = λ id r found is. found }

-- one change and then another
pub goes_then : (desks fed middle after_fed : ℕ) (ok : ℕ → Type 0) (start a b c : State) → Goes desks middle ok start a b
    → Goes desks after_fed ok start b c
    → Goes desks after_fed ok start a c
goes_then desks fed middle after_fed ok start a b c first second = record {
  inv = second.inv;
  earlier = all_earlier-then a.vehicles b.vehicles c.vehicles first.earlier second.earlier;
  closed_stay = λ id r found is. second.closed_stay id r (first.closed_stay id r found is) is;
}

-- another request is found as before
pub marked_elsewhere : (id q : ℕ) (state : RequestState) (requests : List AcceptedRequest) → eqb q id ≡ false
    → find_request (map (marked (λ k. k == id) state) requests) q ≡ find_request requests q
marked_elsewhere id q state requests differs =
    find_request-map (marked (λ k. k == id) state) (marked-ride (λ k. k == id) state) q requests
    ∙ by_found (find_request requests q) refl
  where
    by_found : (o : Option AcceptedRequest) → find_request requests q ≡ o → option_map (marked (λ k. k == id) state) o ≡ o
    by_found None is = refl
    by_found (Some r) is =
        let (there, passes) = found_among (λ (x : AcceptedRequest). x.ride.id == q) requests r is in
        ap Some (marked-other (λ k. k == id) state r (ap (λ k. eqb k id) (eqb-true r.ride.id q passes) ∙ differs))

-- the marked request
pub marked_here : (id : ℕ) (state : RequestState) (requests : List AcceptedRequest) (was : AcceptedRequest)
    → find_request requests id ≡ Some was
    → find_request (map (marked (λ k. k == id) state) requests) id ≡ Some (record was { state = state })
marked_here id state requests was found =
    find_request-map (marked (λ k. k == id) state) (marked-ride (λ k. k == id) state) id requests
    ∙ ap (option_map (marked (λ k. k == id) state)) found
    ∙ ap Some (marked-passing (λ k. k == id) state was (found_among (λ (x : AcceptedRequest). x.ride.id == id) requests was found).1)

-- another vehicle is found as before
pub put_elsewhere : (new : Vehicle) (k : ℕ) (vehicles : List Vehicle) → eqb new.id k ≡ false
    → find_vehicle (map (put new) vehicles) k ≡ find_vehicle vehicles k
put_elsewhere new k vehicles differs = find-map (λ (v : Vehicle). v.id) (put new) (put-id new) k vehicles
    ∙ by_found (find_vehicle vehicles k) refl
  where
    by_found : (o : Option Vehicle) → find_vehicle vehicles k ≡ o → option_map (put new) o ≡ o
    by_found None is = refl
    by_found (Some v) is =
        let (there, passes) = found_among (λ (x : Vehicle). x.id == k) vehicles v is in
        ap Some (ap (λ b. cond b new v) (ap (λ n. eqb n new.id) (eqb-true v.id k passes) ∙ eqb-comm k new.id ∙ differs))

-- a confirmed seat's vehicle is as its copy
pub record SameCopy (s : State) (batch : BatchCopy) (seat : Seat) : Type 0 where
  pub vehicle : Vehicle
  pub copied : find_vehicle batch.vehicles seat.vehicle ≡ Some vehicle
  pub stands : find_vehicle s.vehicles seat.vehicle ≡ Some vehicle

-- a seat whose vehicle has the version of its copy
pub same_copy : (desks : ℕ) (s : State) (batch : BatchCopy) (seat : Seat) → IsOpenBatch desks s batch
    → IsSome (seat_offer s.roads batch seat)
    → eqb (version_of batch.vehicles seat.vehicle) (version_of s.vehicles seat.vehicle) ≡ true → SameCopy s batch seat
same_copy desks s batch seat opened offered equal =
    let facts = seat_facts s.roads batch seat offered in
    let copied : find_vehicle batch.vehicles seat.vehicle ≡ Some facts.vehicle
    = ap (find_vehicle batch.vehicles) (sym facts.vehicle_id)
    ∙ found_by (λ (v : Vehicle). v.id) batch.vehicles facts.vehicle opened.fleet_fits.ids_differ facts.vehicle_there in
    let (w, found, goes_on) = later_of batch.vehicles s.vehicles seat.vehicle facts.vehicle opened.copies copied in
    let versions : facts.vehicle.version ≡ w.version
    = sym (version_of-found batch.vehicles seat.vehicle facts.vehicle copied) ∙ eqb-true (version_of batch.vehicles seat.vehicle)
    (version_of s.vehicles seat.vehicle) equal
    ∙ version_of-found s.vehicles seat.vehicle w found in
    record { vehicle = facts.vehicle; copied = copied; stands = found ∙ ap Some (sym (goes_on.same versions)) }

module _ (desks fed : ℕ) (ok : ℕ → Type 0) (start s : State) (begins : IsStart start) (inv : Inv desks fed ok start s)
    (batch : BatchCopy)
    (there : Among batch s.batches) (seats : List Seat) (seating : IsSeating s.roads batch seats) where
  -- the state on the way through the outcomes, where these rides are yet to come
  pub record Partway (t : State) (rides : List Ride) : Type 0 where
    pub goes : Goes desks fed ok start s t
    pub batches_are : t.batches ≡ (without_batch batch s).batches
    pub opened_is : t.opened ≡ s.opened
    pub requests_stand : (ride : Ride) → Among ride rides → find_request t.requests ride.id ≡ find_request s.requests ride.id
    pub vehicles_stand : (ride : Ride) → Among ride rides → (seat : Seat) → seat_of seats ride.id ≡ Some seat
        → find_vehicle t.vehicles seat.vehicle ≡ find_vehicle s.vehicles seat.vehicle

  -- one outcome changes the request of its ride and the vehicle of its seat alone
  pub record OneStep (t after : State) (id : ℕ) (seat : Option Seat) : Type 0 where
    pub goes : Goes desks fed ok start t after
    pub batches_are : after.batches ≡ t.batches
    pub opened_is : after.opened ≡ t.opened
    pub other_requests : (q : ℕ) → eqb q id ≡ false → find_request after.requests q ≡ find_request t.requests q
    pub other_vehicles : (k : ℕ) → ((other : Seat) → seat ≡ Some other → eqb other.vehicle k ≡ false)
        → find_vehicle after.vehicles k ≡ find_vehicle t.vehicles k
    pub keeps : (late : List ℕ) → AllKeep s.settings.dwell late t.vehicles → AllKeep s.settings.dwell late after.vehicles

  -- an outcome that changes nothing
  no_step : (t : State) (id : ℕ) (seat : Option Seat) → Inv desks fed ok start t → OneStep t t id seat
  no_step t id seat inv_t = record {
    goes = stays desks fed ok start t inv_t;
    batches_are = refl;
    opened_is = refl;
    other_requests = λ q differs. refl;
    other_vehicles = λ k differ. refl;
    keeps = λ late keep. keep;
  }

  -- no other batch holds a request of this one
  not_held : (t : State) (rides : List Ride) (was : AcceptedRequest) → Partway t rides → is_in_batch batch.number was.state ≡ true
      → (b : BatchCopy) → Among b t.batches → stays_in b.number was.state ≡ false
  not_held t rides was part within b b_there =
      in_batch-stays batch.number b.number was.state within
      (other_number desks fed ok start s batch b inv there (subst (Among b) part.batches_are b_there))

  -- the request of a ride closes, or waits again
  mark_step : (t : State) (rides : List Ride) (id : ℕ) (seat : Option Seat) (was : AcceptedRequest) (state : RequestState)
      → Partway t rides
      → find_request t.requests id ≡ Some was → is_in_batch batch.number was.state ≡ true → vehicle_of_request state ≡ None
      → OneStep t (with_request_state id state t) id seat
  mark_step t rides id seat was state part accepted within none =
      let inv_t = part.goes.inv in
      record {
        goes = marks_go desks fed fed ok start t (λ q. q == id) state (omega arith) inv_t (record {
          with_none = none;
          were_with_none = λ r r_there passes.
              ap (λ (x : AcceptedRequest). vehicle_of_request x.state)
              (only_request desks fed ok start t id was r inv_t accepted r_there passes)
              ∙ (in_batch-none batch.number was.state within).0;
          were_open = λ r r_there passes.
              ap (λ (x : AcceptedRequest). is_closed x.state) (only_request desks fed ok start t id was r inv_t accepted r_there passes)
              ∙ (in_batch-none batch.number was.state within).1;
          in_batches = λ b b_there r r_there passes is. absurd (cc (
            is,
            ap (λ (x : AcceptedRequest). stays_in b.number x.state)
                (only_request desks fed ok start t id was r inv_t accepted r_there passes),
            not_held t rides was part within b b_there,
          ));
        });
        batches_are = refl;
        opened_is = refl;
        other_requests = λ q differs. marked_elsewhere id q state t.requests differs;
        other_vehicles = λ k differ. refl;
        keeps = λ late keep. keep;
      }

  -- the vehicle of a confirmed seat gets the ride at the seat's places
  confirm_step : (t : State) (rides : List Ride) (ride : Ride) (state : RequestState) (seat : Seat) (place : ℕ) (v : Vehicle)
      → Partway t rides
      → IsOpenBatch desks s batch → Among ride batch.requests
      → find_request t.requests ride.id ≡ Some (record { ride = ride; state = state })
      → is_in_batch batch.number state ≡ true → Placed t.vehicles v.id place v → v.id ≡ seat.vehicle
      → find_vehicle batch.vehicles seat.vehicle ≡ Some v
      → find_vehicle s.vehicles seat.vehicle ≡ Some v
      → Confirming t.roads v ride (start_of v batch.settings.lead batch.time) seat.i seat.j batch.settings.dwell
      → OneStep t (with_request_state ride.id (ConfirmedState seat.vehicle) (with_vehicle t place (with_confirmed t batch ride seat v)))
      ride.id (Some seat)
  confirm_step t rides ride state seat place v part opened ride_there accepted within placed id_is copied stands c =
      let was : AcceptedRequest = record { ride = ride; state = state } in
      let inv_t = part.goes.inv in
      let new : Vehicle = raised (with_plan (ready_at (start_of v batch.settings.lead batch.time) v)
      (v.rides.items ++ ride ∷ []) c.out) in
      let new_is : with_confirmed t batch ride seat v ≡ new = with_confirmed-is t batch ride seat v copied c in
      let waits : ride.picked ≡ None = of_all (λ (r : Ride). r.picked ≡ None) batch.requests ride opened.over_map.rides_wait
      ride_there in
      let v_copied : Among v batch.vehicles = (found_among (λ (x : Vehicle). x.id == seat.vehicle) batch.vehicles v copied).0 in
      let v_in : Among v s.vehicles = (found_among (λ (x : Vehicle). x.id == seat.vehicle) s.vehicles v stands).0 in
      let fresh : IsFresh v.rides.items ride.id = of_all (λ (x : Vehicle). IsFresh x.rides.items ride.id) batch.vehicles v
      (of_all (λ (r : Ride). All (λ (x : Vehicle). IsFresh x.rides.items r.id) batch.vehicles) batch.requests ride
      opened.over_map.rides_fresh ride_there) v_copied in
      let none = in_batch-none batch.number state within in
      subst (λ w. OneStep t (with_request_state ride.id (ConfirmedState seat.vehicle) (with_vehicle t place w)) ride.id (Some seat))
      (sym new_is) (record {
        goes = move_goes desks fed fed ok start t place v new ride.id was (ConfirmedState seat.vehicle) begins inv_t placed (record {
          found = placed.found;
          accepted = accepted;
          was_with = inl none.0;
          was_open = none.1;
          id_is = refl;
          version_is = refl;
          lawful = lawful-raised t.roads (with_plan (ready_at (start_of v batch.settings.lead batch.time) v)
              (v.rides.items ++ ride ∷ []) c.out) c.lawful;
          few_stops = c.few_stops;
          rides_back = λ other other_there. back fresh waits id_is other (among_push_back v.rides.items ride other other_there);
          rides_kept = λ q differs q_there. subst (Among q) (sym (map-append (λ (r : Ride). r.id) v.rides.items (ride ∷ [])))
              (among_append (ride_ids v.rides.items) (ride.id ∷ []) q (inl q_there));
          is_with = λ k some. (
            id_is ∙ same_Some seat.vehicle k some,
            subst (Among ride.id) (sym (map-append (λ (r : Ride). r.id) v.rides.items (ride ∷ [])))
                (among_append (ride_ids v.rides.items) (ride.id ∷ []) ride.id (inr (inl refl))),
          );
          in_batches = λ b b_there was_in. absurd (cc (was_in, not_held t rides was part within b b_there));
        }) (omega arith) (omega (
          arith,
          inv.versions_fit v v_in,
          fewer-filter (others_of batch) s.batches batch there (ap not (is_batch-own batch)),
          ap length part.batches_are,
          part.opened_is,
        ));
        batches_are = refl;
        opened_is = refl;
        other_requests = λ q differs. marked_elsewhere ride.id q (ConfirmedState seat.vehicle) t.requests differs;
        other_vehicles = λ k differ.
            ap (λ vs. find_vehicle vs k) (placed.set_is new refl)
            ∙ put_elsewhere new k t.vehicles (ap (λ n. eqb n k) id_is ∙ differ seat refl);
        keeps = λ late keep.
            all_keep-placed s.settings.dwell late t.vehicles place v new placed refl keep
            (subst (λ (settings : Settings). Keeping settings.dwell late new) opened.settings_are
            (keeping-kept batch.settings.dwell late new c.kept));
      })
    where
      unpicked : ride.picked ≡ None → ride ≡ record ride { picked = None }
      unpicked waits = λ i. record ride { picked = waits i }

      promised_is : ride.picked ≡ None → v.id ≡ seat.vehicle → ConfirmedState seat.vehicle ≡ promised_state v.id ride.picked
      promised_is waits id_is = ap ConfirmedState (sym id_is) ∙ ap (promised_state v.id) (sym waits)

      back : IsFresh v.rides.items ride.id → ride.picked ≡ None → v.id ≡ seat.vehicle → (other : Ride)
          → Among other v.rides.items ⊎ (ride ≡ other)
          → ((eqb other.id ride.id ≡ false) × Among other v.rides.items)
          ⊎ ((eqb other.id ride.id ≡ true) × (record { ride = ride; state = ConfirmedState seat.vehicle } ≡ promised_as v.id other))
      back fresh waits id_is other (inl there) =
          inl (
            ne_eqb other.id ride.id (λ equal. fresh (contains_from_among (ride_ids v.rides.items) ride.id
                (subst (λ q. Among q (ride_ids v.rides.items)) equal (among_map (λ (r : Ride). r.id) v.rides.items other there)))),
            there,
          )
      back fresh waits id_is other (inr is) =
          inr (
            eq-eqb other.id ride.id (ap (λ (r : Ride). r.id) (sym is)),
            subst (λ (r : Ride). record { ride = ride; state = ConfirmedState seat.vehicle } ≡ promised_as v.id r) is
                (λ i. record { ride = unpicked waits i; state = promised_is waits id_is i }),
          )

  -- the seat of a ride
  seat_in : (ride : Ride) (seat : Seat) → seat_of seats ride.id ≡ Some seat → Among seat seats × (seat.request ≡ ride.id)
  seat_in ride seat is =
      let (among, same) = found_among (λ (x : Seat). x.request == ride.id) seats seat is in
      (among, eqb-true seat.request ride.id same)

  -- a confirmed outcome
  confirmed_step : (t : State) (rides : List Ride) (ride : Ride) (state : RequestState) (seat : Seat) → Partway t (ride ∷ rides)
      → IsOpenBatch desks s batch
      → Among ride batch.requests → find_request t.requests ride.id ≡ Some (record { ride = ride; state = state })
      → is_in_batch batch.number state ≡ true
      → seat_of seats ride.id ≡ Some seat → eqb (version_of batch.vehicles seat.vehicle) (version_of s.vehicles seat.vehicle) ≡ true
      → (o : Option (ℕ × Vehicle)) → placed_vehicle t seat.vehicle ≡ o → OneStep t (confirm batch ride seat o t) ride.id
      (Some seat)
  confirmed_step t rides ride state seat part opened ride_there accepted within seated equal None is = no_step t ride.id
      (Some seat) part.goes.inv
  confirmed_step t rides ride state seat part opened ride_there accepted within seated equal (Some (place, v)) is =
      let inv_t = part.goes.inv in
      let at = found_at desks fed ok start t place seat.vehicle v begins inv_t is in
      let (seat_there, request_is) = seat_in ride seat seated in
      let offered = of_all (λ (x : Seat). IsSome (seat_offer s.roads batch x)) seats seat seating.offered seat_there in
      let copy = same_copy desks s batch seat opened offered equal in
      let facts = seat_facts s.roads batch seat offered in
      let found_s : find_vehicle s.vehicles seat.vehicle ≡ Some v
      = sym (part.vehicles_stand ride (inl refl) seat seated) ∙ ap (find_vehicle t.vehicles) (sym at.id_is) ∙ at.placed.found in
      let copy_is : copy.vehicle ≡ v = same_Some copy.vehicle v (sym copy.stands ∙ found_s) in
      let copied : find_vehicle batch.vehicles seat.vehicle ≡ Some v = copy.copied ∙ ap Some copy_is in
      let vehicle_is : facts.vehicle ≡ v
      = same_Some facts.vehicle v (sym (found_by (λ (x : Vehicle). x.id) batch.vehicles facts.vehicle opened.fleet_fits.ids_differ
      facts.vehicle_there)
      ∙ ap (find_vehicle batch.vehicles) facts.vehicle_id ∙ copied) in
      let ride_is : facts.ride ≡ ride
      = same_Some facts.ride ride (sym (found_by (λ (x : Ride). x.id) batch.requests facts.ride opened.requests_differ facts.ride_there)
      ∙ ap (λ n. find (λ (x : Ride). x.id == n) batch.requests) (facts.ride_id ∙ request_is)
      ∙ found_by (λ (x : Ride). x.id) batch.requests ride opened.requests_differ ride_there) in
      let roads_are : s.roads ≡ t.roads = inv.roads_stay ∙ sym inv_t.roads_stay in
      let offer : offer_of t.roads batch.settings v ride batch.time seat.i seat.j ≡ Some facts.offer
      = ap (λ roads. offer_of roads batch.settings v ride batch.time seat.i seat.j) (sym roads_are)
      ∙ ap (λ r. offer_of s.roads batch.settings v r batch.time seat.i seat.j) (sym ride_is)
      ∙ ap (λ w. offer_of s.roads batch.settings w facts.ride batch.time seat.i seat.j) (sym vehicle_is) ∙ facts.offered in
      let v_copied : Among v batch.vehicles = (found_among (λ (x : Vehicle). x.id == seat.vehicle) batch.vehicles v copied).0 in
      let fresh : IsFresh v.rides.items ride.id = of_all (λ (x : Vehicle). IsFresh x.rides.items ride.id) batch.vehicles v
      (of_all (λ (r : Ride). All (λ (x : Vehicle). IsFresh x.rides.items r.id) batch.vehicles) batch.requests ride
      opened.over_map.rides_fresh ride_there) v_copied in
      let c = confirming t.roads batch.settings v ride batch.time seat.i seat.j facts.offer opened.over_map.settings_fit
      (inv_t.lawful v at.there)
      (subst (λ roads. IsRide roads ride) roads_are (of_all (IsRide s.roads) batch.requests ride opened.over_map.rides_fit ride_there))
      fresh
      (of_all (λ (r : Ride). r.picked ≡ None) batch.requests ride opened.over_map.rides_wait ride_there)
      (omega (arith, opened.in_time, inv.clock_fits)) offer in
      confirm_step t (ride ∷ rides) ride state seat place v part opened ride_there accepted within at.placed at.id_is copied found_s c

  -- what became of a request of the batch, by whether it was cancelled
  held_or_cancelled : (state : RequestState) → stays_in batch.number state ≡ true → is_cancelled state ≡ false
      → is_in_batch batch.number state ≡ true
  held_or_cancelled state stays_is not_cancelled =
      sym (ap (λ b. is_in_batch batch.number state || b) not_cancelled ∙ or-false (is_in_batch batch.number state)) ∙ stays_is

  -- the outcome of a ride with a seat
  seated_step : (t : State) (rides : List Ride) (ride : Ride) (state : RequestState) (seat : Seat) → Partway t (ride ∷ rides)
      → IsOpenBatch desks s batch
      → Among ride batch.requests → find_request t.requests ride.id ≡ Some (record { ride = ride; state = state })
      → is_in_batch batch.number state ≡ true
      → seat_of seats ride.id ≡ Some seat → (a b : Bool)
      → eqb (version_of batch.vehicles seat.vehicle) (version_of s.vehicles seat.vehicle) ≡ a
      → OneStep t (after_outcome batch ride (Some seat)
      (cond (not a) (Moved (version_of batch.vehicles seat.vehicle) (version_of s.vehicles seat.vehicle))
      (cond b (Behind (priced_start batch seat.vehicle) s.clock) Confirmed)) t)
      ride.id (Some seat)
  seated_step t rides ride state seat part opened ride_there accepted within seated false b equal =
      mark_step t (ride ∷ rides) ride.id (Some seat) (record { ride = ride; state = state }) WaitingState part accepted within refl
  seated_step t rides ride state seat part opened ride_there accepted within seated true true equal =
      mark_step t (ride ∷ rides) ride.id (Some seat) (record { ride = ride; state = state }) WaitingState part accepted within refl
  seated_step t rides ride state seat part opened ride_there accepted within seated true false equal =
      confirmed_step t rides ride state seat part opened ride_there accepted within seated equal (placed_vehicle t seat.vehicle) refl

  -- the outcome of a ride
  outcome_step : (t : State) (rides : List Ride) (ride : Ride) (state : RequestState) → Partway t (ride ∷ rides)
      → IsOpenBatch desks s batch
      → Among ride batch.requests → find_request t.requests ride.id ≡ Some (record { ride = ride; state = state })
      → (c : Bool) → (c ≡ false → is_in_batch batch.number state ≡ true) → (o : Option Seat) → seat_of seats ride.id ≡ o
      → OneStep t (after_outcome batch ride o (outcome_by batch s c o) t) ride.id o
  outcome_step t rides ride state part opened ride_there accepted true within o seated = no_step t ride.id o part.goes.inv
  outcome_step t rides ride state part opened ride_there accepted false within None seated =
      mark_step t (ride ∷ rides) ride.id None (record { ride = ride; state = state }) (AwayState batch.number) part accepted
      (within refl) refl
  outcome_step t rides ride state part opened ride_there accepted false within (Some seat) seated =
      seated_step t rides ride state seat part opened ride_there accepted (within refl) seated
      (eqb (version_of batch.vehicles seat.vehicle) (version_of s.vehicles seat.vehicle))
      (nat_lt (priced_start batch seat.vehicle) s.clock) refl

  -- seats of different rides have different vehicles
  other_seats : (first second : Ride) (a b : Seat) → eqb first.id second.id ≡ false → seat_of seats first.id ≡ Some a
      → seat_of seats second.id ≡ Some b
      → eqb a.vehicle b.vehicle ≡ false
  other_seats first second a b differ a_is b_is = by_test (eqb a.vehicle b.vehicle) refl
    where
      by_test : (c : Bool) → eqb a.vehicle b.vehicle ≡ c → c ≡ false
      by_test false is = refl
      by_test true is =
          let (a_there, a_request) = seat_in first a a_is in
          let (b_there, b_request) = seat_in second b b_is in
          let key = λ (x : Seat). x.vehicle in
          let equal : a ≡ b = same_Some a b (sym (found_by key seats a seating.vehicles_differ a_there)
          ∙ ap (λ n. find (λ (x : Seat). x.vehicle == n) seats) (eqb-true a.vehicle b.vehicle is)
          ∙ found_by key seats b seating.vehicles_differ b_there) in
          absurd (cc (differ, eq-eqb first.id second.id (sym a_request ∙ ap (λ (x : Seat). x.request) equal ∙ b_request)))

  -- what has become of a request of the batch
  cancelled_is : (ride : Ride) (state : RequestState) → find_request s.requests ride.id ≡ Some (record { ride = ride; state = state })
      → was_cancelled s ride.id ≡ is_cancelled state
  cancelled_is ride state found = rw found refl

  -- the ride that comes first
  first_step : (ride : Ride) (rides : List Ride) (t : State) → IsOpenBatch desks s batch → Among ride batch.requests
      → Partway t (ride ∷ rides)
      → OneStep t (after_outcome batch ride (seat_of seats ride.id) (outcome_of batch seats s ride.id) t) ride.id (seat_of seats ride.id)
  first_step ride rides t opened ride_there part =
      let within = of_all (IsInBatch s batch.number) batch.requests ride opened.requests_are ride_there in
      outcome_step t rides ride within.state part opened ride_there (part.requests_stand ride (inl refl) ∙ within.accepted)
      (was_cancelled s ride.id)
      (λ none. held_or_cancelled within.state within.in_or_cancelled (sym (cancelled_is ride within.state within.accepted) ∙ none))
      (seat_of seats ride.id) refl

  -- what is still to come is as it was
  next_part : (ride : Ride) (rides : List Ride) (t after : State) → IsDistinct nat_eq (ride_ids (ride ∷ rides))
      → Partway t (ride ∷ rides)
      → OneStep t after ride.id (seat_of seats ride.id) → Partway after rides
  next_part ride rides t after distinct part step =
      let differs : (other : Ride) → Among other rides → eqb ride.id other.id ≡ false
      = λ other other_there. of_each (λ k. eqb ride.id k ≡ false) (ride_ids rides) other.id
      (IsDistinct-head eqb ride.id (ride_ids rides) distinct) (among_map (λ (r : Ride). r.id) rides other other_there) in
      record {
        goes = goes_then desks fed fed fed ok start s t after part.goes step.goes;
        batches_are = step.batches_are ∙ part.batches_are;
        opened_is = step.opened_is ∙ part.opened_is;
        requests_stand = λ other other_there.
            step.other_requests other.id (eqb-comm other.id ride.id ∙ differs other other_there)
            ∙ part.requests_stand other (inr other_there);
        vehicles_stand = λ other other_there seat seated.
            step.other_vehicles seat.vehicle (λ own own_is. other_seats ride other own seat (differs other other_there) own_is seated)
            ∙ part.vehicles_stand other (inr other_there) seat seated;
      }

  -- all outcomes in turn
  outcomes_go : (rides : List Ride) (t : State) → IsOpenBatch desks s batch → IsDistinct nat_eq (ride_ids rides)
      → ((ride : Ride) → Among ride rides → Among ride batch.requests)
      → Partway t rides → Goes desks fed ok start t (after_outcomes batch seats s rides t)
  outcomes_go [] t opened distinct among part = stays desks fed ok start t part.goes.inv
  outcomes_go (ride ∷ rides) t opened distinct among part =
      let step = first_step ride rides t opened (among ride (inl refl)) part in
      let after : State = after_outcome batch ride (seat_of seats ride.id) (outcome_of batch seats s ride.id) t in
      goes_then desks fed fed fed ok start t after (after_outcomes batch seats s rides after) step.goes
      (outcomes_go rides after opened (IsDistinct-tail eqb ride.id (ride_ids rides) distinct)
      (λ other other_there. among other (inr other_there))
      (next_part ride rides t after distinct part step))

  -- after all outcomes the vehicles keep what they kept
  outcomes_keep : (rides : List Ride) (t : State) → IsOpenBatch desks s batch → IsDistinct nat_eq (ride_ids rides)
      → ((ride : Ride) → Among ride rides → Among ride batch.requests)
      → Partway t rides → (late : List ℕ) → AllKeep s.settings.dwell late t.vehicles
      → AllKeep s.settings.dwell late (after_outcomes batch seats s rides t).vehicles
  outcomes_keep [] t opened distinct among part late keep = keep
  outcomes_keep (ride ∷ rides) t opened distinct among part late keep =
      let step = first_step ride rides t opened (among ride (inl refl)) part in
      let after : State = after_outcome batch ride (seat_of seats ride.id) (outcome_of batch seats s ride.id) t in
      outcomes_keep rides after opened (IsDistinct-tail eqb ride.id (ride_ids rides) distinct)
      (λ other other_there. among other (inr other_there))
      (next_part ride rides t after distinct part step) late (step.keeps late keep)

  -- the state at which the outcomes begin
  first_part : Partway (without_batch batch s) batch.requests
  first_part = record {
    goes = record {
      inv = without_inv desks fed ok start s batch inv;
      earlier = all_earlier-same s.vehicles;
      closed_stay = λ id r found is.
          found;
    };
    batches_are = refl;
    opened_is = refl;
    requests_stand = λ ride ride_there. refl;
    vehicles_stand = λ ride ride_there seat seated. refl;
  }

  -- a commit
  pub committed_goes : Goes desks fed ok start s (after_commit batch seats s)
  committed_goes =
      let opened = inv.batches_fit batch there in
      let last : State = after_outcomes batch seats s batch.requests (without_batch batch s) in
      subst (Goes desks fed ok start s) (without-outcomes batch seats s batch.requests s)
      (goes_then desks fed fed fed ok start s (without_batch batch s) last first_part.goes
      (outcomes_go batch.requests (without_batch batch s) opened opened.requests_differ (λ ride ride_there. ride_there) first_part))

  -- after a commit the vehicles keep what they kept
  pub committed_keeps : (late : List ℕ) → AllKeep s.settings.dwell late s.vehicles
      → AllKeep s.settings.dwell late (after_commit batch seats s).vehicles
  committed_keeps late keep =
      let opened = inv.batches_fit batch there in
      subst (λ (x : State). AllKeep s.settings.dwell late x.vehicles) (without-outcomes batch seats s batch.requests s)
      (outcomes_keep batch.requests (without_batch batch s) opened opened.requests_differ (λ ride ride_there. ride_there) first_part
      late keep)

  -- a request that is turned away is closed from then on
  away_after : (rides : List Ride) (t : State) → IsOpenBatch desks s batch → IsDistinct nat_eq (ride_ids rides)
      → ((ride : Ride) → Among ride rides → Among ride batch.requests)
      → Partway t rides → (ride : Ride) → Among ride rides → outcome_of batch seats s ride.id ≡ Away
      → find_request (after_outcomes batch seats s rides t).requests ride.id ≡ Some
      (record { ride = ride; state = AwayState batch.number })
  away_after [] t opened distinct among part ride ride_there is = absurd ride_there
  away_after (first ∷ rides) t opened distinct among part ride (inl same) is =
      let step = first_step first rides t opened (among first (inl refl)) part in
      let after : State = after_outcome batch first (seat_of seats first.id) (outcome_of batch seats s first.id) t in
      let goes = outcomes_go rides after opened (IsDistinct-tail eqb first.id (ride_ids rides) distinct)
      (λ other other_there. among other (inr other_there))
      (next_part first rides t after distinct part step) in
      let within = of_all (IsInBatch s batch.number) batch.requests first opened.requests_are (among first (inl refl)) in
      let away : outcome_of batch seats s first.id ≡ Away = ap (λ (r : Ride). outcome_of batch seats s r.id) same ∙ is in
      let after_is : after ≡ with_request_state first.id
      (AwayState batch.number) t = ap (λ o. after_outcome batch first (seat_of seats first.id) o t) away in
      subst (λ (r : Ride). find_request (after_outcomes batch seats s rides after).requests r.id ≡ Some
      (record { ride = r; state = AwayState batch.number })) same
      (goes.closed_stay first.id (record { ride = first; state = AwayState batch.number })
      (ap (λ (x : State). find_request x.requests first.id) after_is
      ∙ marked_here first.id (AwayState batch.number) t.requests (record { ride = first; state = within.state })
      (part.requests_stand first (inl refl) ∙ within.accepted)) refl)
  away_after (first ∷ rides) t opened distinct among part ride (inr later) is =
      let step = first_step first rides t opened (among first (inl refl)) part in
      let after : State = after_outcome batch first (seat_of seats first.id) (outcome_of batch seats s first.id) t in
      away_after rides after opened (IsDistinct-tail eqb first.id (ride_ids rides) distinct)
      (λ other other_there. among other (inr other_there))
      (next_part first rides t after distinct part step) ride later is

  -- a request that a commit turns away is away after it
  pub away_stands : (ride : Ride) → Among ride batch.requests → outcome_of batch seats s ride.id ≡ Away
      → find_request (after_commit batch seats s).requests ride.id ≡ Some (record { ride = ride; state = AwayState batch.number })
  away_stands ride ride_there is =
      let opened = inv.batches_fit batch there in
      subst (λ (x : State). find_request x.requests ride.id ≡ Some (record { ride = ride; state = AwayState batch.number }))
      (without-outcomes batch seats s batch.requests s)
      (away_after batch.requests (without_batch batch s) opened opened.requests_differ (λ other other_there. other_there) first_part ride
      ride_there is)
