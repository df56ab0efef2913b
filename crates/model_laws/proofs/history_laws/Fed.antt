-- What is kept is kept by each command that a feed gives.
use Rattle.model_laws.proofs.Common.{◌≡◌, ℕ, ◌+◌, ◌≤◌, ◌||◌, ◌⊎◌, Bool, true, false, not, cond, inl, inr, List, [], ◌∷◌, length, eqb, ltb-false, refl, sym, ◌∙◌, ap, subst, arith, Contains, Option, Some, None, slice_set, ◌==◌, nat_lt, eqb-true, not-true, or_parts, not-false, same_Some, RequestState, InBatch, Aboard, Away, Kind, Pickup, Dropoff, Ride, Stop, Vehicle, travel, routed, without_ride, rides_without, State, AcceptedRequest, accepted_request, placed_vehicle, with_vehicle, with_request_state, Answered, is_node, raised, cancelled, freed, cancel_by_state, cancel_found, reported, report, report_driving, at_found, rides_with_picked, served, served_state, done_at_stop, done_found, duty_found, IsPlanFor, ride_ids, IsStart, is_closed, promised_state, promised_as, vehicle_of_request}
use Rattle.ride_model.specs.declared.reply.RequestState.TheVariants.{Waiting as WaitingState, Confirmed, Done as DoneState, Cancelled as CancelledState}
use Rattle.model_laws.proofs.plain.Among.{Among, among_from_contains, among_map, among_map_back, among_filter, among_filter_back, found_among}
use Rattle.model_laws.proofs.plain.Each.{of_all}
use Rattle.model_laws.proofs.PlanStops.{ids-without}
use Rattle.model_laws.proofs.Removal.{lawful-without}
use Rattle.model_laws.proofs.Routes.{with_leg}
use Rattle.model_laws.proofs.history_laws.Lookups.{ids-map, Placed, placed_is}
use Rattle.model_laws.proofs.history_laws.Earlier.{all_earlier-same}
use Rattle.model_laws.proofs.history_laws.Invariant.{find_request, Inv, Goes, map_of, fleet_of}
use Rattle.model_laws.proofs.history_laws.Changes.{stays_in, open_batch-later}
use Rattle.model_laws.proofs.history_laws.Marks.{marks_go, turn_goes, vehicle_of-promised}
use Rattle.model_laws.proofs.history_laws.Moves.{only_request, move_goes}
use Rattle.model_laws.proofs.history_laws.Raised.{lawful-version, lawful-raised, node_is, placed_at, reported-is, lawful-placed, routed-first, few_stops-without}
use Rattle.model_laws.proofs.history_laws.Served.{picked_up, picked_up-id, lawful-picked, lawful-dropped}

-- a state that differs in its clock or in how many batches were asked for
pub still_goes : (desks fed : ℕ) (ok : ℕ → Type 0) (start s : State) (clock asked : ℕ) → Inv desks fed ok start s
    → s.clock ≤ clock → clock ≤ 1000000000
    → s.asked ≤ asked → asked ≤ 2000 → Goes desks (fed + 1) ok start s (record s { clock = clock; asked = asked })
still_goes desks fed ok start s clock asked inv later fits more few = record {
  inv = record {
    roads_stay = inv.roads_stay;
    settings_stay = inv.settings_stay;
    fleet_stays = inv.fleet_stays;
    clock_fits = fits;
    few_asked = few;
    few_opened = omega (arith, inv.few_opened, more);
    few_requests = inv.few_requests;
    requests_differ = inv.requests_differ;
    requests_fit = inv.requests_fit;
    requests_wait = inv.requests_wait;
    ids_ok = inv.ids_ok;
    lawful = inv.lawful;
    few_stops = inv.few_stops;
    promised = inv.promised;
    with_vehicles = inv.with_vehicles;
    versions_fit = λ v there. omega (arith, inv.versions_fit v there);
    batches_fit = λ b there.
        open_batch-later desks s (record s { clock = clock; asked = asked }) b refl refl later (omega arith) (all_earlier-same s.vehicles)
        (λ ride within. record { state = within.state; accepted = within.accepted; in_or_cancelled = within.in_or_cancelled })
        (inv.batches_fit b there);
    numbers_differ = inv.numbers_differ;
    desks_differ = inv.desks_differ;
  };
  earlier = all_earlier-same s.vehicles;
  closed_stay = λ id r found is. found;
}

-- a refusal
pub refused_goes : (desks fed : ℕ) (ok : ℕ → Type 0) (start s : State) → Inv desks fed ok start s
    → Goes desks (fed + 1) ok start s s
refused_goes desks fed ok start s inv =
    still_goes desks fed ok start s s.clock s.asked inv (omega arith) inv.clock_fits (omega arith) inv.few_asked

-- on and off duty
pub duty_goes : (desks fed : ℕ) (ok : ℕ → Type 0) (start s : State) (duty : Bool) (vehicle : ℕ) → IsStart start
    → Inv desks fed ok start s
    → (o : Option (ℕ × Vehicle)) → placed_vehicle s vehicle ≡ o → Goes desks (fed + 1) ok start s (duty_found s duty o).state
duty_goes desks fed ok start s duty vehicle begins inv None is = refused_goes desks fed ok start s inv
duty_goes desks fed ok start s duty vehicle begins inv (Some (place, v)) is =
    let at = placed_is s.vehicles vehicle place v (fleet_of desks fed ok start s begins inv).ids_differ is in
    let (there, id_eqb) = found_among (λ (w : Vehicle). w.id == vehicle) s.vehicles v at.found in
    let id_is : v.id ≡ vehicle = eqb-true v.id vehicle id_eqb in
    let placed = subst (λ k. Placed s.vehicles k place v) (sym id_is) at in
    turn_goes desks fed ok start s place v (raised (record v { duty = duty })) begins inv placed (record {
      found = placed.found;
      id_is = refl;
      version_is = refl;
      rides_are = refl;
      lawful = lawful-version s.roads v (v.version + 1) duty (inv.lawful v there);
      few_stops = inv.few_stops v there;
    })

-- a report
module _ (desks fed : ℕ) (ok : ℕ → Type 0) (start s : State) (begins : IsStart start) (inv : Inv desks fed ok start s) where
  -- a vehicle is at a node, with its stops routed from there
  placed_goes : (place node time : ℕ) (v : Vehicle) (out : List Stop) → Placed s.vehicles v.id place v → Among v s.vehicles
      → is_node s.roads node ≡ true
      → time ≤ 1000000000 → v.ready ≤ time → routed s.roads node v.stops.items ≡ Some out
      → length out ≡ length v.stops.items
      → Goes desks (fed + 1) ok start s (record s { vehicles = slice_set s.vehicles place (reported s node time v) })
  placed_goes place node time v out placed there node_in in_time later is few =
      subst (λ w. Goes desks (fed + 1) ok start s (record s { vehicles = slice_set s.vehicles place w }))
      (sym (reported-is s node time v out is))
      (turn_goes desks fed ok start s place v (raised (placed_at node time out v)) begins inv placed (record {
        found = placed.found;
        id_is = refl;
        version_is = refl;
        rides_are = refl;
        lawful = lawful-raised s.roads (placed_at node time out v)
            (lawful-placed s.roads node time v out (inv.lawful v there) (node_is s.roads node node_in) later in_time is);
        few_stops = omega (arith, few, inv.few_stops v there);
      }))

  -- a report by the stops of the vehicle
  report_goes : (place node time : ℕ) (v : Vehicle) → Placed s.vehicles v.id place v → Among v s.vehicles
      → is_node s.roads node ≡ true
      → time ≤ 1000000000 → v.ready ≤ time → (stops : List Stop) → v.stops.items ≡ stops
      → Goes desks (fed + 1) ok start s (report s place v (reported s node time v) stops).state
  report_goes place node time v placed there node_in in_time later [] is =
      placed_goes place node time v [] placed there node_in in_time later (ap (routed s.roads node) is) (ap length (sym is))
  report_goes place node time v placed there node_in in_time later (first ∷ rest) is =
      driving (travel s.roads node first.node) refl
    where
      driving : (o : Option ℕ) → travel s.roads node first.node ≡ o
          → Goes desks (fed + 1) ok start s (report_driving s place v (reported s node time v) (v.ready + first.leg) o).state
      driving None way = refused_goes desks fed ok start s inv
      driving (Some leg) way =
          placed_goes place node time v (with_leg leg first ∷ rest) placed there node_in in_time later
          (routed-first s.roads v node leg first rest (inv.lawful v there).routed is way) (ap length (sym is))

-- what holds of both answers holds of the one that a test chooses
pub answer_by : (P : Answered → Type 0) (b : Bool) (x y : Answered) → (b ≡ true → P x) → (b ≡ false → P y) → P (cond b x y)
answer_by P true x y h k = h refl
answer_by P false x y h k = k refl

-- the same of their states
pub cond_goes : (P : State → Type 0) (b : Bool) (x y : Answered) → (b ≡ true → P x.state) → (b ≡ false → P y.state)
    → P (cond b x y).state
cond_goes P b x y h k = answer_by (λ (answer : Answered). P answer.state) b x y h k

-- a found vehicle with its place
pub record Found (s : State) (place vehicle : ℕ) (v : Vehicle) : Type 0 where
  pub there : Among v s.vehicles
  pub id_is : v.id ≡ vehicle
  pub placed : Placed s.vehicles v.id place v

-- the vehicle that was found
pub found_at : (desks fed : ℕ) (ok : ℕ → Type 0) (start s : State) (place vehicle : ℕ) (v : Vehicle) → IsStart start
    → Inv desks fed ok start s
    → placed_vehicle s vehicle ≡ Some (place, v) → Found s place vehicle v
found_at desks fed ok start s place vehicle v begins inv is =
    let at = placed_is s.vehicles vehicle place v (fleet_of desks fed ok start s begins inv).ids_differ is in
    let (there, id_eqb) = found_among (λ (w : Vehicle). w.id == vehicle) s.vehicles v at.found in
    let id_is : v.id ≡ vehicle = eqb-true v.id vehicle id_eqb in
    record { there = there; id_is = id_is; placed = subst (λ k. Placed s.vehicles k place v) (sym id_is) at }

-- a report of a vehicle that is there or not
pub at_goes : (desks fed : ℕ) (ok : ℕ → Type 0) (start s : State) (node time vehicle : ℕ) → IsStart start
    → Inv desks fed ok start s
    → (o : Option (ℕ × Vehicle)) → placed_vehicle s vehicle ≡ o → Goes desks (fed + 1) ok start s (at_found s node time o).state
at_goes desks fed ok start s node time vehicle begins inv None is = refused_goes desks fed ok start s inv
at_goes desks fed ok start s node time vehicle begins inv (Some (place, v)) is =
    let at = found_at desks fed ok start s place vehicle v begins inv is in
    cond_goes (Goes desks (fed + 1) ok start s) (not (is_node s.roads node)) _ _ (λ _. refused_goes desks fed ok start s inv) (λ node_in.
    cond_goes (Goes desks (fed + 1) ok start s) (nat_lt 1000000000 time) _ _ (λ _. refused_goes desks fed ok start s inv) (λ in_time.
    cond_goes (Goes desks (fed + 1) ok start s) (nat_lt time v.ready) _ _ (λ _. refused_goes desks fed ok start s inv) (λ later.
    report_goes desks fed ok start s begins inv place node time v at.placed at.there (not-false (is_node s.roads node) node_in)
    (ltb-false 1000000000 time in_time) (ltb-false time v.ready later) v.stops.items refl)))

-- a cancellation
abbrev is_id : ℕ → ℕ → Bool
is_id id q = q == id

-- a request that no vehicle has promised is cancelled
cancelled_goes : (desks fed : ℕ) (ok : ℕ → Type 0) (start s : State) (id : ℕ) (was : AcceptedRequest) → Inv desks fed ok start s
    → find_request s.requests id ≡ Some was → vehicle_of_request was.state ≡ None → is_closed was.state ≡ false
    → Goes desks (fed + 1) ok start s (cancelled s id).state
cancelled_goes desks fed ok start s id was inv accepted none open_still =
    marks_go desks fed (fed + 1) ok start s (is_id id) CancelledState (omega arith) inv (record {
      with_none = refl;
      were_with_none = λ r there passes.
          ap (λ (x : AcceptedRequest). vehicle_of_request x.state) (only_request desks fed ok start s id was r inv accepted there passes)
          ∙ none;
      were_open = λ r there passes.
          ap (λ (x : AcceptedRequest). is_closed x.state) (only_request desks fed ok start s id was r inv accepted there passes)
          ∙ open_still;
      in_batches = λ b b_there r there passes is. refl;
    })

-- the ids that are left without one
ids_left : (id q : ℕ) (rides : List Ride) → eqb q id ≡ false → Among q (ride_ids rides)
    → Among q (ride_ids (rides_without id rides))
ids_left id q rides differs there =
    subst (Among q) (sym (ids-without id rides)) (among_filter (λ n. not (eqb n id)) (ride_ids rides) q there (ap not differs))

-- a request that a vehicle has promised is cancelled
freed_goes : (desks fed : ℕ) (ok : ℕ → Type 0) (start s : State) (id vehicle : ℕ) (was : AcceptedRequest) → IsStart start
    → Inv desks fed ok start s
    → find_request s.requests id ≡ Some was → was.state ≡ Confirmed vehicle → (o : Option (ℕ × Vehicle))
    → placed_vehicle s vehicle ≡ o
    → Goes desks (fed + 1) ok start s (freed s id vehicle o).state
freed_goes desks fed ok start s id vehicle was begins inv accepted confirmed None is = refused_goes desks fed ok start s inv
freed_goes desks fed ok start s id vehicle was begins inv accepted confirmed (Some (place, v)) is =
    let at = found_at desks fed ok start s place vehicle v begins inv is in
    let fits = map_of desks fed ok start s begins inv in
    let lawful = inv.lawful v at.there in
    move_goes desks fed (fed + 1) ok start s place v (raised (without_ride s.roads v id)) id was CancelledState begins inv at.placed (record {
      found = at.placed.found;
      accepted = accepted;
      was_with = inr (ap vehicle_of_request confirmed ∙ ap Some (sym at.id_is));
      was_open = ap is_closed confirmed;
      id_is = refl;
      version_is = refl;
      lawful = lawful-raised s.roads (without_ride s.roads v id) (lawful-without s.roads v id fits lawful);
      few_stops = omega (arith, few_stops-without s.roads v id fits lawful, inv.few_stops v at.there);
      rides_back = λ ride there.
          let (ride_there, other) = among_filter_back (λ (r : Ride). not (r.id == id)) v.rides.items ride there in
          inl (not-true (eqb ride.id id) other, ride_there);
      rides_kept = λ q differs there. ids_left id q v.rides.items differs there;
      is_with = λ k none. absurd (cc none);
      in_batches = λ b b_there was_in. refl;
    }) (omega arith) (omega (arith, inv.versions_fit v at.there))

-- a cancellation by what has become of the request
by_state_goes : (desks fed : ℕ) (ok : ℕ → Type 0) (start s : State) (id : ℕ) (was : AcceptedRequest) → IsStart start
    → Inv desks fed ok start s
    → find_request s.requests id ≡ Some was → (state : RequestState) → was.state ≡ state
    → Goes desks (fed + 1) ok start s (cancel_by_state s id state).state
by_state_goes desks fed ok start s id was begins inv accepted (Aboard _) is = refused_goes desks fed ok start s inv
by_state_goes desks fed ok start s id was begins inv accepted DoneState is = refused_goes desks fed ok start s inv
by_state_goes desks fed ok start s id was begins inv accepted (Away _) is = refused_goes desks fed ok start s inv
by_state_goes desks fed ok start s id was begins inv accepted CancelledState is = refused_goes desks fed ok start s inv
by_state_goes desks fed ok start s id was begins inv accepted WaitingState is =
    cancelled_goes desks fed ok start s id was inv accepted (ap vehicle_of_request is) (ap is_closed is)
by_state_goes desks fed ok start s id was begins inv accepted (InBatch n) is =
    cancelled_goes desks fed ok start s id was inv accepted (ap vehicle_of_request is) (ap is_closed is)
by_state_goes desks fed ok start s id was begins inv accepted (Confirmed vehicle) is =
    freed_goes desks fed ok start s id vehicle was begins inv accepted is (placed_vehicle s vehicle) refl

-- a cancellation of a request that is there or not
pub cancel_goes : (desks fed : ℕ) (ok : ℕ → Type 0) (start s : State) (id : ℕ) → IsStart start → Inv desks fed ok start s
    → (o : Option AcceptedRequest) → accepted_request s id ≡ o → Goes desks (fed + 1) ok start s (cancel_found s id o).state
cancel_goes desks fed ok start s id begins inv None is = refused_goes desks fed ok start s inv
cancel_goes desks fed ok start s id begins inv (Some was) is = by_state_goes desks fed ok start s id was begins inv is was.state refl

-- a request that a vehicle has promised is in no batch and not closed
promised-stays : (number vehicle : ℕ) (picked : Option ℕ) → stays_in number (promised_state vehicle picked) ≡ false
promised-stays number vehicle None = refl
promised-stays number vehicle (Some at) = refl

-- a promised request is open
pub promised-open : (vehicle : ℕ) (picked : Option ℕ) → is_closed (promised_state vehicle picked) ≡ false
promised-open vehicle None = refl
promised-open vehicle (Some at) = refl

-- the ride of a vehicle's stop
pub record StopRide (s : State) (v : Vehicle) (stop : Stop) : Type 0 where
  pub ride : Ride
  pub there : Among ride v.rides.items
  pub id_is : ride.id ≡ stop.ride
  pub accepted : find_request s.requests stop.ride ≡ Some (promised_as v.id ride)

-- each stop of a vehicle has its ride
pub stop_ride : (desks fed : ℕ) (ok : ℕ → Type 0) (start s : State) (v : Vehicle) (stop : Stop) (rest : List Stop)
    → Inv desks fed ok start s
    → Among v s.vehicles → v.stops.items ≡ stop ∷ rest → StopRide s v stop
stop_ride desks fed ok start s v stop rest inv v_there is =
    let plan : IsPlanFor v.rides.items (stop ∷ rest) = subst (IsPlanFor v.rides.items) is (inv.lawful v v_there).routed.planned in
    let among = among_from_contains (ride_ids v.rides.items) stop.ride
    (of_all (λ (x : Stop). Contains (ride_ids v.rides.items) x.ride) (stop ∷ rest) stop plan.each_stop (inl refl)) in
    let (ride, there, id_is) = among_map_back (λ (r : Ride). r.id) v.rides.items stop.ride among in
    record {
      ride = ride;
      there = there;
      id_is = id_is;
      accepted = ap (find_request s.requests) (sym id_is)
          ∙ inv.promised v v_there ride there;
    }

-- a served stop
module _ (desks fed : ℕ) (ok : ℕ → Type 0) (start s : State) (begins : IsStart start) (inv : Inv desks fed ok start s)
    (place vehicle : ℕ)
    (v : Vehicle) (at : Found s place vehicle v) (stop : Stop) (rest : List Stop) (stops_are : v.stops.items ≡ stop ∷ rest)
    (at_stop : v.at ≡ stop.node) (in_time : v.ready + s.settings.dwell ≤ 1000003600) where
  -- a served stop by its kind
  served_goes : (kind : Kind) → stop.kind ≡ kind
      → Goes desks (fed + 1) ok start s (with_request_state stop.ride (served_state v kind)
      (with_vehicle s place (raised (served s.settings.dwell v stop rest kind))))
  served_goes Pickup kind_is =
      let of_stop = stop_ride desks fed ok start s v stop rest inv at.there stops_are in
      let ids_same : ride_ids (rides_with_picked stop.ride v.ready v.rides.items) ≡ ride_ids v.rides.items
      = ids-map (λ (r : Ride). r.id) (picked_up stop.ride v.ready) (picked_up-id stop.ride v.ready) v.rides.items in
      move_goes desks fed (fed + 1) ok start s place v (raised (served s.settings.dwell v stop rest Pickup)) stop.ride
      (promised_as v.id of_stop.ride)
      (Aboard v.id) begins inv at.placed (record {
        found = at.placed.found;
        accepted = of_stop.accepted;
        was_with = inr (vehicle_of-promised v.id of_stop.ride.picked);
        was_open = promised-open v.id of_stop.ride.picked;
        id_is = refl;
        version_is = refl;
        lawful = lawful-raised s.roads (served s.settings.dwell v stop rest Pickup)
            (lawful-picked s.roads v stop rest s.settings.dwell (inv.lawful v at.there) stops_are at_stop in_time kind_is);
        few_stops = omega (arith, inv.few_stops v at.there, ap length stops_are);
        rides_back = λ new there.
            let (ride, ride_there, is) = among_map_back (picked_up stop.ride v.ready) v.rides.items new there in
            subst (λ (x : Ride). ((eqb x.id stop.ride ≡ false) × Among x v.rides.items)
            ⊎ ((eqb x.id stop.ride ≡ true) × (record (promised_as v.id of_stop.ride) { state = Aboard v.id } ≡ promised_as v.id x)))
            is
            (picked_back of_stop ride ride_there (eqb ride.id stop.ride) refl);
        rides_kept = λ q differs there. subst (Among q) (sym ids_same) there;
        is_with = λ k some. (
          same_vehicle k some,
          subst (Among stop.ride) (sym ids_same)
              (subst (λ q. Among q (ride_ids v.rides.items)) of_stop.id_is
              (among_map (λ (r : Ride). r.id) v.rides.items of_stop.ride of_stop.there)),
        );
        in_batches = λ b b_there was_in. absurd (cc (was_in, promised-stays b.number v.id of_stop.ride.picked));
      }) (omega arith) (omega (arith, inv.versions_fit v at.there))
    where
      same_vehicle : (k : ℕ) → Some v.id ≡ Some k → v.id ≡ k
      same_vehicle k e = cc e

      picked_back : (of_stop : StopRide s v stop) (ride : Ride) → Among ride v.rides.items → (b : Bool) → eqb ride.id stop.ride ≡ b
          → ((eqb (cond b (record ride { picked = Some v.ready }) ride).id stop.ride ≡ false)
          × Among (cond b (record ride { picked = Some v.ready }) ride) v.rides.items)
          ⊎ ((eqb (cond b (record ride { picked = Some v.ready }) ride).id stop.ride ≡ true)
          × (record (promised_as v.id of_stop.ride) { state = Aboard v.id } ≡ promised_as v.id
          (cond b (record ride { picked = Some v.ready }) ride)))
      picked_back of_stop ride there true is =
          let equal : promised_as v.id of_stop.ride ≡ promised_as v.id ride
          = same_Some (promised_as v.id of_stop.ride) (promised_as v.id ride)
          (sym of_stop.accepted ∙ ap (find_request s.requests) (sym (eqb-true ride.id stop.ride is))
          ∙ inv.promised v at.there ride there) in
          inr (is, ap (λ (x : AcceptedRequest). record x { state = Aboard v.id }) equal)
      picked_back of_stop ride there false is = inl (is, there)
  served_goes Dropoff kind_is =
      let of_stop = stop_ride desks fed ok start s v stop rest inv at.there stops_are in
      move_goes desks fed (fed + 1) ok start s place v (raised (served s.settings.dwell v stop rest Dropoff)) stop.ride
      (promised_as v.id of_stop.ride)
      DoneState begins inv at.placed (record {
        found = at.placed.found;
        accepted = of_stop.accepted;
        was_with = inr (vehicle_of-promised v.id of_stop.ride.picked);
        was_open = promised-open v.id of_stop.ride.picked;
        id_is = refl;
        version_is = refl;
        lawful = lawful-raised s.roads (served s.settings.dwell v stop rest Dropoff)
            (lawful-dropped s.roads v stop rest s.settings.dwell (inv.lawful v at.there) stops_are at_stop in_time kind_is);
        few_stops = omega (arith, inv.few_stops v at.there, ap length stops_are);
        rides_back = λ ride there.
            let (ride_there, other) = among_filter_back (λ (r : Ride). not (r.id == stop.ride)) v.rides.items ride there in
            inl (not-true (eqb ride.id stop.ride) other, ride_there);
        rides_kept = λ q differs there. ids_left stop.ride q v.rides.items differs there;
        is_with = λ k none. absurd (cc none);
        in_batches = λ b b_there was_in. absurd (cc (was_in, promised-stays b.number v.id of_stop.ride.picked));
      }) (omega arith) (omega (arith, inv.versions_fit v at.there))

-- the first of these stops is served
done_at_goes : (desks fed : ℕ) (ok : ℕ → Type 0) (start s : State) (place vehicle : ℕ) (v : Vehicle) → IsStart start
    → Inv desks fed ok start s
    → Found s place vehicle v → (stops : List Stop) → v.stops.items ≡ stops
    → Goes desks (fed + 1) ok start s (done_at_stop s place v stops).state
done_at_goes desks fed ok start s place vehicle v begins inv at [] is = refused_goes desks fed ok start s inv
done_at_goes desks fed ok start s place vehicle v begins inv at (stop ∷ rest) is =
    cond_goes (Goes desks (fed + 1) ok start s) (not (eqb v.at stop.node)) _ _ (λ _. refused_goes desks fed ok start s inv) (λ at_stop.
    cond_goes (Goes desks (fed + 1) ok start s) (nat_lt 1000003600 (v.ready + s.settings.dwell)) _ _
    (λ _. refused_goes desks fed ok start s inv) (λ in_time.
    served_goes desks fed ok start s begins inv place vehicle v at stop rest is
    (eqb-true v.at stop.node (not-false (eqb v.at stop.node) at_stop))
    (ltb-false 1000003600 (v.ready + s.settings.dwell) in_time) stop.kind refl))

-- a served stop of a vehicle that is there or not
pub done_goes : (desks fed : ℕ) (ok : ℕ → Type 0) (start s : State) (vehicle : ℕ) → IsStart start → Inv desks fed ok start s
    → (o : Option (ℕ × Vehicle)) → placed_vehicle s vehicle ≡ o → Goes desks (fed + 1) ok start s (done_found s o).state
done_goes desks fed ok start s vehicle begins inv None is = refused_goes desks fed ok start s inv
done_goes desks fed ok start s vehicle begins inv (Some (place, v)) is =
    done_at_goes desks fed ok start s place vehicle v begins inv (found_at desks fed ok start s place vehicle v begins inv is) v.stops.items
    refl
