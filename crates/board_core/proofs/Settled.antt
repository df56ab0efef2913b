-- A commit, request by request.
use Rattle.board_core.proofs.Common.{◌≡◌, ℕ, zero, suc, ◌+◌, ◌<◌, ◌≤◌, ◌^◌, Bool, true, false, not, ◌&&◌, cond, inl, inr, List, [], ◌∷◌, ◌++◌, length, drop, get_or, eqb, leb, leb-true, refl, sym, ◌∙◌, ap, subst, arith, add-one, ◌==◌, map, max, Some, None, option_map, unwrap_or, find, slice_set, All, Contains, IsSomeAnd, MatchOption, IsDistinct, list_all, enumerate_from, IsDistinct-head, IsDistinct-tail, eqb-true, eq-eqb, ne_eqb, and_parts, length-map, get_or-map, Contains-get_or, same_Some, Outcome, Confirmed, Moved, Offer, Seat, Ride, Vehicle, seat_of, version_of, priced_start, was_cancelled, outcome_by, outcome_of, after_outcome, after_outcomes, with_confirmed, with_plan, inserted, stops_with, keeps_ride, loads_fit, is_idle, start_of, price, RoadMap, BatchCopy, find_vehicle, vehicle_ids, State, raised, IsLawful, IsRide, ride_ids, IsFresh, Among, among_from_contains, contains_from_among, found_among, of_each, of_all, SolvedBatch, cell_at, IsLeastOffer, same-place, find-id, element, HasPlaces, places-of, InsertsInto, IsEarlier, AreEarlier, found_by, ids-map, placed_is, put, put-id, Service, Given, placed_in, HasRoomAbove, started, IsCommitted, IsSettledTo, IsToConfirm}
use Rattle.model_laws.proofs.Costs.{OfferPlan, offer_plan}
use Rattle.model_laws.proofs.Insertions.{InsertedFacts, inserted_facts, length-stops_with}
use Rattle.model_laws.proofs.PlanStops.{unlegged-routed}
use Rattle.model_laws.proofs.AboardLoads.{length-same}
use Rattle.model_laws.proofs.Starts.{start-later}
use Rattle.model_laws.proofs.FewRides.{few-rides}
use Rattle.model_laws.proofs.history_laws.Earlier.{later_of}
use Rattle.model_laws.proofs.history_laws.Confirming.{ready_at, start-fits, version_of-found, priced_start-found, routed-ready}
use Rattle.model_laws.proofs.history_laws.Committing.{put_elsewhere}

-- earlier records have the same ids
pub earlier-ids : (earliers laters : List Vehicle) → AreEarlier earliers laters → vehicle_ids earliers ≡ vehicle_ids laters
earlier-ids [] [] h = refl
earlier-ids [] (l ∷ laters) h = absurd h
earlier-ids (e ∷ earliers) [] h = absurd h
earlier-ids (e ∷ earliers) (l ∷ laters) (first, rest) = λ i. first.id_is i ∷ earlier-ids earliers laters rest i

-- what is among the rides from the next place on is among those from the place on
among-drop : (ids : List ℕ) (place : ℕ) (id : ℕ) → Among id (drop (suc place) ids) → Among id (drop place ids)
among-drop [] place id there = absurd there
among-drop (x ∷ ids) zero id there = inr there
among-drop (x ∷ ids) (suc place) id there = among-drop ids place id there

-- the ids from a place on
ids-drop : (rides : List Ride) (place : ℕ) → ride_ids (drop place rides) ≡ drop place (ride_ids rides)
ids-drop [] zero = refl
ids-drop [] (suc place) = refl
ids-drop (r ∷ rides) zero = refl
ids-drop (r ∷ rides) (suc place) = ids-drop rides place

-- the element at a place is among those from there on
among-here : (ids : List ℕ) (place : ℕ) → place < length ids → Among (get_or ids place 0) (drop place ids)
among-here [] place low = absurd (omega arith)
among-here (x ∷ ids) zero low = inl refl
among-here (x ∷ ids) (suc place) low = among-here ids place (omega arith)

-- the element at a place is one of all
among-at : (ids : List ℕ) (place : ℕ) → place < length ids → Among (get_or ids place 0) ids
among-at [] place low = absurd (omega arith)
among-at (x ∷ ids) zero low = inl refl
among-at (x ∷ ids) (suc place) low = inr (among-at ids place (omega arith))

-- and, where all differ, not among those behind it
apart-behind : (ids : List ℕ) (place : ℕ) → IsDistinct eqb ids → place < length ids → Among (get_or ids place 0) (drop (suc place) ids) → ⊥
apart-behind [] place distinct low there = absurd (omega arith)
apart-behind (x ∷ ids) zero distinct low there =
    absurd (cc (eq-eqb x x refl, of_each (λ k. eqb x k ≡ false) ids x (IsDistinct-head eqb x ids distinct) there))
apart-behind (x ∷ ids) (suc place) distinct low there = apart-behind ids place (IsDistinct-tail eqb x ids distinct) (omega arith) there

-- the vehicles did not change
pub settled-same : (moment : State) (solved : SolvedBatch) (reached : ℕ) (old new : Service) → IsSettledTo moment solved reached old
    → new.vehicles.items ≡ old.vehicles.items → IsSettledTo moment solved (reached + 1) new
settled-same moment solved reached old new settled same = record {
  same_ids = ap vehicle_ids same ∙ settled.same_ids;
  unreached = λ seat there later.
      ap (λ vs. find_vehicle vs seat.vehicle) same
      ∙ settled.unreached seat there (earlier solved.batch.requests seat.request reached later);
}
  where
    earlier : (rides : List Ride) (id place : ℕ) → Contains (ride_ids (drop (place + 1) rides)) id → Contains (ride_ids (drop place rides)) id
    earlier rides id place later =
        contains_from_among (ride_ids (drop place rides)) id
        (subst (Among id) (sym (ids-drop rides place))
        (among-drop (ride_ids rides) place id
        (subst (λ n. Among id (drop n (ride_ids rides))) (add-one place)
        (subst (Among id) (ids-drop rides (place + 1)) (among_from_contains (ride_ids (drop (place + 1) rides)) id later)))))

-- the seat of a request, with the places of its cell
pub record Seated (solved : SolvedBatch) (r : ℕ) (seat : Seat) : Type 0 where
  pub there : Among seat solved.answer.seating
  pub request_is : seat.request ≡ get_or (ride_ids solved.batch.requests) r 0
  pub at : HasPlaces solved.batch solved.table seat
  pub row_is : at.row ≡ r

pub seated : (setup : Given) (moment : State) (solved : SolvedBatch) (r : ℕ) (ride : Ride) (seat : Seat) → IsCommitted setup moment solved
    → r < length solved.batch.requests → ride ≡ get_or solved.batch.requests r ride
    → seat_of solved.answer.seating ride.id ≡ Some seat → Seated solved r seat
seated setup moment solved r ride seat k low ride_is found =
    let (there, is) = found_among (λ (s : Seat). eqb s.request ride.id) solved.answer.seating seat found in
    let low_ids : r < length (ride_ids solved.batch.requests) = omega (arith, low, length-map solved.batch.requests (λ (ride : Ride). ride.id)) in
    let request_is : seat.request ≡ get_or (ride_ids solved.batch.requests) r 0
    = eqb-true seat.request ride.id is ∙ ap (λ (x : Ride). x.id) ride_is
    ∙ sym (get_or-map (λ (x : Ride). x.id) solved.batch.requests r ride 0 low) in
    let at = places-of solved.batch solved.table solved.answer.seating seat (record {
      fits = k.table.fits;
      requests_differ = k.requests_differ;
      vehicles_differ = k.fleet_fits.ids_differ;
      in_cells = k.certified.seating.in_cells;
    }) there in
    record {
      there = there;
      request_is = request_is;
      at = at;
      row_is = same-place (ride_ids solved.batch.requests) at.row r k.requests_differ
          (omega (arith, at.row_in, length-map solved.batch.requests (λ (ride : Ride). ride.id))) low_ids (at.request_at ∙ request_is);
    }

-- the vehicle of a seat stands at its column
pub record Stands (solved : SolvedBatch) (service : Service) (seat : Seat) (column place : ℕ) (w : Vehicle) : Type 0 where
  pub found : find_vehicle service.vehicles.items seat.vehicle ≡ Some w
  pub id_is : w.id ≡ seat.vehicle
  pub place_is : place ≡ column

pub stands : (setup : Given) (moment : State) (solved : SolvedBatch) (r : ℕ) (service : Service) (seat : Seat) (place : ℕ) (w : Vehicle)
    → IsCommitted setup moment solved → IsSettledTo moment solved r service → (s : Seated solved r seat)
    → place < length service.vehicles.items → w ≡ get_or service.vehicles.items place w
    → placed_in service.vehicles.items seat.vehicle ≡ Some (place, w)
    → Stands solved service seat s.at.column place w
stands setup moment solved r service seat place w k settled s low w_is placed =
    let ids_are : vehicle_ids service.vehicles.items ≡ vehicle_ids solved.batch.vehicles
    = settled.same_ids ∙ sym (earlier-ids solved.batch.vehicles moment.vehicles k.copies) in
    let differ = subst (IsDistinct eqb) (sym ids_are) k.fleet_fits.ids_differ in
    let at = placed_is service.vehicles.items seat.vehicle place w differ placed in
    let (_, w_id) = found_among (λ (v : Vehicle). eqb v.id seat.vehicle) service.vehicles.items w at.found in
    let w_id_is : w.id ≡ seat.vehicle = eqb-true w.id seat.vehicle w_id in
    record {
      found = at.found;
      id_is = w_id_is;
      place_is = same-place (vehicle_ids solved.batch.vehicles) place s.at.column k.fleet_fits.ids_differ
          (omega (arith, low, length-map service.vehicles.items (λ (v : Vehicle). v.id), ap length ids_are))
          (omega (arith, s.at.column_in, length-map solved.batch.vehicles (λ (v : Vehicle). v.id)))
          (ap (λ ids. get_or ids place 0) (sym ids_are)
          ∙ get_or-map (λ (v : Vehicle). v.id) service.vehicles.items place w 0 low ∙ ap (λ (v : Vehicle). v.id) (sym w_is)
          ∙ w_id_is ∙ sym s.at.vehicle_at);
    }

-- a vehicle of an id that is there has a place
placed-some : (n : ℕ) (vehicles : List Vehicle) (id : ℕ) → Among id (vehicle_ids vehicles)
    → find (λ (placed : ℕ × Vehicle). placed.1.id == id) (enumerate_from n vehicles) ≡ None → ⊥
placed-some n [] id there none = there
placed-some n (v ∷ vehicles) id there none = by_test (placed-some (n + 1) vehicles id) (eqb v.id id) refl there none
  where
    by_test : (Among id (vehicle_ids vehicles) → find (λ (placed : ℕ × Vehicle). placed.1.id == id) (enumerate_from (n + 1) vehicles) ≡ None → ⊥)
        → (b : Bool) → eqb v.id id ≡ b → Among id (v.id ∷ vehicle_ids vehicles)
        → cond b (Some (n, v)) (find (λ (placed : ℕ × Vehicle). placed.1.id == id) (enumerate_from (n + 1) vehicles)) ≡ None → ⊥
    by_test later true here among is = cc is
    by_test later false other (inl same) is = cc (other, eq-eqb v.id id same)
    by_test later false other (inr among) is = later among is

-- a seat has a vehicle
pub some-vehicle : (setup : Given) (moment : State) (solved : SolvedBatch) (r : ℕ) (service : Service) (seat : Seat)
    → IsCommitted setup moment solved → IsSettledTo moment solved r service → Seated solved r seat
    → placed_in service.vehicles.items seat.vehicle ≡ None → ⊥
some-vehicle setup moment solved r service seat k settled s none =
    let ids_are : vehicle_ids service.vehicles.items ≡ vehicle_ids solved.batch.vehicles
    = settled.same_ids ∙ sym (earlier-ids solved.batch.vehicles moment.vehicles k.copies) in
    let there = among-at (vehicle_ids solved.batch.vehicles) s.at.column
    (omega (arith, s.at.column_in, length-map solved.batch.vehicles (λ (v : Vehicle). v.id))) in
    placed-some 0 service.vehicles.items seat.vehicle
    (subst (λ ids. Among seat.vehicle ids) (sym ids_are)
    (subst (λ id. Among id (vehicle_ids solved.batch.vehicles)) s.at.vehicle_at there)) none

-- a confirmed seat has the version of its copy
confirmed-version : (batch : BatchCopy) (moment : State) (seats : List Seat) (id : ℕ) (seat : Seat) → outcome_of batch seats moment id ≡ Confirmed
    → seat_of seats id ≡ Some seat → eqb (version_of batch.vehicles seat.vehicle) (version_of moment.vehicles seat.vehicle) ≡ true
confirmed-version batch moment seats id seat confirmed found =
    by_cancelled (was_cancelled moment id) (ap (outcome_by batch moment (was_cancelled moment id)) (sym found) ∙ confirmed)
  where
    by_version : (b : Bool) (later : Outcome) → cond (not b) (Moved (version_of batch.vehicles seat.vehicle) (version_of moment.vehicles seat.vehicle)) later ≡ Confirmed
        → b ≡ true
    by_version true later is = refl
    by_version false later is = absurd (cc is)

    by_cancelled : (b : Bool) → outcome_by batch moment b (Some seat) ≡ Confirmed
        → eqb (version_of batch.vehicles seat.vehicle) (version_of moment.vehicles seat.vehicle) ≡ true
    by_cancelled true is = absurd (cc is)
    by_cancelled false is = by_version (eqb (version_of batch.vehicles seat.vehicle) (version_of moment.vehicles seat.vehicle)) _ is

-- a vehicle is lawful when it is ready later
lawful-ready : (roads : RoadMap) (v : Vehicle) (start : ℕ) → IsLawful roads v → v.ready ≤ start → start ≤ 1000003600
    → IsLawful roads (ready_at start v)
lawful-ready roads v start lawful later fits = record { routed = routed-ready roads v start lawful.routed later fits; loads = lawful.loads }

-- a vehicle that starts for a batch
started-is : (v : Vehicle) (lead time : ℕ) → started v (start_of v lead time) ≡ ready_at (start_of v lead time) v
started-is v lead time = ap (λ n. record v { ready = n }) (by_test (is_idle v))
  where
    by_test : (b : Bool) → cond b (cond b (max v.ready (time + lead)) v.ready) v.ready ≡ cond b (max v.ready (time + lead)) v.ready
    by_test true = refl
    by_test false = refl

-- what a confirmed request makes of its vehicle
pub record Confirms (setup : Given) (solved : SolvedBatch) (ride : Ride) (seat : Seat) (v : Vehicle) (offer : Offer) : Type 0 where
  pub new : Vehicle
  pub id_is : new.id ≡ v.id
  pub inserts : InsertsInto setup.roads (started v offer.start) ride offer new
  pub confirmed_is : (s : State) → s.roads ≡ setup.roads → with_confirmed s solved.batch ride seat v ≡ raised new
  pub version_fits : v.version < 2 ^ 63

-- a plan with a ride more does not depend on when the vehicle is ready
inserted-ready : (roads : RoadMap) (v : Vehicle) (ride : Ride) (start i j : ℕ) (new : Vehicle) → inserted roads v ride i j ≡ Some new
    → inserted roads (ready_at start v) ride i j ≡ Some (ready_at start new)
inserted-ready roads v ride start i j new is =
    let facts = inserted_facts roads v ride i j new is in
    ap (option_map (with_plan (ready_at start v) (v.rides.items ++ ride ∷ []))) facts.route
    ∙ ap (λ w. Some (ready_at start w)) (sym facts.new_is)

-- the vehicle and the offer of a confirmed seat
pub confirms : (setup : Given) (moment : State) (solved : SolvedBatch) (r : ℕ) (ride : Ride) (service : Service) (seat : Seat) (w : Vehicle) (offer : Offer)
    → IsToConfirm setup moment solved r ride service → r < length solved.batch.requests → ride ≡ get_or solved.batch.requests r ride
    → seat_of solved.answer.seating ride.id ≡ Some seat
    → (s : Seated solved r seat) → find_vehicle service.vehicles.items seat.vehicle ≡ Some w
    → cell_at solved.table r s.at.column ≡ Some offer
    → Confirms setup solved ride seat w offer
confirms setup moment solved r ride service seat w offer h low ride_is seat_is s found cell = record {
  new = ready_at start plan.new;
  id_is = ap (λ (x : Vehicle). x.id) facts.new_is;
  inserts = subst (λ x. InsertsInto setup.roads x ride offer (ready_at start plan.new)) (sym starts) inserts;
  confirmed_is = λ t roads_are.
      ap (λ roads. with_confirmed (record t { roads = roads }) batch ride seat w) roads_are
      ∙ (λ i. with_confirmed (record t { roads = setup.roads }) batch ride (record seat { i = sym places.0 i; j = sym places.1 i }) w)
      ∙ ap (λ n. raised (unwrap_or (inserted setup.roads (ready_at n w) ride offer.i offer.j) (ready_at n w))) start_is
      ∙ ap (λ o. raised (unwrap_or o (ready_at start w))) (inserted-ready setup.roads w ride start offer.i offer.j plan.new plan.inserted_is);
  version_fits = of_all HasRoomAbove moment.vehicles w k.versions_fit
      (found_among (λ (x : Vehicle). eqb x.id seat.vehicle) moment.vehicles w found_moment).0;
}
  where
    batch : BatchCopy
    batch = solved.batch

    k : IsCommitted setup moment solved
    k = h.committed

    v : Vehicle
    v = get_or batch.vehicles s.at.column (element batch.vehicles s.at.column s.at.column_in)

    found_v : find_vehicle batch.vehicles seat.vehicle ≡ Some v
    found_v = find-id (λ (x : Vehicle). x.id) batch.vehicles s.at.column seat.vehicle (element batch.vehicles s.at.column s.at.column_in)
        k.fleet_fits.ids_differ s.at.column_in
        (sym (get_or-map (λ (x : Vehicle). x.id) batch.vehicles s.at.column (element batch.vehicles s.at.column s.at.column_in) 0 s.at.column_in)
        ∙ s.at.vehicle_at)

    later : (x : Vehicle) × (find_vehicle moment.vehicles seat.vehicle ≡ Some x) × IsEarlier v x
    later = later_of batch.vehicles moment.vehicles seat.vehicle v k.copies found_v

    versions : v.version ≡ later.0.version
    versions =
        sym (version_of-found batch.vehicles seat.vehicle v found_v)
        ∙ eqb-true (version_of batch.vehicles seat.vehicle) (version_of moment.vehicles seat.vehicle)
        (confirmed-version batch moment solved.answer.seating ride.id seat h.confirmed seat_is)
        ∙ version_of-found moment.vehicles seat.vehicle later.0 later.1

    yet_to_come : Contains (ride_ids (drop r batch.requests)) seat.request
    yet_to_come = contains_from_among (ride_ids (drop r batch.requests)) seat.request
        (subst (λ ids. Among seat.request ids) (sym (ids-drop batch.requests r))
        (subst (λ id. Among id (drop r (ride_ids batch.requests))) (sym s.request_is)
        (among-here (ride_ids batch.requests) r (omega (arith, low, length-map batch.requests (λ (x : Ride). x.id))))))

    found_moment : find_vehicle moment.vehicles seat.vehicle ≡ Some w
    found_moment = sym (h.settled.unreached seat (contains_from_among solved.answer.seating seat s.there) yet_to_come) ∙ found

    w_is : w ≡ v
    w_is = same_Some w v (sym found_moment ∙ later.1 ∙ ap Some (sym (later.2.same versions)))

    found_copy : find_vehicle batch.vehicles seat.vehicle ≡ Some w
    found_copy = found_v ∙ ap Some (sym w_is)

    w_there : Among w batch.vehicles
    w_there = (found_among (λ (x : Vehicle). eqb x.id seat.vehicle) batch.vehicles w found_copy).0

    ride_there : Among ride batch.requests
    ride_there = subst (λ x. Among x batch.requests) (sym ride_is)
        (among_from_contains batch.requests (get_or batch.requests r ride) (Contains-get_or batch.requests r ride low))

    start : ℕ
    start = start_of w batch.settings.lead batch.time

    least : IsLeastOffer setup.roads batch ride w offer
    least = subst (λ x. IsLeastOffer setup.roads batch ride x offer) (sym w_is)
        (subst (λ x. IsLeastOffer setup.roads batch x v offer) (sym ride_is)
        (subst (λ o. MatchOption o (price setup.roads batch.settings v (get_or batch.requests r ride) batch.time ≡ None)
        (IsLeastOffer setup.roads batch (get_or batch.requests r ride) v)) cell
        (k.table.cells_are r s.at.column ride (element batch.vehicles s.at.column s.at.column_in) low s.at.column_in)))

    places : (offer.i ≡ seat.i) × (offer.j ≡ seat.j)
    places = subst (λ o. IsSomeAnd o (λ (x : Offer). (x.i ≡ seat.i) × (x.j ≡ seat.j)))
        (ap (λ row. cell_at solved.table row s.at.column) s.row_is ∙ cell) s.at.offered

    plan : OfferPlan setup.roads batch.settings w ride batch.time offer.i offer.j offer
    plan = offer_plan setup.roads batch.settings w ride batch.time offer.i offer.j offer least.offered

    facts : InsertedFacts setup.roads w ride offer.i offer.j plan.new
    facts = inserted_facts setup.roads w ride offer.i offer.j plan.new plan.inserted_is

    lawful : IsLawful setup.roads w
    lawful = of_all (IsLawful setup.roads) batch.vehicles w k.lawful w_there

    start_fits : start ≤ 1000003600
    start_fits = start-fits w batch.settings.lead batch.time lawful.routed.ready_limit k.in_time k.over_map.settings_fit.lead_limit

    offer_start : offer.start ≡ start
    offer_start = ap (λ (o : Offer). o.start) plan.plan.offer_is

    starts : started w offer.start ≡ ready_at start w
    starts = ap (started w) offer_start ∙ started-is w batch.settings.lead batch.time

    start_is : cond (is_idle w) (priced_start batch seat.vehicle) w.ready ≡ start
    start_is = ap (λ n. cond (is_idle w) n w.ready) (priced_start-found batch seat.vehicle w found_copy)
        ∙ ap (λ (x : Vehicle). x.ready) (started-is w batch.settings.lead batch.time)

    room : length w.stops.items ≤ 14
    room =
        let (two, _) = and_parts (leb (length plan.new.stops.items) 16 && list_all (keeps_ride plan.new start batch.settings.dwell) plan.new.rides.items)
        (loads_fit plan.new) plan.plan.kept in
        let (few, _) = and_parts (leb (length plan.new.stops.items) 16) (list_all (keeps_ride plan.new start batch.settings.dwell) plan.new.rides.items) two in
        omega (
          arith,
          leb-true (length plan.new.stops.items) 16 few,
          ap (λ (x : Vehicle). length x.stops.items) facts.new_is,
          length-same (stops_with ride offer.i offer.j w.stops.items) facts.out
              (unlegged-routed setup.roads w.at (stops_with ride offer.i offer.j w.stops.items) facts.out facts.route),
          length-stops_with ride offer.i offer.j w.stops.items plan.in_order plan.in_range,
        )

    inserts : InsertsInto setup.roads (ready_at start w) ride offer (ready_at start plan.new)
    inserts = record {
      map_fits = k.map_fits;
      lawful = lawful-ready setup.roads w start lawful (start-later w batch.settings.lead batch.time) start_fits;
      ride_fits = of_all (IsRide setup.roads) batch.requests ride k.over_map.rides_fit ride_there;
      waits = of_all (λ (x : Ride). x.picked ≡ None) batch.requests ride k.over_map.rides_wait ride_there;
      fresh = of_all (λ (x : Vehicle). IsFresh x.rides.items ride.id) batch.vehicles w
          (of_all (λ (x : Ride). All (λ (y : Vehicle). IsFresh y.rides.items x.id) batch.vehicles) batch.requests ride k.over_map.rides_fresh ride_there)
          w_there;
      stops_room = room;
      rides_room = omega (arith, room, few-rides w.rides.items w.stops.items lawful.routed.planned);
      in_order = plan.in_order;
      in_range = plan.in_range;
      inserted_is = inserted-ready setup.roads w ride start offer.i offer.j plan.new plan.inserted_is;
      joins_are = ap (λ (o : Offer). o.joins) plan.plan.offer_is;
    }

-- the vehicle of a seat changed
pub settled-confirmed : (setup : Given) (moment : State) (solved : SolvedBatch) (r : ℕ) (old new : Service) (seat : Seat) (place : ℕ) (w nv : Vehicle)
    → IsCommitted setup moment solved → IsSettledTo moment solved r old → r < length solved.batch.requests → Seated solved r seat
    → placed_in old.vehicles.items seat.vehicle ≡ Some (place, w) → nv.id ≡ seat.vehicle
    → new.vehicles.items ≡ slice_set old.vehicles.items place nv → IsSettledTo moment solved (r + 1) new
settled-confirmed setup moment solved r old new seat place w nv k settled low s placed id_is made = record {
  same_ids = ap vehicle_ids put_is ∙ ids-map (λ (v : Vehicle). v.id) (put nv) (put-id nv) old.vehicles.items ∙ settled.same_ids;
  unreached = λ other there later.
      ap (λ vs. find_vehicle vs other.vehicle) put_is
      ∙ put_elsewhere nv other.vehicle old.vehicles.items
      (ne_eqb nv.id other.vehicle (λ same. apart-behind (ride_ids solved.batch.requests) r k.requests_differ low_ids
      (subst (λ id. Among id (drop (suc r) (ride_ids solved.batch.requests)))
      (ap (λ (x : Seat). x.request) (one_seat other there (sym id_is ∙ same)) ∙ s.request_is) (behind other later))))
      ∙ settled.unreached other there
      (contains_from_among (ride_ids (drop r solved.batch.requests)) other.request
      (subst (Among other.request) (sym (ids-drop solved.batch.requests r))
      (among-drop (ride_ids solved.batch.requests) r other.request (behind other later))));
}
  where
    ids_are : vehicle_ids old.vehicles.items ≡ vehicle_ids solved.batch.vehicles
    ids_are = settled.same_ids ∙ sym (earlier-ids solved.batch.vehicles moment.vehicles k.copies)

    put_is : new.vehicles.items ≡ map (put nv) old.vehicles.items
    put_is = made ∙ (placed_is old.vehicles.items seat.vehicle place w (subst (IsDistinct eqb) (sym ids_are) k.fleet_fits.ids_differ) placed).set_is nv id_is

    low_ids : r < length (ride_ids solved.batch.requests)
    low_ids = omega (arith, low, length-map solved.batch.requests (λ (x : Ride). x.id))

    behind : (other : Seat) → Contains (ride_ids (drop (r + 1) solved.batch.requests)) other.request
        → Among other.request (drop (suc r) (ride_ids solved.batch.requests))
    behind other later =
        subst (λ n. Among other.request (drop n (ride_ids solved.batch.requests))) (add-one r)
        (subst (Among other.request) (ids-drop solved.batch.requests (r + 1))
        (among_from_contains (ride_ids (drop (r + 1) solved.batch.requests)) other.request later))

    one_seat : (other : Seat) → Contains solved.answer.seating other → seat.vehicle ≡ other.vehicle → other ≡ seat
    one_seat other there same =
        same_Some other seat
        (sym (found_by (λ (x : Seat). x.vehicle) solved.answer.seating other k.certified.seating.vehicles_differ
        (among_from_contains solved.answer.seating other there))
        ∙ ap (λ n. find (λ (x : Seat). x.vehicle == n) solved.answer.seating) (sym same)
        ∙ found_by (λ (x : Seat). x.vehicle) solved.answer.seating seat k.certified.seating.vehicles_differ s.there)

-- a seat's cell has an offer
pub some-offer : (solved : SolvedBatch) (r : ℕ) (seat : Seat) → (s : Seated solved r seat) → cell_at solved.table r s.at.column ≡ None → ⊥
some-offer solved r seat s none =
    subst (λ o. IsSomeAnd o (λ (x : Offer). (x.i ≡ seat.i) × (x.j ≡ seat.j)))
    (ap (λ row. cell_at solved.table row s.at.column) s.row_is ∙ none) s.at.offered

-- there are as many vehicles as copies
pub as-many : (setup : Given) (moment : State) (solved : SolvedBatch) (r : ℕ) (service : Service) → IsCommitted setup moment solved
    → IsSettledTo moment solved r service → length service.vehicles.items ≡ length solved.batch.vehicles
as-many setup moment solved r service k settled =
    sym (length-map service.vehicles.items (λ (v : Vehicle). v.id))
    ∙ ap length (settled.same_ids ∙ sym (earlier-ids solved.batch.vehicles moment.vehicles k.copies))
    ∙ length-map solved.batch.vehicles (λ (v : Vehicle). v.id)

-- the outcome of a request at a commit's moment
pub outcome-is : (setup : Given) (moment : State) (solved : SolvedBatch) (r : ℕ) (ride : Ride) (e : ℕ × Outcome) → IsCommitted setup moment solved
    → r < length solved.batch.requests → ride ≡ get_or solved.batch.requests r ride
    → (get_or solved.answer.outcomes r e).1 ≡ outcome_of solved.batch solved.answer.seating moment ride.id
outcome-is setup moment solved r ride e k low ride_is =
    let f : ℕ → ℕ × Outcome = λ id. (id, outcome_of solved.batch solved.answer.seating moment id) in
    let low_ids : r < length (ride_ids solved.batch.requests) = omega (arith, low, length-map solved.batch.requests (λ (x : Ride). x.id)) in
    let id_is : get_or (ride_ids solved.batch.requests) r 0 ≡ ride.id
    = get_or-map (λ (x : Ride). x.id) solved.batch.requests r ride 0 low ∙ ap (λ (x : Ride). x.id) (sym ride_is) in
    ap (λ outcomes. (get_or outcomes r e).1) k.outcomes_are
    ∙ ap (λ (item : ℕ × Outcome). item.1) (get_or-map f (ride_ids solved.batch.requests) r 0 e low_ids)
    ∙ ap (outcome_of solved.batch solved.answer.seating moment) id_is

-- the outcomes of requests begin with that of the first
pub settle-step : (batch : BatchCopy) (seats : List Seat) (moment : State) (rides : List Ride) (r : ℕ) (ride d : Ride) → r < length rides
    → ride ≡ get_or rides r d → (s : State)
    → after_outcomes batch seats moment (drop r rides) s
    ≡ after_outcomes batch seats moment (drop (r + 1) rides) (after_outcome batch ride (seat_of seats ride.id) (outcome_of batch seats moment ride.id) s)
settle-step batch seats moment rides r ride d low is s =
    step rides r low
    ∙ ap (λ (x : Ride). after_outcomes batch seats moment (drop (suc r) rides) (after_outcome batch x (seat_of seats x.id) (outcome_of batch seats moment x.id) s))
    (sym is)
    ∙ ap (λ n. after_outcomes batch seats moment (drop n rides) (after_outcome batch ride (seat_of seats ride.id) (outcome_of batch seats moment ride.id) s))
    (sym (add-one r))
  where
    step : (rs : List Ride) (n : ℕ) → n < length rs
        → after_outcomes batch seats moment (drop n rs) s
        ≡ after_outcomes batch seats moment (drop (suc n) rs)
        (after_outcome batch (get_or rs n d) (seat_of seats (get_or rs n d).id) (outcome_of batch seats moment (get_or rs n d).id) s)
    step [] n h = absurd (omega arith)
    step (x ∷ rs) zero h = refl
    step (x ∷ rs) (suc n) h = step rs n (omega arith)
