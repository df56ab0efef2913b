-- A commit leaves each vehicle whose version is not that of the batch's copy.
use Rattle.model_laws.proofs.Common.{◌≡◌, ◌≢◌, ℕ, Bool, true, false, not, cond, List, [], ◌∷◌, ◌++◌, Option, Some, None, eqb, refl, sym, ap, subst, ◌∙◌, map, nat_lt, option_map, unwrap_or, ◌==◌, IsDistinct, eqb-true, ne_eqb, Desk, Entry, Committed, Outcome, Confirmed, Gone, Moved, Behind, Seat, Ride, Stop, Vehicle, seat_of, version_of, priced_start, was_cancelled, outcome_by, outcome_of, with_confirmed, after_outcome, after_outcomes, after_commit, with_plan, routed, stops_with, IsLegal, replay, is_idle, BatchCopy, find_vehicle, vehicle_ids, State, placed_vehicle, open_batch_numbered, raised, IsStart}
use Rattle.ride_model.specs.declared.entry.Outcome.TheVariants.{Away}
use Rattle.model_laws.proofs.Histories.{replay-push}
use Rattle.model_laws.proofs.history_laws.Committing.{put_elsewhere}
use Rattle.model_laws.proofs.history_laws.EveryState.{consistent}
use Rattle.model_laws.proofs.history_laws.Lookups.{ids-map, put, put-id, Placed, placed_is}
use Rattle.model_laws.proofs.plain.Among.{found_among}

-- a vehicle is found as before, and the vehicles have the ids that they had
record Unmoved (id : ℕ) (vehicles after : List Vehicle) : Type 0 where
  ids : vehicle_ids after ≡ vehicle_ids vehicles
  same : find_vehicle after id ≡ find_vehicle vehicles id

untouched : (id : ℕ) (vehicles : List Vehicle) → Unmoved id vehicles vehicles
untouched id vehicles = record { ids = refl; same = refl }

-- a vehicle with a confirmed ride keeps its id
confirmed-id : (s : State) (batch : BatchCopy) (ride : Ride) (seat : Seat) (v : Vehicle) → (with_confirmed s batch ride seat v).id ≡ v.id
confirmed-id s batch ride seat v =
    by_route (routed s.roads started.at (stops_with ride seat.i seat.j started.stops.items))
  where
    started : Vehicle
    started = record v { ready = cond (is_idle v) (priced_start batch seat.vehicle) v.ready }

    by_route : (o : Option (List Stop)) → (raised (unwrap_or (option_map (with_plan started (started.rides.items ++ ride ∷ [])) o) started)).id ≡ v.id
    by_route None = refl
    by_route (Some stops) = refl

-- a confirmed outcome is that of a seat whose vehicle has the version of its copy
pub standing_version : (s : State) (batch : BatchCopy) (seat : Seat) (c : Bool) → outcome_by batch s c (Some seat) ≡ Confirmed
    → eqb (version_of batch.vehicles seat.vehicle) (version_of s.vehicles seat.vehicle) ≡ true
standing_version s batch seat true is = absurd (cc is)
standing_version s batch seat false is = by_tests (eqb (version_of batch.vehicles seat.vehicle) (version_of s.vehicles seat.vehicle)) is
  where
    by_tests : (a : Bool)
        → cond (not a) (Moved (version_of batch.vehicles seat.vehicle) (version_of s.vehicles seat.vehicle))
        (cond (nat_lt (priced_start batch seat.vehicle) s.clock) (Behind (priced_start batch seat.vehicle) s.clock) Confirmed) ≡ Confirmed
        → a ≡ true
    by_tests true is = refl
    by_tests false is = absurd (cc is)

-- one outcome leaves the vehicle, which is not a confirmed seat's
by_outcome : (batch : BatchCopy) (ride : Ride) (id : ℕ) (t : State) → IsDistinct eqb (vehicle_ids t.vehicles)
    → (seat : Option Seat) (outcome : Outcome) → ((x : Seat) → seat ≡ Some x → outcome ≡ Confirmed → eqb x.vehicle id ≡ false)
    → Unmoved id t.vehicles (after_outcome batch ride seat outcome t).vehicles
by_outcome batch ride id t distinct seat Gone other = untouched id t.vehicles
by_outcome batch ride id t distinct seat Away other = untouched id t.vehicles
by_outcome batch ride id t distinct seat (Moved a b) other = untouched id t.vehicles
by_outcome batch ride id t distinct seat (Behind a b) other = untouched id t.vehicles
by_outcome batch ride id t distinct None Confirmed other = untouched id t.vehicles
by_outcome batch ride id t distinct (Some x) Confirmed other = by_place (placed_vehicle t x.vehicle) refl
  where
    by_place : (o : Option (ℕ × Vehicle)) → placed_vehicle t x.vehicle ≡ o
        → Unmoved id t.vehicles (after_outcome batch ride (Some x) Confirmed t).vehicles
    by_place None is = rw is (untouched id t.vehicles)
    by_place (Some p) is =
        let placed = placed_is t.vehicles x.vehicle p.0 p.1 distinct is in
        let v_is : p.1.id ≡ x.vehicle
        = eqb-true p.1.id x.vehicle (found_among (λ (v : Vehicle). v.id == x.vehicle) t.vehicles p.1 placed.found).1 in
        let new : Vehicle = with_confirmed t batch ride x p.1 in
        let new_is : new.id ≡ x.vehicle = confirmed-id t batch ride x p.1 ∙ v_is in
        rw is (subst (Unmoved id t.vehicles) (sym (placed.set_is new new_is)) (record {
          ids = ids-map (λ (v : Vehicle). v.id) (put new) (put-id new) t.vehicles;
          same = put_elsewhere new id t.vehicles (ap (λ k. eqb k id) new_is ∙ other x refl refl);
        }))

-- all outcomes of the batch leave it
unmoved-outcomes : (s : State) (batch : BatchCopy) (seats : List Seat) (id : ℕ) → version_of batch.vehicles id ≢ version_of s.vehicles id
    → (rides : List Ride) (t : State) → IsDistinct eqb (vehicle_ids t.vehicles)
    → Unmoved id t.vehicles (after_outcomes batch seats s rides t).vehicles
unmoved-outcomes s batch seats id differs [] t distinct = untouched id t.vehicles
unmoved-outcomes s batch seats id differs (ride ∷ rides) t distinct =
    let one = by_outcome batch ride id t distinct (seat_of seats ride.id) (outcome_of batch seats s ride.id) (not_its ride.id) in
    let after : State = after_outcome batch ride (seat_of seats ride.id) (outcome_of batch seats s ride.id) t in
    let rest = unmoved-outcomes s batch seats id differs rides after (subst (IsDistinct eqb) (sym one.ids) distinct) in
    record { ids = rest.ids ∙ one.ids; same = rest.same ∙ one.same }
  where
    not_its : (rider : ℕ) (x : Seat) → seat_of seats rider ≡ Some x → outcome_of batch seats s rider ≡ Confirmed → eqb x.vehicle id ≡ false
    not_its rider x seated confirmed =
        let equal = standing_version s batch x (was_cancelled s rider) (sym (ap (outcome_by batch s (was_cancelled s rider)) seated) ∙ confirmed) in
        ne_eqb x.vehicle id (λ same. differs (
        subst (λ k. version_of batch.vehicles k ≡ version_of s.vehicles k) same
        (eqb-true (version_of batch.vehicles x.vehicle) (version_of s.vehicles x.vehicle) equal)
        ))

-- a commit leaves it
pub unmoved : (s : State) (batch : BatchCopy) (seats : List Seat) (id : ℕ) → IsDistinct eqb (vehicle_ids s.vehicles)
    → version_of batch.vehicles id ≢ version_of s.vehicles id
    → find_vehicle (after_commit batch seats s).vehicles id ≡ find_vehicle s.vehicles id
unmoved s batch seats id distinct differs = (unmoved-outcomes s batch seats id differs batch.requests s distinct).same

-- the ids of the vehicles differ in every legal history
pub vehicles_differ : (feeds desks : ℕ) (start : State) (entries : List Entry) → IsStart start → IsLegal feeds desks start entries
    → IsDistinct eqb (vehicle_ids (replay start entries).vehicles)
vehicles_differ feeds desks start entries begins legal =
    subst (IsDistinct eqb) (sym (consistent feeds desks start entries begins legal).fleet_stays) begins.fleet_fits.ids_differ

-- the law
pub unmoved-by_commit : (feeds desks : ℕ) (start : State) (before : List Entry) (desk number cost : ℕ) (seats : List Seat)
    (prices pays : List (ℕ × ℕ)) (outcomes : List (ℕ × Outcome)) (batch : BatchCopy) (id : ℕ) → IsStart start
    → IsLegal feeds desks start before → open_batch_numbered (replay start before) desk number ≡ Some batch
    → version_of batch.vehicles id ≢ version_of (replay start before).vehicles id
    → find_vehicle (replay start (before ++ record { actor = Desk desk; event = Committed number cost seats prices pays outcomes } ∷ [])).vehicles id
    ≡ find_vehicle (replay start before).vehicles id
unmoved-by_commit feeds desks start before desk number cost seats prices pays outcomes batch id begins legal opened differs =
    ap (λ (t : State). find_vehicle t.vehicles id)
    (replay-push start before (record { actor = Desk desk; event = Committed number cost seats prices pays outcomes }))
    ∙ rw opened (unmoved (replay start before) batch seats id (vehicles_differ feeds desks start before begins legal) differs)
