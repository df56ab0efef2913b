-- A vehicle with a confirmed ride is lawful.
use Rattle.model_laws.proofs.Common.{◌≡◌, ℕ, ◌+◌, ◌≤◌, ◌&&◌, Bool, true, false, cond, List, [], ◌∷◌, ◌++◌, length, leb, leb-true, refl, ◌∙◌, ap, subst, arith, max, Some, None, option_map, unwrap_or, IfSome, list_all, All-weaker, IfSome_then, and_parts, Offer, Seat, Settings, Ride, Stop, Vehicle, priced_start, version_of, with_confirmed, with_plan, inserted, keeps, keeps_ride, loads_fit, is_idle, start_of, offer_of, RoadMap, BatchCopy, find_vehicle, IsSettings, State, raised, IsRide, IsRouted, IsLawful, IsFresh}
use Rattle.model_laws.proofs.plain.Among.{Among}
use Rattle.model_laws.proofs.Costs.{offer_plan}
use Rattle.model_laws.proofs.Insertions.{routed-with, inserted_facts}
use Rattle.model_laws.proofs.Starts.{start-later}
use Rattle.model_laws.proofs.history_laws.Kept.{each_passes}

-- a vehicle that is ready at a later time
abbrev pub ready_at : ℕ → Vehicle → Vehicle
ready_at start v = record v { ready = start }

-- a vehicle in order stays so when it is ready later
pub routed-ready : (roads : RoadMap) (v : Vehicle) (start : ℕ) → IsRouted roads v → v.ready ≤ start → start ≤ 1000003600
    → IsRouted roads (ready_at start v)
routed-ready roads v start r later fits = record {
  some_seat = r.some_seat;
  seats_limit = r.seats_limit;
  chairs_limit = r.chairs_limit;
  at_node = r.at_node;
  ready_limit = fits;
  rides_fit = r.rides_fit;
  picked_before = All-weaker (λ (ride : Ride). IfSome ride.picked (λ picked. picked ≤ v.ready))
      (λ (ride : Ride). IfSome ride.picked (λ picked. picked ≤ start))
      (λ ride before. IfSome_then ride.picked before (λ at h. omega (arith, h, later))) v.rides.items r.picked_before;
  planned = r.planned;
  legs = r.legs;
}

-- the start is within its limit
pub start-fits : (v : Vehicle) (lead time : ℕ) → v.ready ≤ 1000003600 → time ≤ 1000000000 → lead ≤ 3600
    → start_of v lead time ≤ 1000003600
start-fits v lead time ready_fits time_fits lead_fits = by_test (is_idle v)
  where
    by_test : (b : Bool) → cond b (max v.ready (time + lead)) v.ready ≤ 1000003600
    by_test true = omega arith
    by_test false = omega arith

-- the vehicle with the ride of an offer
pub record Confirming (roads : RoadMap) (v : Vehicle) (ride : Ride) (start i j dwell : ℕ) : Type 0 where
  pub out : List Stop
  pub inserted_is : inserted roads (ready_at start v) ride i j ≡ Some (with_plan (ready_at start v) (v.rides.items ++ ride ∷ []) out)
  pub lawful : IsLawful roads (with_plan (ready_at start v) (v.rides.items ++ ride ∷ []) out)
  pub few_stops : length out ≤ 16
  pub kept : (other : Ride) → Among other (v.rides.items ++ ride ∷ [])
      → keeps_ride (with_plan (ready_at start v) (v.rides.items ++ ride ∷ []) out) start dwell other ≡ true

-- the vehicle with the ride of an offer is lawful
pub confirming : (roads : RoadMap) (settings : Settings) (v : Vehicle) (ride : Ride) (time i j : ℕ) (offer : Offer)
    → IsSettings settings
    → IsLawful roads v → IsRide roads ride → IsFresh v.rides.items ride.id → ride.picked ≡ None → time ≤ 1000000000
    → offer_of roads settings v ride time i j ≡ Some offer → Confirming roads v ride (start_of v settings.lead time) i j settings.dwell
confirming roads settings v ride time i j offer ranges lawful fits fresh waits in_time is =
    let plan = offer_plan roads settings v ride time i j offer is in
    let facts = inserted_facts roads v ride i j plan.new plan.inserted_is in
    let start : ℕ = start_of v settings.lead time in
    let new : Vehicle = with_plan (ready_at start v) (v.rides.items ++ ride ∷ []) facts.out in
    let made : inserted roads (ready_at start v) ride i j ≡ Some new
    = ap (λ o. option_map (with_plan (ready_at start v) (v.rides.items ++ ride ∷ [])) o) facts.route in
    let kept : keeps (with_plan v (v.rides.items ++ ride ∷ []) facts.out) start settings.dwell ≡ true
    = subst (λ w. keeps w start settings.dwell ≡ true) facts.new_is plan.plan.kept in
    let (both, loads) = and_parts (leb (length facts.out) 16 && list_all
    (keeps_ride (with_plan v (v.rides.items ++ ride ∷ []) facts.out) start settings.dwell) (v.rides.items ++ ride ∷ []))
    (loads_fit (with_plan v (v.rides.items ++ ride ∷ []) facts.out)) kept in
    let (few, all_kept) = and_parts (leb (length facts.out) 16)
    (list_all (keeps_ride (with_plan v (v.rides.items ++ ride ∷ []) facts.out) start settings.dwell) (v.rides.items ++ ride ∷ []))
    both in
    record {
      out = facts.out;
      inserted_is = made;
      lawful = record {
        routed = routed-with roads (ready_at start v) ride i j new
            (routed-ready roads v start lawful.routed (start-later v settings.lead time)
            (start-fits v settings.lead time lawful.routed.ready_limit in_time ranges.lead_limit))
            fits fresh waits plan.in_order plan.in_range made;
        loads = loads;
      };
      few_stops = leb-true (length facts.out) 16 few;
      kept = λ other there.
          each_passes (keeps_ride (with_plan v (v.rides.items ++ ride ∷ []) facts.out) start settings.dwell)
          (v.rides.items ++ ride ∷ []) other all_kept there;
    }

-- what a batch's copy says of a vehicle
pub version_of-found : (vehicles : List Vehicle) (id : ℕ) (v : Vehicle) → find_vehicle vehicles id ≡ Some v
    → version_of vehicles id ≡ v.version
version_of-found vehicles id v found = rw found refl

-- the start that a batch has for a vehicle
pub priced_start-found : (batch : BatchCopy) (id : ℕ) (v : Vehicle) → find_vehicle batch.vehicles id ≡ Some v
    → priced_start batch id ≡ start_of v batch.settings.lead batch.time
priced_start-found batch id v found = rw found refl

-- the vehicle with a confirmed ride
pub with_confirmed-is : (s : State) (batch : BatchCopy) (ride : Ride) (seat : Seat) (v : Vehicle)
    → find_vehicle batch.vehicles seat.vehicle ≡ Some v
    → (c : Confirming s.roads v ride (start_of v batch.settings.lead batch.time) seat.i seat.j batch.settings.dwell)
    → with_confirmed s batch ride seat v ≡ raised
    (with_plan (ready_at (start_of v batch.settings.lead batch.time) v) (v.rides.items ++ ride ∷ []) c.out)
with_confirmed-is s batch ride seat v found c =
    ap (λ n. raised (unwrap_or (inserted s.roads (ready_at n v) ride seat.i seat.j) (ready_at n v))) start_is
    ∙ ap (λ o. raised (unwrap_or o (ready_at (start_of v batch.settings.lead batch.time) v))) c.inserted_is
  where
    by_test : (b : Bool) → cond b (cond b (max v.ready (batch.time + batch.settings.lead)) v.ready) v.ready
        ≡ cond b (max v.ready (batch.time + batch.settings.lead)) v.ready
    by_test true = refl
    by_test false = refl

    start_is : cond (is_idle v) (priced_start batch seat.vehicle) v.ready ≡ start_of v batch.settings.lead batch.time
    start_is = ap (λ n. cond (is_idle v) n v.ready) (priced_start-found batch seat.vehicle v found) ∙ by_test (is_idle v)
