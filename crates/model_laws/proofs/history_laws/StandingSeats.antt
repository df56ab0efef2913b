-- A seat of a batch over vehicles that stand as they were copied is confirmed.
use Rattle.model_laws.proofs.Common.{◌≡◌, ◌≤◌, not, Bool, true, false, cond, List, eqb, ltb, le-ltb, refl, sym, ap, ◌∙◌, All, Some, IsSome, nat_eq, IsDistinct, eq-eqb, Outcome, Confirmed, Seat, Vehicle, seated_outcome, priced_start, version_of, start_of, BatchCopy, find_vehicle, seat_offer, vehicle_ids, State}
use Rattle.model_laws.proofs.plain.Among.{Among}
use Rattle.model_laws.proofs.plain.Each.{of_all}
use Rattle.model_laws.proofs.Certificates.{seat_facts}
use Rattle.model_laws.proofs.Costs.{offer_plan}
use Rattle.model_laws.proofs.Starts.{start-not_before}
use Rattle.model_laws.proofs.history_laws.Confirming.{priced_start-found}
use Rattle.model_laws.proofs.history_laws.Lookups.{found_by}

-- a pair that stands is confirmed
stands : (a b : Bool) (x y : Outcome) → a ≡ false → b ≡ false → cond a x (cond b y Confirmed) ≡ Confirmed
stands true b x y h k = absurd (cc h)
stands false true x y h k = absurd (cc k)
stands false false x y h k = refl

pub seated-confirmed : (s : State) (batch : BatchCopy) (seats : List Seat) → batch.vehicles ≡ s.vehicles → batch.time ≡ s.clock
    → IsDistinct nat_eq (vehicle_ids batch.vehicles) → All (λ seat. IsSome (seat_offer s.roads batch seat)) seats
    → (seat : Seat) → Among seat seats → seated_outcome batch s seat ≡ Confirmed
seated-confirmed s batch seats vehicles_stand time_is differ offered seat there =
    let facts = seat_facts s.roads batch seat (of_all (λ (x : Seat). IsSome (seat_offer s.roads batch x)) seats seat offered there) in
    let plan = offer_plan s.roads batch.settings facts.vehicle facts.ride batch.time seat.i seat.j facts.offer facts.offered in
    let found : find_vehicle batch.vehicles seat.vehicle ≡ Some facts.vehicle
    = ap (find_vehicle batch.vehicles) (sym facts.vehicle_id)
    ∙ found_by (λ (v : Vehicle). v.id) batch.vehicles facts.vehicle differ facts.vehicle_there in
    let later : batch.time ≤ start_of facts.vehicle batch.settings.lead batch.time
    = start-not_before facts.vehicle batch.settings.lead batch.time plan.is_open_then in
    let same : eqb (version_of batch.vehicles seat.vehicle) (version_of s.vehicles seat.vehicle) ≡ true
    = eq-eqb (version_of batch.vehicles seat.vehicle) (version_of s.vehicles seat.vehicle) (ap (λ vs. version_of vs seat.vehicle) vehicles_stand) in
    let start : priced_start batch seat.vehicle ≡ start_of facts.vehicle batch.settings.lead batch.time
    = priced_start-found batch seat.vehicle facts.vehicle found in
    let not_behind : ltb (priced_start batch seat.vehicle) s.clock ≡ false
    = ap (λ n. ltb n s.clock) start ∙ ap (λ n. ltb (start_of facts.vehicle batch.settings.lead batch.time) n) (sym time_is)
    ∙ le-ltb (start_of facts.vehicle batch.settings.lead batch.time) batch.time later in
    stands (not (eqb (version_of batch.vehicles seat.vehicle) (version_of s.vehicles seat.vehicle)))
    (ltb (priced_start batch seat.vehicle) s.clock) _ _ (ap not same) not_behind
