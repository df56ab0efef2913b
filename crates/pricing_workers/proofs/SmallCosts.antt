-- The costs of a batch's table are small.
use Rattle.pricing_workers.proofs.Common.{◌≡◌, ℕ, ◌^◌, ◌<◌, List, [], ◌∷◌, length, Option, Some, None, arith, IfSome, MatchOption, slice_index_or, All, All-get_or, Offer, Ride, Vehicle, price, RoadMap, IsRoadMap, BatchCopy, IsBatchOver, IsRide, IsRouted, IsFresh, Table, cell_at, HasSmallCosts, IsLeastOffer, IsTableOf}
use Rattle.model_laws.proofs.Costs.{cost-lt}

-- an element of a list that has one
some_item : {X : Type 0} (n : ℕ) (xs : List X) → n < length xs → X
some_item n [] within = absurd (omega arith)
some_item n (x ∷ xs) within = x

-- each cell of a batch's table has a cost below 2^42
pub small-costs : (roads : RoadMap) (batch : BatchCopy) (table : Table) → IsRoadMap roads → IsBatchOver roads batch
    → IsTableOf roads batch table → HasSmallCosts table
small-costs roads batch table map over is r c row_in column_in =
    let request_in : r < length batch.requests = omega (arith, is.fits.rows_are) in
    let vehicle_in : c < length batch.vehicles = omega (arith, is.fits.columns_are) in
    by_cell (some_item r batch.requests request_in) (some_item c batch.vehicles vehicle_in) request_in vehicle_in
  where
    by_offer : (ride : Ride) (v : Vehicle) (cell : Option Offer) → IsRide roads ride → ride.picked ≡ None → IsFresh v.rides.items ride.id
        → IsRouted roads v
        → MatchOption cell (price roads batch.settings v ride batch.time ≡ None) (IsLeastOffer roads batch ride v)
        → IfSome cell (λ (offer : Offer). offer.cost < 2 ^ 42)
    by_offer ride v None fits waits fresh routed offered = tt
    by_offer ride v (Some offer) fits waits fresh routed offered =
        cost-lt roads batch.settings v ride batch.time offer.i offer.j offer map over.settings_fit routed fits fresh waits offered.offered

    by_cell : Ride → Vehicle → r < length batch.requests → c < length batch.vehicles
        → IfSome (cell_at table r c) (λ (offer : Offer). offer.cost < 2 ^ 42)
    by_cell ride v request_in vehicle_in =
        by_offer (slice_index_or batch.requests r ride) (slice_index_or batch.vehicles c v) (cell_at table r c)
        (All-get_or (IsRide roads) batch.requests r ride request_in over.rides_fit)
        (All-get_or (λ (q : Ride). q.picked ≡ None) batch.requests r ride request_in over.rides_wait)
        (All-get_or (λ (w : Vehicle). IsFresh w.rides.items (slice_index_or batch.requests r ride).id) batch.vehicles c v vehicle_in
        (All-get_or (λ (q : Ride). All (λ (w : Vehicle). IsFresh w.rides.items q.id) batch.vehicles) batch.requests r ride request_in over.rides_fresh))
        (All-get_or (IsRouted roads) batch.vehicles c v vehicle_in over.vehicles_fit)
        (is.cells_are r c ride v request_in vehicle_in)
