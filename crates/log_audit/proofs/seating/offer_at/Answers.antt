use Rattle.log_audit.proofs.Common.{◌≡◌, ℕ, sym, ◌∙◌, subst, Option, Some, None, MatchOption, slice_index_or, Offer, Ride, Vehicle, offer_of, price, RoadMap, BatchCopy, IsLeastOffer}
use Rattle.log_audit.proofs.seating.offer_at.Goals as goal

-- a cell with an offer has that of its places
own-offer : (roads : RoadMap) (batch : BatchCopy) (ride : Ride) (v : Vehicle) (cell : Option Offer) (least : Offer) (i j : ℕ) → Some least ≡ cell
    → MatchOption cell (price roads batch.settings v ride batch.time ≡ None) (IsLeastOffer roads batch ride v) → least.i ≡ i → least.j ≡ j
    → Some least ≡ offer_of roads batch.settings v ride batch.time i j
own-offer roads batch ride v cell least i j is h i_is j_is =
    let own : IsLeastOffer roads batch ride v least
    = subst (λ o. MatchOption o (price roads batch.settings v ride batch.time ≡ None) (IsLeastOffer roads batch ride v)) (sym is) h in
    sym own.offered ∙ (λ k. offer_of roads batch.settings v ride batch.time (i_is k) (j_is k))

pub returns-in-Some-clause-offer : goal.returns-in-Some-clause-offer
returns-in-Some-clause-offer c = λ ride v.
    let batch = c.args.batch.now in
    own-offer c.args.pricing.now batch (slice_index_or batch.requests c.args.seat.request ride)
    (slice_index_or batch.vehicles c.args.seat.vehicle v) _ c.in-Some.least.now c.args.seat.i c.args.seat.j (c.in-Some.ensures)
    (c.requires.table.cells_are c.args.seat.request c.args.seat.vehicle ride v c.requires.seat.request_in c.requires.seat.vehicle_in)
    c.if-least-seat.true c.if-least-seat-2.true
