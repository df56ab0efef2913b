use Rattle.hungarian.proofs.Common.{[], ◌∷◌, ◌++◌, get_or, sym, ap, ◌∙◌, arith, get_or-map, map-range_with_len_more, Ride, ride_ids}
use Rattle.hungarian.proofs.seating.prices_by.Goals as goal

pub loop-row-preserved : goal.loop-row-preserved
loop-row-preserved c =
    let row = c.loop-row.row in
    let requests = c.args.requests.now in
    let amounts = c.args.amounts.now in
    c.in_ok-push.ensures.items
    ∙ ap (λ id. c.loop-row.prices.items ++ (id, get_or amounts row 0) ∷ [])
    (sym (get_or-map (λ (ride : Ride). ride.id) requests row _ 0 c.loop-row-test.true))
    ∙ ap (λ xs. xs ++ (get_or (ride_ids requests) row 0, get_or amounts row 0) ∷ []) c.loop-row.invariant
    ∙ sym (map-range_with_len_more (λ k. (get_or (ride_ids requests) k 0, get_or amounts k 0)) 0 row row (omega arith))
