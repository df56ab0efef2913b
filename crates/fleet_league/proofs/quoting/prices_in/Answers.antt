use Rattle.fleet_league.proofs.Common.{◌≡◌, ◌*◌, ◌++◌, List, length, sym, ap, ◌∙◌, arith, flat_map, range_with_len, Ride, Vehicle, cost_row}
use Rattle.fleet_league.proofs.PricedRows.{flat-more, length-rows, rows-are}
use Rattle.fleet_league.proofs.quoting.prices_in.Goals as goal

pub loop-ride-preserved : goal.loop-ride-preserved
loop-ride-preserved c =
    let table = c.args.table.now in
    let ride = c.loop-ride.ride in
    let columns : length c.vehicles-vehicles.result.now ≡ length c.args.batch.now.vehicles
    = ap (λ (vs : List Vehicle). length vs) (c.vehicles-vehicles.ensures.items ∙ c.vehicles.ensures) in
    c.in_ok-add_row.ensures
    ∙ (λ i. c.loop-ride.invariant i ++ cost_row table ride (columns i))
    ∙ sym (flat-more (λ r. cost_row table r (length c.args.batch.now.vehicles)) ride)

pub of-requires : goal.of-requires
of-requires c =
    let table = c.args.table.now in
    let columns : length c.vehicles-vehicles.result.now ≡ length c.args.batch.now.vehicles
    = ap (λ (vs : List Vehicle). length vs) (c.vehicles-vehicles.ensures.items ∙ c.vehicles.ensures) in
    let rows : c.loop-ride.ride ≡ length c.requests-rides.result.now = omega arith in
    ap (λ cells. length cells) c.loop-ride.invariant
    ∙ length-rows table c.loop-ride.ride (length c.args.batch.now.vehicles)
    ∙ (λ i. rows i * sym columns i)

pub returns : goal.returns
returns c = λ roads of_batch.
    let columns : length c.vehicles-vehicles.result.now ≡ length c.args.batch.now.vehicles
    = ap (λ (vs : List Vehicle). length vs) (c.vehicles-vehicles.ensures.items ∙ c.vehicles.ensures) in
    let rides : length c.requests-rides.result.now ≡ length c.args.batch.now.requests
    = ap (λ (rs : List Ride). length rs) c.requests-rides.ensures.requests in
    let reached : c.loop-ride.ride ≡ length c.args.batch.now.requests = omega (arith, rides) in
    let cells = c.loop-ride.invariant
    ∙ ap (λ n. flat_map (λ r. cost_row c.args.table.now r (length c.args.batch.now.vehicles)) (range_with_len 0 n)) reached
    ∙ rows-are roads c.args.batch.now c.args.table.now of_batch in
    c.of.ensures ∙ (λ i. record { rows = rides i; columns = columns i; cells = cells i })
