use Rattle.dual_check.proofs.SeatPlaces.{seats-of-fleet}
use Rattle.dual_check.proofs.OverMaps.{least-over-map}
use Rattle.dual_check.proofs.laws.weak_duality.Goals as goal

pub returns : goal.returns
returns c = λ roads of_map.
    let batch = c.args.batch.now in
    let table = c.args.table.now in
    let seats = c.args.seating.now in
    let are = seats-of-fleet batch table seats c.vehicles.result.now c.requires.fits c.requests-requests.ensures.ids_differ
    c.vehicles.ensures
    c.vehicles-vehicles.ensures.is_fleet c.requires.certified.seating.in_cells in
    least-over-map roads batch table seats c.args.prices.now c.args.pays.now of_map are c.requires.certified
