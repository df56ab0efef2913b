use Rattle.dual_check.proofs.Common.{◌∙◌, ap, subst, sym, eqb, rules, MatchBool, IsDistinct, ride_ids, CertifiesOverCells}
use Rattle.dual_check.proofs.PairingParts.{decided-like}
use Rattle.dual_check.proofs.SeatPlaces.{seats-of-fleet}
use Rattle.dual_check.proofs.OverMaps.{certified-over-map, certified-over-cells}
use Rattle.dual_check.proofs.batch_check.certifies.Goals as goal

pub certifies_over_cells-requires-clause-requests_are : goal.certifies_over_cells-requires-clause-requests_are
certifies_over_cells-requires-clause-requests_are c =
    c.as_slice.ensures.value ∙ c.ids_of-requests.ensures ∙ ap ride_ids c.requests.ensures.requests

pub certifies_over_cells-requires-clause-requests_differ : goal.certifies_over_cells-requires-clause-requests_differ
certifies_over_cells-requires-clause-requests_differ c =
    subst (IsDistinct eqb) (sym (c.as_slice.ensures.value ∙ c.ids_of-requests.ensures ∙ ap ride_ids c.requests.ensures.requests))
    c.requests.ensures.ids_differ

pub returns-clause-over_maps : goal.returns-clause-over_maps
returns-clause-over_maps c = λ roads of_map.
    let batch = c.args.batch.now in
    let table = c.args.table.now in
    let seats = c.args.seating.now in
    let prices = c.args.prices.now in
    let pays = c.args.pays.now in
    let are = seats-of-fleet batch table seats c.vehicles.result.now c.requires.fits c.requests.ensures.ids_differ
    c.vehicles.ensures
    c.vehicles-2.ensures.is_fleet c.requires.in_cells in
    let over_cells : MatchBool c.certifies_over_cells.result
    (CertifiesOverCells batch table seats prices pays) (CertifiesOverCells batch table seats prices pays → ⊥)
    = search rules in
    decided-like c.certifies_over_cells.result
    (certified-over-map roads batch table seats prices pays of_map are)
    (certified-over-cells roads batch table seats prices pays of_map are) over_cells
