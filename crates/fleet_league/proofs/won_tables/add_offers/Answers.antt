use Rattle.fleet_league.proofs.Common.{[], ◌∷◌, ◌++◌, sym, ap, ◌∙◌, arith, append_assoc, map-range_with_len_more, cell_at, offer_row}
use Rattle.fleet_league.proofs.won_tables.add_offers.Goals as goal

pub loop-vehicle-preserved : goal.loop-vehicle-preserved
loop-vehicle-preserved c =
    let table = c.args.table.now in
    let row = c.args.row in
    let vehicle = c.loop-vehicle.vehicle in
    let cells = c.args.cells.now.items in
    let one = cell_at table row vehicle in
    c.in_ok-push.ensures.items
    ∙ ap (λ cell. c.loop-vehicle.cells.items ++ cell ∷ []) (c.copied.ensures ∙ c.cell.ensures)
    ∙ ap (λ items. items ++ one ∷ []) c.loop-vehicle.invariant
    ∙ append_assoc cells (offer_row table row vehicle) (one ∷ [])
    ∙ ap (λ items. cells ++ items) (sym (map-range_with_len_more (λ column. cell_at table row column) 0 vehicle vehicle (omega arith)))
