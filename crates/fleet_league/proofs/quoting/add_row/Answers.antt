use Rattle.fleet_league.proofs.Common.{[], ◌∷◌, ◌++◌, sym, ap, ◌∙◌, arith, append_assoc, map-range_with_len_more, cell_at, cost_in, cost_row}
use Rattle.fleet_league.proofs.quoting.add_row.Goals as goal

pub loop-vehicle-preserved : goal.loop-vehicle-preserved
loop-vehicle-preserved c =
    let table = c.args.table.now in
    let ride = c.args.ride in
    let vehicle = c.loop-vehicle.vehicle in
    let cells = c.args.cells.now.items in
    let one = cost_in (cell_at table ride vehicle) in
    c.in_ok-push.ensures.items
    ∙ ap (λ cost. c.loop-vehicle.cells.items ++ cost ∷ []) c.cost_at.ensures
    ∙ ap (λ items. items ++ one ∷ []) c.loop-vehicle.invariant
    ∙ append_assoc cells (cost_row table ride vehicle) (one ∷ [])
    ∙ ap (λ items. cells ++ items) (sym (map-range_with_len_more (λ column. cost_in (cell_at table ride column)) 0 vehicle vehicle (omega arith)))
