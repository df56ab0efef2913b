use Rattle.idle_moves.proofs.Common.{◌<◌, length, sym, subst, IfSome}
use Rattle.idle_moves.proofs.Orders.{order-some}
use Rattle.idle_moves.proofs.lists.order_at.Goals as goal

pub returns : goal.returns
returns c fleet are =
    let column_in = subst (λ o. IfSome o (λ column. column < length c.args.vehicles.now)) c.in_ok-column.was c.requires.column_in in
    order-some c.args.vehicles.now fleet are c.args.grid.now c.args.requests.now c.args.row c.in_ok-column.column c.in_ok-seconds.seconds
    c.args.column _ _ c.requires.row_in column_in c.in_ok-column.was (sym c.in_ok-seconds.ensures)
