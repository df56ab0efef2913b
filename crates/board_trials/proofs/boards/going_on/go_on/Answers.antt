use Rattle.std.proofs.Common.{sym, subst}
use Rattle.batch_commit.specs.inner.Table.{IsPriceable}
use Rattle.board_core.proofs.OpenBatches.{open-priceable}
use Rattle.board_trials.proofs.boards.going_on.go_on.Goals as goal

pub desk_loop-ran-requires-clause-priceable : goal.desk_loop-ran-requires-clause-priceable
desk_loop-ran-requires-clause-priceable g c κs fine =
    let board = c.args.board in
    let batch = c.args.batch in
    let said = c.entries-history.ensures in
    subst (λ roads. IsPriceable roads batch) (sym c.requires.roads)
    (open-priceable board batch.desk batch.number batch said.start said.legal c.requires.held)
