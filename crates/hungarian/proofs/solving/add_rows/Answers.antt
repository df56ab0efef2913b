use Rattle.hungarian.proofs.Common.{subst, arith, IsPartial}
use Rattle.hungarian.proofs.solving.add_rows.Goals as goal

pub returns : goal.returns
returns c =
    subst (λ n. IsPartial c.args.grid.now c.args.penalty n c.loop-row.matches c.loop-row.duals)
    (omega (arith, c.loop-row-test.false, c.loop-row.auto.row-end, c.rows-row-end.ensures.rows)) c.loop-row.invariant.partial
