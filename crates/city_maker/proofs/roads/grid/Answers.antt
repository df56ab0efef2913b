use Rattle.city_maker.proofs.Common.{sym}
use Rattle.city_maker.proofs.ArcLemmas.{joined-none, joined-same, pairs_in_rows, pairs_in_rows-more}
use Rattle.city_maker.proofs.roads.grid.Goals as goal

pub loop-row-init : goal.loop-row-init
loop-row-init c = joined-none c.args.seed _ c.new.ensures.items c.new-2.ensures

pub loop-row-preserved : goal.loop-row-preserved
loop-row-preserved c =
    joined-same _ _ _ _ (sym (pairs_in_rows-more c.args.side c.loop-row.row))
    (c.in_ok-join_row.ensures c.args.seed (pairs_in_rows c.args.side c.loop-row.row) c.loop-row.invariant)
