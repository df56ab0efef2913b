use Rattle.city_maker.proofs.Common.{ap, sym, ◌∙◌, ◌++◌, append_assoc, append-nil, pairs_at}
use Rattle.city_maker.proofs.ArcLemmas.{joined-same, pairs_in_row, pairs_in_row-more}
use Rattle.city_maker.proofs.roads.Roads.join_row.Goals as goal

pub loop-column-init : goal.loop-column-init
loop-column-init c = λ seed pairs joined.
    joined-same seed _ _ _ (sym (append-nil pairs)) joined

pub loop-column-preserved : goal.loop-column-preserved
loop-column-preserved c = λ seed pairs joined.
    let row = pairs_in_row c.args.side c.args.row c.loop-column.column in
    joined-same seed _ _ _
    (append_assoc pairs row (pairs_at c.args.side c.args.row c.loop-column.column)
    ∙ ap (λ more. pairs ++ more) (sym (pairs_in_row-more c.args.side c.args.row c.loop-column.column)))
    (c.in_ok-join_neighbours.ensures seed (pairs ++ row) (c.loop-column.invariant seed pairs joined))
