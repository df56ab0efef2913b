use Rattle.city_maker.proofs.Common.{◌+◌, ◌++◌, [], ◌∷◌, sym, ap, ◌∙◌, append_assoc, append-nil, node_at}
use Rattle.city_maker.proofs.ArcLemmas.{joined-at, joined-same, pairs_at-both, pairs_at-right, pairs_at-lower, pairs_at-none}
use Rattle.city_maker.proofs.roads.Roads.join_neighbours.Goals as goal
use Rattle.city_maker.proofs.roads.Roads.join_neighbours.Goals.{then-column-side+in_ok-join, else-column-side}

pub returns-in_ok-join-2 : goal.returns-in_ok-join-2
returns-in_ok-join-2 c = λ seed pairs joined.
    let side = c.args.side in
    let row = c.args.row in
    let column = c.args.column in
    let node = node_at side row column in
    elim c.if-column-side.branch [
      | then-column-side+in_ok-join w ↦
          joined-same seed _ _ _
          (append_assoc pairs ((node, node + 1) ∷ []) ((node, node + side) ∷ [])
          ∙ ap (λ more. pairs ++ more) (sym (pairs_at-both side row column w.if-column-side.true c.if-row-side.true)))
          (c.in_ok-join-2.ensures seed (pairs ++ (node, node + 1) ∷ [])
          (joined-at seed (pairs ++ (node, node + 1) ∷ []) _ _ w.self-is (w.in_ok-join.ensures seed pairs joined)))
      | else-column-side w ↦
          joined-same seed _ _ _ (ap (λ more. pairs ++ more) (sym (pairs_at-lower side row column w.if-column-side.false c.if-row-side.true)))
          (c.in_ok-join-2.ensures seed pairs (joined-at seed pairs _ _ w.self-is joined))
    ]

pub returns-else-row-side : goal.returns-else-row-side
returns-else-row-side c = λ seed pairs joined.
    let side = c.args.side in
    let row = c.args.row in
    let column = c.args.column in
    elim c.if-column-side.branch [
      | then-column-side+in_ok-join w ↦
          joined-at seed _ _ _ w.self-is
          (joined-same seed _ _ _ (ap (λ more. pairs ++ more) (sym (pairs_at-right side row column w.if-column-side.true c.if-row-side.false)))
          (w.in_ok-join.ensures seed pairs joined))
      | else-column-side w ↦
          joined-at seed _ _ _ w.self-is
          (joined-same seed _ _ _ (sym (ap (λ more. pairs ++ more) (pairs_at-none side row column w.if-column-side.false c.if-row-side.false) ∙ append-nil pairs)) joined)
    ]
