use Rattle.idle_moves.proofs.Common.{◌≡◌, ℕ, sym, ap, ◌∙◌, Option, none_from_not_some, column_of, gathered-some, gathered-none, Move, order_at}
use Rattle.idle_moves.proofs.lists.orders_by.Goals as goal
use Rattle.idle_moves.proofs.lists.orders_by.Goals.{in-Some+in_ok-push, in_default}

pub loop-row-preserved : goal.loop-row-preserved
loop-row-preserved c fleet are =
    let row = c.loop-row.row in
    let moves = c.loop-row.moves.items in
    let f : ℕ → Option Move = λ k. order_at c.args.grid.now c.args.requests.now fleet k (column_of c.args.columns.now k) in
    let here : c.order_at.result ≡ f row = c.order_at.ensures fleet are in
    elim c.match-order_at.branch [
      | in-Some+in_ok-push w ↦ ap (λ v. v.items) w.moves-is ∙ w.in_ok-push.ensures.items
          ∙ gathered-some f moves row w.in-Some.order (c.loop-row.invariant fleet are) (sym here ∙ w.in-Some.is)
      | in_default w ↦ ap (λ v. v.items) w.moves-is
          ∙ gathered-none f moves row (c.loop-row.invariant fleet are)
          (sym here ∙ none_from_not_some c.order_at.result w.in_default.not-Some)
    ]
