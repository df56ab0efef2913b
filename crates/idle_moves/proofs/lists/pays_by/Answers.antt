use Rattle.idle_moves.proofs.Common.{◌≡◌, ℕ, sym, ap, ◌∙◌, Option, none_from_not_some, vehicle_ids, price_at, pay_at, gathered-some, gathered-none}
use Rattle.idle_moves.proofs.Orders.{id-read}
use Rattle.idle_moves.proofs.lists.pays_by.Goals as goal
use Rattle.idle_moves.proofs.lists.pays_by.Goals.{in-Some+in_ok-push, in_default}

pub loop-column-preserved : goal.loop-column-preserved
loop-column-preserved c fleet are =
    let column = c.loop-column.column in
    let pays = c.loop-column.pays.items in
    let ids = vehicle_ids fleet in
    let amounts = c.args.amounts.now in
    let f : ℕ → Option (ℕ × ℕ) = λ k. pay_at (price_at ids k) (price_at amounts k) in
    let here : c.pay_at.result ≡ f column = c.pay_at.ensures
    ∙ ap (λ id. pay_at id (price_at amounts column)) (id-read c.args.vehicles.now fleet are column _ c.loop-column-test.true) in
    elim c.match-pay_at.branch [
      | in-Some+in_ok-push w ↦ ap (λ v. v.items) w.pays-is ∙ w.in_ok-push.ensures.items
          ∙ gathered-some f pays column w.in-Some.pay (c.loop-column.invariant fleet are) (sym here ∙ w.in-Some.is)
      | in_default w ↦ ap (λ v. v.items) w.pays-is
          ∙ gathered-none f pays column (c.loop-column.invariant fleet are)
          (sym here ∙ none_from_not_some c.pay_at.result w.in_default.not-Some)
    ]
