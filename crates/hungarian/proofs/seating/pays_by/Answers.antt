use Rattle.hungarian.proofs.Common.{◌≡◌, ℕ, sym, ap, ◌∙◌, Option, get_or-map, none_from_not_some, Vehicle, vehicle_ids, price_at, pay_at}
use Rattle.hungarian.proofs.Gathering.{gathered-some, gathered-none}
use Rattle.hungarian.proofs.seating.pays_by.Goals as goal
use Rattle.hungarian.proofs.seating.pays_by.Goals.{in-Some+in_ok-push, in_default}

pub loop-column-preserved : goal.loop-column-preserved
loop-column-preserved c =
    let column = c.loop-column.column in
    let pays = c.loop-column.pays.items in
    let ids = vehicle_ids c.args.vehicles.now in
    let amounts = c.args.amounts.now in
    let f : ℕ → Option (ℕ × ℕ) = λ k. pay_at (price_at ids k) (price_at amounts k) in
    let id_is = sym (get_or-map (λ (v : Vehicle). v.id) c.args.vehicles.now column c.index-vehicles-column.result 0 c.loop-column-test.true) in
    let here : c.pay_at.result ≡ f column = c.pay_at.ensures ∙ ap (λ id. pay_at id (price_at amounts column)) id_is in
    elim c.match-pay_at.branch [
      | in-Some+in_ok-push w ↦ ap (λ v. v.items) w.pays-is ∙ w.in_ok-push.ensures.items
          ∙ gathered-some f pays column w.in-Some.pay c.loop-column.invariant (sym here ∙ w.in-Some.is)
      | in_default w ↦ ap (λ v. v.items) w.pays-is
          ∙ gathered-none f pays column c.loop-column.invariant
          (sym here ∙ none_from_not_some c.pay_at.result w.in_default.not-Some)
    ]
