use Rattle.dual_check.proofs.Common.{ℕ, map, ap, ◌∙◌, item_of, amount_alone}
use Rattle.dual_check.proofs.ItemOrders.{map-map}
use Rattle.dual_check.proofs.spreads.amounts_over.Goals as goal

pub returns : goal.returns
returns c = (
  c.in_ok-amounts.ensures.0,
  c.amounts_alone.ensures
      ∙ ap (map amount_alone) (c.as_slice.ensures.value ∙ c.in_ok-amounts.ensures.1)
      ∙ map-map amount_alone (item_of (λ (item : ℕ × ℕ). item.0) c.args.amounts.now) c.args.ids.now,
)
