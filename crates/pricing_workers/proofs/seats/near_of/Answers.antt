use Rattle.pricing_workers.proofs.Common.{◌≡◌, sym, ◌∙◌, subst, All, IsNode, HoldsRows, nodes_of}
use Rattle.pricing_workers.proofs.SeatOffers.{one-on-map, one-held}
use Rattle.pricing_workers.proofs.seats.near_of.Goals as goal

pub towards-roads-requires : goal.towards-roads-requires
towards-roads-requires c =
    subst (λ roads. All (IsNode roads) c.as_slice.result.now) (sym (c.look.ensures ∙ c.pricer.view_is))
    (one-on-map c.args.pricer.now c.args.vehicle.now c.as_slice.result.now (c.as_slice.ensures.value ∙ c.in_ok-nodes.ensures)
    c.requires.lawful)

pub returns-clause-times : goal.returns-clause-times
returns-clause-times c =
    let roads = c.args.pricer.now in
    let v = c.args.vehicle.now in
    let ride = c.args.ride.now in
    let over : c.towards-roads.result.roads ≡ roads = c.towards-roads.ensures.roads ∙ c.look.ensures ∙ c.pricer.view_is in
    let wanted : c.towards-roads.result.wanted ≡ nodes_of v
    = c.towards-roads.ensures.wanted ∙ c.as_slice.ensures.value ∙ c.in_ok-nodes.ensures in
    let rows : HoldsRows roads ride (nodes_of v) c.fill.new.self
    = subst (λ r. HoldsRows r ride (nodes_of v) c.fill.new.self) over
    (subst (λ ns. HoldsRows c.towards-roads.result.roads ride ns c.fill.new.self) wanted c.fill.ensures.rows) in
    c.near.ensures roads ride (one-held roads ride v c.fill.new.self rows)
