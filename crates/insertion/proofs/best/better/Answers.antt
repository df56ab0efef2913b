use Rattle.insertion.proofs.Common.{◌≡◌, ℕ, ◌≤◌, Bool, true, false, cond, min, leb-true, sym, ◌∙◌, ap, subst, arith, Option, Some, None, Offer, Ride, Vehicle, RoadMap, lesser, keeps, is_by, IsDrawn, IsDrawnFor, cost_if_any}
use Rattle.insertion.proofs.LeastOffers.{lesser-none}
use Rattle.insertion.proofs.best.better.Goals as goal

-- the lesser of a number and one that is not below it
no-lesser : (best : Option ℕ) (cost : ℕ) → is_by cost best ≡ true → best ≡ lesser best (Some cost)
no-lesser None cost h = absurd (cc h)
no-lesser (Some b) cost h = ap Some (least b cost (leb-true b cost h))
  where
    least : (x y : ℕ) → x ≤ y → x ≡ min x y
    least x y order = omega (arith, order)

-- an offer that costs no less, kept or not
no-better : (roads : RoadMap) (v : Vehicle) (ride : Ride) (dwell : ℕ) (best : Option ℕ) (given : Option Offer) (drawn : Offer) (offer : Option Offer)
    → given ≡ Some drawn → is_by drawn.cost best ≡ true → IsDrawnFor roads v ride dwell given offer → best ≡ lesser best (cost_if_any offer)
no-better roads v ride dwell best given drawn offer is dear h =
    let d : IsDrawn roads v ride dwell drawn offer = subst (λ o. IsDrawnFor roads v ride dwell o offer) is h in
    by_plan (keeps d.new drawn.start dwell) ∙ ap (λ o. lesser best (cost_if_any o)) (sym d.offer_is)
  where
    by_plan : (b : Bool) → best ≡ lesser best (cost_if_any (cond b (Some drawn) None))
    by_plan true = no-lesser best drawn.cost dear
    by_plan false = sym (lesser-none best)

pub returns-then-is_by-clause-cost : goal.returns-then-is_by-clause-cost
returns-then-is_by-clause-cost c = λ roads offer h.
    no-better roads c.args.vehicle.now c.args.ride.now c.args.dwell (cost_if_any c.args.best) c.args.drawn c.in-Some.drawn offer c.in-Some.is
    (sym (c.is_by.ensures ∙ ap (is_by c.in-Some.drawn.cost) c.cost_if_any.ensures) ∙ c.if-is_by.true) h
