use Rattle.adaptive_roads.proofs.Common.{ap, arith, subst, RoadMap}
use Rattle.adaptive_roads.specs.inner.Made.{IsMadeOf}
use Rattle.adaptive_roads.specs.inner.Seen.{IsSeenOf}
use Rattle.adaptive_roads.proofs.travel_times.TravelTimes.selections.Goals as goal

pub of-requires : goal.of-requires
of-requires c = λ k d low.
    let roads : RoadMap = c.self.inside.roads.now in
    let made : IsMadeOf roads c.in-There.hierarchy.now = subst (IsSeenOf roads) c.in-There.is c.self.invariant.1 in
    let (one, high) = c.requires k d low in
    (one, omega (arith, high, made.nodes, ap (λ (map : RoadMap). map.nodes) c.self.view_is))
