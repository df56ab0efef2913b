use Rattle.adaptive_roads.proofs.Common.{◌≡◌, length, ◌∙◌, ap, subst, arith, Contracted, IsFitContraction, IsWhole, IsMeeting}
use Rattle.adaptive_roads.proofs.road_hierarchy.Meeting.{meeting-is_travel}
use Rattle.adaptive_roads.proofs.road_hierarchy.Hierarchy.time.Goals as goal

pub returns-clause-time : goal.returns-clause-time
returns-clause-time c = λ roads fits is.
    let h = c.args.self.now in
    let ups = c.climb.new.climbs in
    let downs = c.climb-2.new.climbs in
    let fit = subst IsFitContraction c.self.view_is c.self.invariant.fits in
    let whole = subst IsWhole c.self.view_is c.self.invariant.whole in
    let all = ap (λ (k : Contracted). length k.order) c.self.view_is in
    let levels : length ups ≡ length h.order
    = omega (arith, all, c.climb.auto.climbs, c.split_at_mut-ups.ensures.front_len, c.len-nodes.ensures) in
    c.time_for.ensures
    ∙ meeting-is_travel roads h c.args.x c.args.y ups downs c.least_sum.result fits is fit whole c.requires.some_from c.requires.from
    c.climb.ensures.climbs c.climb-2.ensures.climbs (subst (λ count. IsMeeting ups downs count c.least_sum.result) levels c.least_sum.ensures)
