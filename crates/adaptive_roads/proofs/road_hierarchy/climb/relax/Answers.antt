use Rattle.adaptive_roads.proofs.Common.{◌≡◌, ◌+◌, inl, inr, get_or, arith, cases_lt, get_or_default, upper_at, level_of, node_at}
use Rattle.adaptive_roads.proofs.road_hierarchy.Climbing.{relaxed-more}
use Rattle.adaptive_roads.proofs.road_hierarchy.climb.relax.Goals as goal

pub loop-upper-preserved : goal.loop-upper-preserved
loop-upper-preserved c =
    let levels = c.args.levels.now in
    let uppers = c.args.uppers.now in
    let now = c.loop-upper.labels in
    let k = c.loop-upper.upper-index in
    let low = c.loop-upper-test.true in
    let level = get_or levels (upper_at uppers k).node 0 in
    let is : level_of levels uppers k ≡ level = get_or_default levels (upper_at uppers k).node 4294967295 0 (c.requires.known k low) in
    let least = c.min.ensures in
    let seconds = c.from.ensures in
    relaxed-more levels uppers k c.args.label c.args.labels.now now level c.min.result c.loop-upper.invariant is
    (omega (arith, c.requires.inside k low, is, c.loop-upper.auto.labels)) (omega arith) (omega arith)
    (elim (cases_lt (node_at now level) (c.args.label + (upper_at uppers k).seconds)) [
      | inl lower ↦ inl (omega arith)
      | inr higher ↦ inr (omega arith)
    ])
