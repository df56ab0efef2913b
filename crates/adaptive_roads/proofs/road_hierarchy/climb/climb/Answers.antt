use Rattle.adaptive_roads.proofs.Common.{◌≡◌, length, subst, arith, length-set}
use Rattle.adaptive_roads.proofs.road_hierarchy.Climbing.{IsClimbing, climbing-begun, climbing-more, climbing-over}
use Rattle.adaptive_roads.proofs.road_hierarchy.climb.climb.Goals as goal

pub loop-level-init : goal.loop-level-init
loop-level-init c =
    let d = c.args.ascents.now in
    climbing-begun c.args.levels.now d.starts.items d.uppers.items c.args.first c.clear.new.labels (omega (arith, c.requires.first, c.clear.auto.labels))
    (λ level low. c.clear.ensures level (omega (arith, low, c.clear.auto.labels)))

pub loop-level-preserved : goal.loop-level-preserved
loop-level-preserved c =
    let d = c.args.ascents.now in
    let level = c.loop-level.level in
    let sized = length-set c.clear.new.labels c.args.first 0 in
    climbing-more c.args.levels.now d.starts.items d.uppers.items c.at.result.now (length c.args.labels.now) c.args.first level c.loop-level.labels c.relax.new.labels
    c.requires.parts (omega (arith, c.loop-level-test.true, sized, c.clear.auto.labels)) (omega (arith, c.loop-level.auto.level)) c.at.ensures
    (λ low place below at. (c.requires.higher low place below at).0) c.loop-level.invariant c.relax.ensures

pub returns : goal.returns
returns c =
    let d = c.args.ascents.now in
    let sized = length-set c.clear.new.labels c.args.first 0 in
    let all : c.loop-level.level ≡ length c.args.labels.now
    = omega (arith, c.loop-level-test.false, sized, c.clear.auto.labels, c.loop-level.auto.level-end, c.requires.first) in
    climbing-over c.args.levels.now d.starts.items d.uppers.items c.args.first (length c.args.labels.now) c.loop-level.labels
    (subst (λ n. IsClimbing c.args.levels.now d.starts.items d.uppers.items c.args.first n c.loop-level.labels) all c.loop-level.invariant)
