use Rattle.adaptive_roads.proofs.Common.{length, refl, arith, node_at, climb_to}
use Rattle.adaptive_roads.proofs.road_hierarchy.Labels.{swept-more, part-low}
use Rattle.adaptive_roads.proofs.road_hierarchy.sweep.sweep.Goals as goal

pub least-requires-clause-low : goal.least-requires-clause-low
least-requires-clause-low c =
    part-low c.args.starts.now c.args.steps.now _ (climb_to c.args.ranks.now c.args.climbs.now) c.loop-place.labels (length c.args.ranks.now) c.loop-place.place
    c.requires.parts c.requires.earlier c.loop-place-test.true refl (λ p. c.requires.low (node_at c.args.ranks.now p)) c.loop-place.invariant

pub loop-place-preserved : goal.loop-place-preserved
loop-place-preserved c =
    let least = c.least.ensures in
    swept-more c.args.starts.now c.args.steps.now _ (climb_to c.args.ranks.now c.args.climbs.now) c.loop-place.labels (length c.args.ranks.now) c.loop-place.place c.least.result
    c.requires.parts c.requires.earlier c.loop-place-test.true (omega (arith, c.requires.room, c.loop-place.auto.labels)) refl least.climbed least.stepped
    least.attained c.loop-place.invariant
