use Rattle.adaptive_roads.proofs.road_hierarchy.Marking.{closed-more}
use Rattle.adaptive_roads.proofs.road_hierarchy.marks.mark_upward.Goals as goal

pub loop-level-preserved : goal.loop-level-preserved
loop-level-preserved c =
    let d = c.args.descents.now in
    let level = c.loop-level.level in
    record {
      kept = λ node mark. c.mark_uppers.ensures.kept node (c.loop-level.invariant.kept node mark);
      closed = closed-more d.starts.items d.uppers.items c.at.result.now c.args.order.now c.args.levels.now level c.loop-level.marks c.mark_uppers.new.marks
          c.requires.parts c.loop-level-test.true c.at.ensures (λ k low. (c.requires.ordered k low).1)
          (λ place at. (c.requires.higher level place c.loop-level-test.true at).1) c.mark_uppers.ensures.marked c.mark_uppers.ensures.kept c.mark_uppers.ensures.others c.loop-level.invariant.closed;
    }
