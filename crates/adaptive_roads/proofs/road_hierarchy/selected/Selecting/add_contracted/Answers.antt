use Rattle.adaptive_roads.proofs.Common.{◌≡◌, ◌+◌, ◌-◌, ◌<◌, List, [], ◌∷◌, ◌++◌, ℕ, length, get_or, set, ◌∙◌, ap, subst, arith, level_in, IsLinkBy, IsMarked, node_at, IsSelectingOf, IsFrom}
use Rattle.adaptive_roads.proofs.road_hierarchy.Selecting.{selecting-few}
use Rattle.adaptive_roads.proofs.road_hierarchy.Choosing.{contracted-added, part-inside}
use Rattle.adaptive_roads.proofs.road_hierarchy.selected.Selecting.add_contracted.Goals as goal

pub add_below-requires-clause-few : goal.add_below-requires-clause-few
add_below-requires-clause-few c =
    let h = c.args.hierarchy.now in
    let s = c.loop-level.self in
    let few = selecting-few (IsLinkBy c.args.side h.arcs) (level_in h.levels) (h.nodes + 1) c.args.marks.now (IsFrom h.levels c.loop-level.level)
    s.nodes.items s.starts.items s.steps.items s.places.items c.loop-level.invariant.selecting (omega arith) in
    omega (arith, few, c.order-order.ensures.few)

pub add_below-requires-clause-inside : goal.add_below-requires-clause-inside
add_below-requires-clause-inside c = λ k low.
    let h = c.args.hierarchy.now in
    let d = c.descents_by-descents.result.now in
    let level = c.loop-level.level - 1 in
    let same = ap (λ (os : List ℕ). length os) c.order-order.ensures.order in
    let below : level < length h.order = omega (arith, c.loop-level.invariant.low, c.loop-level-test.true, same) in
    let inside = part-inside c.args.side h d.starts.items d.uppers.items c.at.result.now level c.order-order.ensures.fits c.descents_by-descents.ensures below c.at.ensures k low in
    omega (arith, inside, c.loop-level.invariant.selecting.room)

pub loop-level-preserved : goal.loop-level-preserved
loop-level-preserved c =
    let h = c.args.hierarchy.now in
    let d = c.descents_by-descents.result.now in
    let level = c.loop-level.level - 1 in
    let same = ap (λ (os : List ℕ). length os) c.order-order.ensures.order in
    let below : level < length h.order = omega (arith, c.loop-level.invariant.low, c.loop-level-test.true, same) in
    let back : c.loop-level.level ≡ level + 1 = omega (arith, c.loop-level-test.true) in
    let node_is : get_or c.order-order.result.now level 0 ≡ node_at h.order level = ap (λ os. get_or os level 0) c.order-order.ensures.order in
    let marked : IsMarked c.args.marks.now (node_at h.order level) = subst (IsMarked c.args.marks.now) node_is c.if-not-marks-node.false in
    record {
      low = omega (arith, c.loop-level.invariant.low);
      selecting = contracted-added c.args.side h c.args.marks.now d.starts.items d.uppers.items c.at.result.now level c.loop-level.self c.add_below.new.self
          c.order-order.ensures.fits c.descents_by-descents.ensures c.requires.closed
          (subst (λ n. IsSelectingOf h c.args.side c.args.marks.now (IsFrom h.levels n) c.loop-level.self) back c.loop-level.invariant.selecting) below c.at.ensures
          marked (c.in_ok-add_below.ensures.nodes ∙ ap (λ n. c.loop-level.self.nodes.items ++ n ∷ []) node_is) c.in_ok-add_below.ensures.starts c.in_ok-add_below.ensures.steps
          (c.in_ok-add_below.ensures.places ∙ ap (λ n. set c.loop-level.self.places.items n (length c.loop-level.self.nodes.items)) node_is);
    }
