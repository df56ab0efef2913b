use Rattle.adaptive_roads.proofs.Common.{◌≡◌, ◌<◌, List, ℕ, length, sym, ap, subst, arith, take_at, level_in, upper_at, AreClosedBelow, AreClosed, IsLinkBy}
use Rattle.adaptive_roads.proofs.road_hierarchy.Marking.{upper-higher, closed-links}
use Rattle.adaptive_roads.proofs.road_hierarchy.marks.marks_of.Goals as goal

pub mark_upward-requires-clause-higher : goal.mark_upward-requires-clause-higher
mark_upward-requires-clause-higher c = λ level place low at.
    let h = c.args.hierarchy.now in
    let d = c.descents_by.result.now in
    let below : level < length h.order = omega (arith, low, ap (λ (os : List ℕ). length os) c.order.ensures.order) in
    let up = upper-higher c.args.side h d.starts.items d.uppers.items c.levels-levels.ensures.fits c.descents_by.ensures level place below at in
    let sized = c.levels-levels.ensures.fits.sized in
    let same = ap (λ (ls : List ℕ). length ls) c.levels-levels.ensures.levels in (
      omega (arith, up.0, sized, same, c.in_ok-marks.ensures.len, c.as_mut_slice-2.ensures.len, c.as_mut_slice.ensures.len),
      omega (arith, up.1, ap (λ ls. level_in ls (upper_at d.uppers.items place).node) c.levels-levels.ensures.levels),
    )

pub returns-clause-closed : goal.returns-clause-closed
returns-clause-closed c =
    let h = c.args.hierarchy.now in
    let d = c.descents_by.result.now in
    let sized : length c.mark_upward.new.marks ≡ c.in_ok-marks.marks.len = omega arith in
    let below = subst (λ order. AreClosedBelow d.starts.items d.uppers.items order (length order) c.mark_upward.new.marks) c.order.ensures.order c.mark_upward.ensures.closed in
    subst (AreClosed (IsLinkBy c.args.side h.arcs) (level_in h.levels)) (sym (take_at c.mark_upward.new.marks _ c.in_ok-marks.marks.len sized))
    (closed-links (IsLinkBy c.args.side h.arcs) h.nodes h.levels h.order d.starts.items d.uppers.items c.mark_upward.new.marks
    c.levels-levels.ensures.fits.ordered c.descents_by.ensures below)
