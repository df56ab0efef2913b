use Rattle.adaptive_roads.proofs.Common.{◌≡◌, length, refl, arith, Out, Back, levelled}
use Rattle.adaptive_roads.proofs.road_hierarchy.Packing.{descents-at, made-packed, made-packing}
use Rattle.adaptive_roads.proofs.road_hierarchy.packed.Goals as goal

pub invariant_of-result : goal.invariant_of-result
invariant_of-result c =
    let made = c.args.made in
    let d = c.in_ok-descents.descents in
    let a = c.in_ok-ascents.ascents in
    let core : c.len-core.result ≡ length made.order.items = omega (arith, c.len-core.ensures) in
    made-packed (levelled made) made.levels.items made.order.items d a (record {
      fits = c.requires.fits;
      all = c.requires.whole;
      levels_same = refl;
      order_same = refl;
      down = descents-at Out _ _ _ _ _ _ d.starts.items d.uppers.items c.as_slice-arcs.ensures.value c.as_slice-levels.ensures.value core c.in_ok-descents.ensures;
      up = descents-at Back _ _ _ _ _ _ a.starts.items a.uppers.items c.as_slice-arcs.ensures.value c.as_slice-levels.ensures.value core c.in_ok-ascents.ensures;
    })

pub returns : goal.returns
returns c =
    let made = c.args.made in
    let d = c.in_ok-descents.descents in
    let a = c.in_ok-ascents.ascents in
    let core : c.len-core.result ≡ length made.order.items = omega (arith, c.len-core.ensures) in
    made-packing (levelled made) made.levels.items made.order.items d a (record {
      fits = c.requires.fits;
      all = c.requires.whole;
      levels_same = refl;
      order_same = refl;
      down = descents-at Out _ _ _ _ _ _ d.starts.items d.uppers.items c.as_slice-arcs.ensures.value c.as_slice-levels.ensures.value core c.in_ok-descents.ensures;
      up = descents-at Back _ _ _ _ _ _ a.starts.items a.uppers.items c.as_slice-arcs.ensures.value c.as_slice-levels.ensures.value core c.in_ok-ascents.ensures;
    })
