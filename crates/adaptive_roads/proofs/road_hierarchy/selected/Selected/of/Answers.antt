use Rattle.adaptive_roads.proofs.Common.{◌≡◌, ℕ, ◌<◌, Bool, List, length, sym, arith, ◌∙◌, ap, subst, map, All, length-map, All-from_get_or, level_in, IsMarked, node_at}
use Rattle.adaptive_roads.proofs.road_hierarchy.Selecting.{wanted-read}
use Rattle.adaptive_roads.proofs.road_hierarchy.Choosing.{selecting-none, wanted-placed, places-laid_out, selection-made}
use Rattle.adaptive_roads.proofs.road_hierarchy.selected.Selected.of.Goals as goal

pub invariant_of-result : goal.invariant_of-result
invariant_of-result c =
    let marks = c.deref.result.now in
    let s = c.add_contracted.new.self in
    let wanted = c.args.wanted.now in
    let marked : (place : ℕ) → place < length wanted → IsMarked marks (node_at wanted place)
    = λ place low. subst (λ (ms : List Bool). IsMarked ms (node_at wanted place)) (sym c.deref.ensures.value) (c.in_ok-marks.ensures.wanted place low) in
    let read = c.in_ok-places.ensures ∙ ap (λ ps. map (node_at ps) wanted) c.deref-2.ensures.value in (
      places-laid_out c.args.side c.args.hierarchy.now marks s wanted c.in_ok-places.places.items c.in_ok-add_contracted.ensures c.requires marked read,
      ap (λ (rs : List ℕ). length rs) c.in_ok-ranks.ensures ∙ length-map c.deref-3.result.now (level_in c.levels.result.now)
          ∙ ap (λ (ns : List ℕ). length ns) c.deref-3.ensures.value,
    )

pub returns-clause-selection : goal.returns-clause-selection
returns-clause-selection c =
    let s = c.add_contracted.new.self in
    let ranked : c.in_ok-ranks.ranks.items ≡ map (level_in c.args.hierarchy.now.levels) s.nodes.items
    = c.in_ok-ranks.ensures ∙ ap (map (level_in c.levels.result.now)) c.deref-3.ensures.value ∙ ap (λ ls. map (level_in ls) s.nodes.items) c.levels.ensures.levels in
    selection-made c.args.side c.args.hierarchy.now c.deref.result.now s c.in_ok-ranks.ranks.items c.in_ok-places.places.items c.in_ok-add_contracted.ensures ranked

pub returns-clause-wanted : goal.returns-clause-wanted
returns-clause-wanted c =
    let marks = c.deref.result.now in
    let s = c.add_contracted.new.self in
    let wanted = c.args.wanted.now in
    let marked : (place : ℕ) → place < length wanted → IsMarked marks (node_at wanted place)
    = λ place low. subst (λ (ms : List Bool). IsMarked ms (node_at wanted place)) (sym c.deref.ensures.value) (c.in_ok-marks.ensures.wanted place low) in
    let read = c.in_ok-places.ensures ∙ ap (λ ps. map (node_at ps) wanted) c.deref-2.ensures.value in
    ap (map (node_at s.nodes.items)) read
    ∙ wanted-read s.nodes.items s.places.items wanted
    (λ k low. (wanted-placed c.args.side c.args.hierarchy.now marks s wanted c.in_ok-add_contracted.ensures c.requires marked k low).1)

pub add_contracted-requires-clause-none : goal.add_contracted-requires-clause-none
add_contracted-requires-clause-none c =
    let s = c.in_ok-selecting.selecting in
    let new = c.in_ok-selecting.ensures in
    selecting-none c.args.side c.args.hierarchy.now c.deref.result.now s c.nodes.ensures.whole new.nodes new.starts new.steps (omega (arith, new.places, c.nodes.ensures.nodes))

pub ranks_of-requires : goal.ranks_of-requires
ranks_of-requires c =
    let s = c.add_contracted.new.self in
    subst (All (λ node. node < length c.levels.result.now)) (sym c.deref-3.ensures.value)
    (All-from_get_or (λ node. node < length c.levels.result.now) s.nodes.items 0 (λ k low.
    let (_, high) = c.in_ok-add_contracted.ensures.inside k low in
    omega (arith, high, c.levels.ensures.fits.sized, ap (λ (ls : List ℕ). length ls) c.levels.ensures.levels)))
