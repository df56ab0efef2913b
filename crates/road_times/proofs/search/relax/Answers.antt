use Rattle.road_times.proofs.Common.{◌≡◌, ◌+◌, get_or, sym, ap, ◌∙◌, subst, Some, None, not, slice_get, slice_get-get_or, none_from_is_some, Neighbor, key_of, lesser_key, IsRelaxed}
use Rattle.road_times.proofs.Lists.{some_from_is_some}
use Rattle.road_times.proofs.Relaxing.{relaxed-settled, relaxed-put}
use Rattle.road_times.proofs.search.relax.Goals as goal
use Rattle.road_times.proofs.search.relax.Goals.{then-is_none, else-is_none}

pub loop-neighbor-preserved : goal.loop-neighbor-preserved
loop-neighbor-preserved c =
    let labels = c.args.labels.now in
    let neighbors = c.args.neighbors.now in
    let index = c.loop-neighbor.neighbor-index in
    let neighbor : Neighbor = get_or neighbors index (record { node = 0; seconds = 0 }) in
    let here : slice_get neighbors index ≡ Some neighbor = slice_get-get_or neighbors index (record { node = 0; seconds = 0 }) c.loop-neighbor-test.true in
    elim c.if-is_none.branch [
      | then-is_none w ↦
          subst (λ q. IsRelaxed labels neighbors (index + 1) c.args.label c.args.queue.now q) (sym w.queue-is)
          (relaxed-put labels neighbors index c.args.label c.args.queue.now c.loop-neighbor.queue w.put_or_lower.new.self neighbor c.loop-neighbor.invariant here
          (none_from_is_some (get_or labels neighbor.node None) (c.is_none.ensures ∙ ap not w.if-is_none.true))
          (w.put_or_lower.ensures.key ∙ ap (λ s. Some (lesser_key (key_of c.loop-neighbor.queue neighbor.node) (c.args.label + s))) w.from.ensures) w.put_or_lower.ensures.others w.put_or_lower.ensures.same_floor w.put_or_lower.ensures.size w.put_or_lower.ensures.above)
      | else-is_none w ↦
          let (had, has) = some_from_is_some (get_or labels neighbor.node None) (c.is_none.ensures ∙ ap not w.if-is_none.false) in
          subst (λ q. IsRelaxed labels neighbors (index + 1) c.args.label c.args.queue.now q) (sym w.queue-is)
          (relaxed-settled labels neighbors index c.args.label c.args.queue.now c.loop-neighbor.queue neighbor c.loop-neighbor.invariant here had has (c.requires.below neighbor.node had has))
    ]
