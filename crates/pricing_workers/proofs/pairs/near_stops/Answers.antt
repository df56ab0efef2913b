use Rattle.pricing_workers.proofs.Common.{ℕ, ◌+◌, ◌++◌, ◌∷◌, [], length, ap, ap₂, sym, ◌∙◌, arith, map-range_with_len_more, length-map-range_with_len, near_at}
use Rattle.insertion.specs.declared.near.NearStop.{NearStop}
use Rattle.pricing_workers.proofs.pairs.near_stops.Goals as goal

pub push-requires : goal.push-requires
push-requires c =
    let f : ℕ → NearStop = λ node. near_at c.args.times.now (c.args.first + node) in (
      omega arith,
      omega (arith, ap length c.loop-node.invariant, length-map-range_with_len f 0 c.loop-node.node, c.loop-node-test.true, c.requires.few),
    )

pub loop-node-preserved : goal.loop-node-preserved
loop-node-preserved c =
    let f : ℕ → NearStop = λ node. near_at c.args.times.now (c.args.first + node) in
    c.push.ensures.items ∙ ap₂ (λ near at. near ++ at ∷ []) c.loop-node.invariant c.at.ensures
    ∙ sym (map-range_with_len_more f 0 c.loop-node.node c.loop-node.node (omega arith))
