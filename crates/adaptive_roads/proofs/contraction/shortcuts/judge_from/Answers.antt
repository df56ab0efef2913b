use Rattle.adaptive_roads.proofs.Common.{Contains-get_or}
use Rattle.adaptive_roads.proofs.contraction.Growths.{contained-fit}
use Rattle.adaptive_roads.proofs.contraction.shortcuts.judge_from.Goals as goal

pub reaches-requires : goal.reaches-requires
reaches-requires c =
    let its = c.requires.outs _ (Contains-get_or c.args.outs.now c.loop-onward.onward-index (record { node = 0; seconds = 0 }) c.loop-onward-test.true) in
    let fit = contained-fit c.args.graph.now _ c.requires.graph its.linked in
    record { room = (c.args.graph.now.nodes, c.search.ensures.room, fit.head) }
