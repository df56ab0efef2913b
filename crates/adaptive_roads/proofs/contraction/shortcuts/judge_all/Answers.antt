use Rattle.adaptive_roads.proofs.Common.{Contains-get_or}
use Rattle.adaptive_roads.proofs.contraction.shortcuts.judge_all.Goals as goal

pub judge_from-judged-requires-clause-into : goal.judge_from-judged-requires-clause-into
judge_from-judged-requires-clause-into c =
    c.requires.ins _ (Contains-get_or c.args.ins.now c.loop-into.into-index (record { node = 0; seconds = 0 }) c.loop-into-test.true)
