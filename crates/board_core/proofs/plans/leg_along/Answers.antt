use Rattle.board_core.proofs.Common.{sym, ◌∙◌, ap, arith, unwrap_or}
use Rattle.board_core.proofs.LegLaws.{leg-past, leg-within}
use Rattle.board_core.proofs.plans.leg_along.Goals as goal

pub returns-then-place-nodes-clause-leg : goal.returns-then-place-nodes-clause-leg
returns-then-place-nodes-clause-leg c = sym (leg-past c.args.setup.now.roads c.args.nodes.now c.args.place c.if-place-nodes.true)

pub returns-clause-leg : goal.returns-clause-leg
returns-clause-leg c =
    c.unwrap_or.ensures ∙ ap (λ o. unwrap_or o 0) c.time.ensures.time
    ∙ sym (leg-within c.args.setup.now.roads c.args.nodes.now c.args.place _ _ _ (omega arith) c.if-place-nodes.false)
