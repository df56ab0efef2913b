use Rattle.city_maker.proofs.Common.{◌∙◌, sym, ap}
use Rattle.city_maker.proofs.DrawLemmas.{drawn, next_state, state_after-more, draw_at-is}
use Rattle.city_maker.proofs.draws.Draws.draw.Goals as goal

pub returns-clause-value : goal.returns-clause-value
returns-clause-value c = λ seed before is.
    ap (λ state. drawn (next_state state) c.args.bound) (c.from.ensures ∙ is) ∙ sym (draw_at-is seed before c.args.bound)

pub returns-clause-state : goal.returns-clause-state
returns-clause-state c = λ seed before is. ap next_state (c.from.ensures ∙ is) ∙ sym (state_after-more seed before)
