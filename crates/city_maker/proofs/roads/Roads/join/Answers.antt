use Rattle.city_maker.proofs.Common.{length, ap, ◌∙◌, ◌++◌, ◌∷◌, [], ◌+◌}
use Rattle.city_maker.proofs.ArcLemmas.{arc, joined-more}
use Rattle.city_maker.proofs.roads.Roads.join.Goals as goal

pub returns : goal.returns
returns c = λ seed pairs joined.
    let seconds = 30 + c.draw-seconds.result in
    joined-more seed pairs c.args.first c.args.second seconds c.args.self.now _ joined
    (ap (λ drawn. 30 + drawn) (c.draw-seconds.ensures.value seed (length pairs) joined.draws))
    (c.in_ok-push-2.ensures.items ∙ ap (λ arcs. arcs ++ arc c.args.second c.args.first seconds ∷ []) c.in_ok-push.ensures.items)
    (c.draw-seconds.ensures.state seed (length pairs) joined.draws)
