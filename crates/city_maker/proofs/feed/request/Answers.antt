use Rattle.city_maker.proofs.Common.{◌≡◌, ◌+◌, ◌∙◌, sym, nodes_of, draws_before}
use Rattle.city_maker.proofs.RequestLemmas.{apart, apart-same, apart-other, from_of, request-is, from-is, to-is, seats-are, second-draw, third-draw}
use Rattle.city_maker.proofs.feed.request.Goals as goal
use Rattle.city_maker.proofs.feed.request.Goals.{then-drawn-from, else-drawn-from}

pub returns-clause-request : goal.returns-clause-request
returns-clause-request c =
    let plan = c.args.plan.now in
    let before = c.args.before in
    let draws = draws_before plan before in
    let from = 1 + c.draw-from.result in
    let drawn = 1 + c.draw-drawn.result in
    let from_is : from ≡ from_of plan before = from-is plan before c.draw-from.result (c.draw-from.ensures.value plan.seed draws c.requires.drawn) in
    let after_from = c.draw-from.ensures.state plan.seed draws c.requires.drawn in
    let after_to = second-draw plan before plan.seed draws _ (c.draw-drawn.ensures.state plan.seed (draws + 1) after_from) in
    let to : c.if-drawn-from.to ≡ apart (nodes_of plan) from drawn = elim c.if-drawn-from.branch [
      | then-drawn-from w ↦ w.to-is ∙ sym (apart-same (nodes_of plan) from drawn w.if-drawn-from.true)
      | else-drawn-from w ↦ w.to-is ∙ sym (apart-other (nodes_of plan) from drawn w.if-drawn-from.false)
    ] in
    request-is plan before c.from.result c.from-2.result c.from-3.result c.from-4.result c.from-clock.result c.from.ensures
    (c.from-2.ensures ∙ from_is)
    (c.from-3.ensures ∙ to ∙ to-is plan before c.draw-from.result c.draw-drawn.result from_is (c.draw-drawn.ensures.value plan.seed (draws + 1) after_from))
    (c.from-4.ensures ∙ seats-are plan before c.draw-seats.result (c.draw-seats.ensures.value plan.seed (draws + 2) after_to))
    c.from-clock.ensures

pub returns-clause-drawn : goal.returns-clause-drawn
returns-clause-drawn c =
    let plan = c.args.plan.now in
    let before = c.args.before in
    let draws = draws_before plan before in
    let after_from = c.draw-from.ensures.state plan.seed draws c.requires.drawn in
    let after_to = second-draw plan before plan.seed draws _ (c.draw-drawn.ensures.state plan.seed (draws + 1) after_from) in
    third-draw plan before _ (c.draw-seats.ensures.state plan.seed (draws + 2) after_to)
