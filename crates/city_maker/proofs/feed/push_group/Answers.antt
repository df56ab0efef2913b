use Rattle.city_maker.proofs.Common.{◌*◌, ◌++◌, ◌∷◌, [], ap, ◌∙◌, Clock, Ask, group_of}
use Rattle.city_maker.proofs.RequestLemmas.{group-appended, requests_in}
use Rattle.city_maker.proofs.feed.push_group.Goals as goal

pub returns-clause-commands : goal.returns-clause-commands
unfolding group_of
returns-clause-commands c =
    group-appended c.args.commands.now.items _ _ _ (requests_in c.args.plan.now c.args.group) (Clock (30 * c.args.group)) Ask
    (c.in_ok-push.ensures.items ∙ ap (λ group. c.args.commands.now.items ++ Clock (30 * group) ∷ []) c.from-clock.ensures)
    c.in_ok-push_requests.ensures.commands c.in_ok-push-2.ensures.items
