use Rattle.city_maker.proofs.Common.{◌≡◌, ◌+◌, ◌/◌, ◌++◌, ◌∷◌, [], ap, ◌∙◌, arith, flat_map, range_with_len, Clock, commands_of, group_of}
use Rattle.city_maker.proofs.ListsOfRanges.{flat_map-pushed}
use Rattle.city_maker.proofs.feed.commands.Goals as goal

pub loop-group-preserved : goal.loop-group-preserved
loop-group-preserved c = record {
  made = flat_map-pushed (group_of c.args.plan.now) c.loop-group.group _ _ c.in_ok-push_group.ensures.commands c.loop-group.invariant.made;
  drawn = c.in_ok-push_group.ensures.drawn;
}

pub returns : goal.returns
unfolding commands_of
returns c =
    let all : c.loop-group.group ≡ (c.args.plan.now.requests + 7) / 8 = omega arith in
    c.in_ok-push.ensures.items ∙ ap (λ commands. commands ++ Clock 1000000000 ∷ []) (c.loop-group.invariant.made
    ∙ ap (λ groups. flat_map (group_of c.args.plan.now) (range_with_len 0 groups)) all)
