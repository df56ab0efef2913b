use Rattle.city_maker.proofs.Common.{◌*◌, arith, request_of}
use Rattle.city_maker.proofs.ListsOfRanges.{map-pushed_behind}
use Rattle.city_maker.proofs.feed.push_requests.Goals as goal

pub loop-before-preserved : goal.loop-before-preserved
loop-before-preserved c = record {
  made = map-pushed_behind (request_of c.args.plan.now) (8 * c.args.group) c.loop-before.before c.args.commands.now.items _ _ _
      (omega arith) c.in_ok-push.ensures.items c.loop-before.invariant.made c.request.ensures.request;
  drawn = c.request.ensures.drawn;
}
