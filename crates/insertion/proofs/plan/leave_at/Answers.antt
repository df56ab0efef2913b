use Rattle.insertion.proofs.Common.{arith}
use Rattle.insertion.proofs.PlanTimes.{leave-read}
use Rattle.insertion.proofs.plan.leave_at.Goals as goal

pub returns-else-place-eq0-clause-time : goal.returns-else-place-eq0-clause-time
returns-else-place-eq0-clause-time c =
    leave-read c.args.start c.args.dwell c.args.times.now c.args.place _ (omega arith) c.requires.within
