use Rattle.wait_list.proofs.Common.{subst, IsRising}
use Rattle.wait_list.proofs.Rising.{rising-from_one}
use Rattle.wait_list.proofs.WaitList.first.Goals as goal

pub returns-clause-rising : goal.returns-clause-rising
returns-clause-rising c = subst IsRising c.self.view_is (rising-from_one c.self.inside.links c.self.invariant)
