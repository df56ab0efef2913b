use Rattle.pricing_workers.proofs.Common.{length}
use Rattle.pricing_workers.proofs.rows.+fill_times+fn-fill_times-join_mut+arg2+fn-fill_times-join_mut+arg3.Given as goal

-- each part has fewer workers than the whole
abbrev pub decreases-fill_times : goal.decreases-fill_times
decreases-fill_times g l = length l.scratches.now

abbrev pub decreases-join_mut+arg2 : goal.decreases-join_mut+arg2
decreases-join_mut+arg2 g l = length l.front_scratches.now

abbrev pub decreases-join_mut+arg3 : goal.decreases-join_mut+arg3
decreases-join_mut+arg3 g l = length l.back_scratches.now
