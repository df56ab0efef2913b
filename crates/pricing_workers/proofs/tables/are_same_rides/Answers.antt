use Rattle.pricing_workers.proofs.Common.{slice_eq-Decides}
use Rattle.pricing_workers.proofs.SameItems.{ride-decides}
use Rattle.pricing_workers.proofs.tables.are_same_rides.Goals as goal

pub returns : goal.returns
returns c = slice_eq-Decides ride-decides _ _ _ c.eq.ensures
