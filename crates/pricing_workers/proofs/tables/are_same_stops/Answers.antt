use Rattle.pricing_workers.proofs.Common.{slice_eq-Decides}
use Rattle.pricing_workers.proofs.SameItems.{stop-decides}
use Rattle.pricing_workers.proofs.tables.are_same_stops.Goals as goal

pub returns : goal.returns
returns c = slice_eq-Decides stop-decides _ _ _ c.eq.ensures
