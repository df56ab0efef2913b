use Rattle.promises.proofs.Common.{◌≡◌, drop, list_all, fits_load}
use Rattle.promises.proofs.room.all_fit.Given as goal

-- those so far fit
abbrev pub invariant-loop-load : goal.invariant-loop-load
invariant-loop-load l = list_all (fits_load l.vehicle) (drop l.load-index l.loads) ≡ list_all (fits_load l.vehicle) l.loads
