use Rattle.std.proofs.Common.{◌≡◌, true, sym, subst}
use Rattle.ride_model.specs.declared.vehicle.Vehicle.{Vehicle}
use Rattle.seating_trials.specs.InTurn.{may_drive}
use Rattle.seating_trials.proofs.InTurn.{over-line}
use Rattle.seating_trials.proofs.turns.expect.Goals as goal

pub priced-by_kept-requires-clause-over_line : goal.priced-by_kept-requires-clause-over_line
priced-by_kept-requires-clause-over_line g c κs within =
    let drives = subst (λ (v : Vehicle). may_drive v ≡ true) (sym c.vehicle-first.ensures) c.requires.drives in
    over-line c.args.time c.vehicle-first.result c.args.more c.turn-batch.result c.turn-batch.ensures c.requires.soon drives

pub priced-by_new-requires-clause-over_line : goal.priced-by_new-requires-clause-over_line
priced-by_new-requires-clause-over_line g c κs within =
    let drives = subst (λ (v : Vehicle). may_drive v ≡ true) (sym c.vehicle-first.ensures) c.requires.drives in
    over-line c.args.time c.vehicle-first.result c.args.more c.turn-batch.result c.turn-batch.ensures c.requires.soon drives

pub is_offered-requires-clause-over_line : goal.is_offered-requires-clause-over_line
is_offered-requires-clause-over_line g c =
    let drives = subst (λ (v : Vehicle). may_drive v ≡ true) (sym c.vehicle-first.ensures) c.requires.drives in
    over-line c.args.time c.vehicle-first.result c.args.more c.turn-batch.result c.turn-batch.ensures c.requires.soon drives
