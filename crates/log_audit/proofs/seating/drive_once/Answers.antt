use Rattle.log_audit.proofs.Common.{sym}
use Rattle.log_audit.proofs.Vehicles.{once-none, once-more, not-once}
use Rattle.log_audit.proofs.seating.drive_once.Goals as goal

pub loop-place-init : goal.loop-place-init
loop-place-init c = once-none

pub returns-then-drives : goal.returns-then-drives
returns-then-drives c =
    (λ h. absurd (cc h), λ differ. absurd (not-once c.args.seats.now c.loop-place.place _ c.loop-place-test.true (sym c.if-drives.ensures) differ))

pub loop-place-preserved : goal.loop-place-preserved
loop-place-preserved c = once-more c.args.seats.now c.loop-place.place _ c.loop-place-test.true c.loop-place.invariant (sym c.if-drives.ensures)
