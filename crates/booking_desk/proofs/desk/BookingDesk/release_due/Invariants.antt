use Rattle.booking_desk.proofs.Common.{length, knowledge}
use Rattle.fleet_board.specs.Roles.{MayFeed}
use Rattle.booking_desk.proofs.Releasing.{ReleasesSoFar}
use Rattle.booking_desk.proofs.desk.BookingDesk.release_due.Given as goal

-- the bookings so far were submitted
abbrev pub invariant-loop-request : goal.invariant-loop-request
invariant-loop-request g l = record {
  feed : MayFeed l.board l.pass;
  so_far : ReleasesSoFar l.initial.self l.self (knowledge l.initial.pass) (knowledge l.pass) l.count;
}

abbrev pub decreases-loop-request : goal.decreases-loop-request
decreases-loop-request g l = length l.self.held
