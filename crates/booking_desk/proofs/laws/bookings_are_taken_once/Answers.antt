use Rattle.booking_desk.proofs.Common.{new_desk, after_steps}
use Rattle.booking_desk.proofs.Once.{due-booked, due-late, taken-once, unbooked-never}
use Rattle.booking_desk.proofs.laws.bookings_are_taken_once.Goals as goal

pub returns-clause-once : goal.returns-clause-once
returns-clause-once c = taken-once

pub returns-clause-was_booked : goal.returns-clause-was_booked
returns-clause-was_booked c = due-booked

pub returns-clause-not_before_release : goal.returns-clause-not_before_release
returns-clause-not_before_release c = due-late

pub returns-clause-not_after_unbook : goal.returns-clause-not_after_unbook
returns-clause-not_after_unbook c = λ most before after id. unbooked-never (after_steps (new_desk most) before) id after
