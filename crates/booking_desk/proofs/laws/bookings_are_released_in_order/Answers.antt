use Rattle.booking_desk.proofs.Moments.{desk-stands, taken-are_released}
use Rattle.booking_desk.proofs.laws.bookings_are_released_in_order.Goals as goal

pub returns-clause-released : goal.returns-clause-released
returns-clause-released c = taken-are_released

pub returns-clause-desk : goal.returns-clause-desk
returns-clause-desk c = desk-stands
