use Rattle.booking_desk.proofs.Common.{subst, DeskState, IsDesk}
use Rattle.booking_desk.proofs.Shown.{shown}
use Rattle.booking_desk.proofs.desk.BookingDesk.held.Goals as goal

pub returns-clause-desk : goal.returns-clause-desk
returns-clause-desk c =
    let P : DeskState → Type 0 = λ d. IsDesk d in
    subst P c.self.view_is (shown c.self.inside.most c.self.inside.clock c.self.inside.booked.entries c.self.inside.held.entries c.self.invariant)
