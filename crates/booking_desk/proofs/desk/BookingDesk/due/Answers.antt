use Rattle.booking_desk.proofs.Common.{sym, ap, ◌∙◌, option_map, Booking, due_of}
use Rattle.booking_desk.proofs.HeldEntries.{first-due, first-not_due}
use Rattle.booking_desk.proofs.desk.BookingDesk.due.Goals as goal

pub returns-then-release-self : goal.returns-then-release-self
returns-then-release-self c =
    let none = first-not_due c.self.inside.clock c.self.inside.held.entries (c.in_ok-release.field-0-0.now, c.in_ok-release.request.now)
    c.in_ok-release.ensures.first c.if-release-self.true c.self.invariant.in_order in
    sym (ap (option_map (λ (b : Booking). b.request)) (ap due_of (sym c.self.view_is) ∙ none))

pub returns : goal.returns
returns c =
    let some = first-due c.self.inside.clock c.self.inside.held.entries (c.in_ok-release.field-0-0.now, c.in_ok-release.request.now)
    c.in_ok-release.ensures.first c.if-release-self.false in
    sym (ap (option_map (λ (b : Booking). b.request)) (ap due_of (sym c.self.view_is) ∙ some))
