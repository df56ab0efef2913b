use Rattle.booking_desk.proofs.Common.{◌==◌, not, sym, subst, Booking, DeskState, id_of, AreSpelled, IsSpelledBooking, each-filter}
use Rattle.booking_desk.proofs.feed_desk.unbook.Goals as goal

pub returns-then-unbook-clause-spelled : goal.returns-then-unbook-clause-spelled
returns-then-unbook-clause-spelled c =
    subst (λ (d : DeskState). AreSpelled d.held) (sym c.if-unbook.ensures.unbooked)
    (each-filter IsSpelledBooking (λ (b : Booking). not (id_of b == c.args.id)) c.args.desk.now.held c.requires.spelled)

pub returns-clause-spelled : goal.returns-clause-spelled
returns-clause-spelled c =
    subst (λ (d : DeskState). AreSpelled d.held) (sym c.if-unbook.ensures.unbooked)
    (each-filter IsSpelledBooking (λ (b : Booking). not (id_of b == c.args.id)) c.args.desk.now.held c.requires.spelled)
