use Rattle.booking_desk.proofs.Common.{sym, subst, DeskState, AreSpelled}
use Rattle.booking_desk.proofs.BookedLines.{spelled-book}
use Rattle.booking_desk.proofs.feed_desk.book.Goals as goal

pub returns-in-Held-clause-spelled : goal.returns-in-Held-clause-spelled
returns-in-Held-clause-spelled c =
    subst (λ (d : DeskState). AreSpelled d.held) (sym c.in_ok-book.ensures.booked)
    (spelled-book c.args.desk.now c.args.release c.args.request.now c.requires.request c.requires.text c.requires.spelled)
