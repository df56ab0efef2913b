use Rattle.booking_desk.proofs.Common.{◌≡◌, ◌++◌, List, length, released_text, Booking, AreDue, AreSpelled, with_due, DeskCall, clock_of}
use Rattle.booking_desk.proofs.Due.{Releases}
use Rattle.booking_desk.proofs.feed_desk.release_due.Given as goal

-- the first of those that are due were put and taken
abbrev pub invariant-loop-request : goal.invariant-loop-request
invariant-loop-request l = record {
  spelled : AreSpelled l.desk.held;
  released : (calls : List DeskCall) (due : List Booking) → l.initial.desk ≡ with_due calls due → AreDue (clock_of calls) due
      → Releases calls due l.desk (λ gone. l.page.text ≡ l.initial.page.text ++ released_text gone);
}

abbrev pub decreases-loop-request : goal.decreases-loop-request
decreases-loop-request l = length l.desk.held
