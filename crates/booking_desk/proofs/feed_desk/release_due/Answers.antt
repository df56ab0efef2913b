use Rattle.booking_desk.proofs.Common.{◌≡◌, ◌++◌, ◌∷◌, [], List, Option, refl, sym, subst, ◌∙◌, append-nil, IfSome, none_from_not_some, found_among, of_each, Command, IsSpelledCommand, request_line, Booking, IsRequest, due_of, is_due, AreSpelled, IsSpelledBooking}
use Rattle.booking_desk.proofs.BookedLines.{due-step}
use Rattle.booking_desk.proofs.Due.{booking-of, none-of, release-done, release-step}
use Rattle.booking_desk.proofs.feed_desk.release_due.Goals as goal

pub loop-request-init : goal.loop-request-init
loop-request-init c = record {
  spelled = c.requires.spelled;
  released = λ calls due is late. record { gone = []; left = due; parts = refl; desk_is = is; late = late; gives = sym (append-nil c.args.page.now.text) };
}

pub put_request-requires-clause-request : goal.put_request-requires-clause-request
put_request-requires-clause-request c =
    let (b, due, is) = booking-of (due_of c.loop-request.desk) c.in-Some.request (sym c.due.ensures ∙ c.in-Some.is) in
    subst IsRequest is
    (of_each IsSpelledBooking c.loop-request.desk.held b c.loop-request.invariant.spelled
    (found_among (is_due c.loop-request.desk.clock) c.loop-request.desk.held b due).0).request

pub put_request-requires-clause-spelled : goal.put_request-requires-clause-spelled
put_request-requires-clause-spelled c =
    let (b, due, is) = booking-of (due_of c.loop-request.desk) c.in-Some.request (sym c.due.ensures ∙ c.in-Some.is) in
    subst (λ (r : Command). IsSpelledCommand 2 r) is
    (of_each IsSpelledBooking c.loop-request.desk.held b c.loop-request.invariant.spelled
    (found_among (is_due c.loop-request.desk.clock) c.loop-request.desk.held b due).0).spelled

pub loop-request-preserved : goal.loop-request-preserved
loop-request-preserved c =
    let (b, due, is) = booking-of (due_of c.loop-request.desk) c.in-Some.request (sym c.due.ensures ∙ c.in-Some.is) in
    let stood : c.loop-request.desk.held ≡ b ∷ c.take_due.new.self.held
    = subst (λ (o : Option Booking). IfSome o (λ (x : Booking). c.loop-request.desk.held ≡ x ∷ c.take_due.new.self.held)) due
    c.take_due.ensures.stood_first in
    record {
      spelled = (subst (λ (bs : List Booking). AreSpelled bs) stood c.loop-request.invariant.spelled).1;
      released = λ calls all first late.
          release-step calls all c.loop-request.desk _ (c.loop-request.invariant.released calls all first late) c.take_due.new.self c.in-Some.request _
          (sym c.due.ensures ∙ c.in-Some.is) c.take_due.ensures.taken c.take_due.ensures.stood_first
          (λ gone x same put.
          c.in_ok-put_request.ensures ∙ (λ i. put i ++ request_line (sym same i)) ∙ due-step c.args.page.now.text gone x);
    }

pub returns-clause-desk : goal.returns-clause-desk
returns-clause-desk c calls due is late =
    let none = none-of (due_of c.loop-request.desk) (sym c.due.ensures ∙ none_from_not_some c.due.result c.in_default.not-Some) in
    (release-done calls due c.loop-request.desk _ (c.loop-request.invariant.released calls due is late) none).0

pub returns-clause-put : goal.returns-clause-put
returns-clause-put c calls due is late =
    let none = none-of (due_of c.loop-request.desk) (sym c.due.ensures ∙ none_from_not_some c.due.result c.in_default.not-Some) in
    (release-done calls due c.loop-request.desk _ (c.loop-request.invariant.released calls due is late) none).1
