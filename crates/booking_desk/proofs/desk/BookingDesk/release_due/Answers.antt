use Rattle.booking_desk.proofs.Common.{◌≡◌, ◌∷◌, Option, sym, subst, ◌∙◌, arith, IfSome, err_from_is_err_and, none_from_not_some, found_among, of_all, Feed, Command, Fed, IsSpelledCommand, knowledge, AddsEntry, Known, root_of, Booking, due_of, is_due}
use Rattle.booking_desk.proofs.Due.{booking-of, none-of}
use Rattle.booking_desk.proofs.Releasing.{all-released, releases-more, releases-none, some-released, submitted-none}
use Rattle.booking_desk.proofs.desk.BookingDesk.release_due.Goals as goal

pub loop-request-init : goal.loop-request-init
loop-request-init g c = record {
  feed = c.requires.feed;
  so_far = releases-none c.args.self.now (knowledge c.args.pass.now) c.requires.few (omega (arith, c.held-held.ensures.desk.few, c.held-held.ensures.desk.most_few, c.held-held.ensures.desk.few_held)) c.requires.spelled;
}

pub submit-requires-clause-spelled : goal.submit-requires-clause-spelled
submit-requires-clause-spelled g c =
    let so_far = c.loop-request.invariant.so_far in
    let (b, due, is) = booking-of (due_of c.loop-request.self) c.in-Some.request (sym c.due.ensures ∙ c.in-Some.is) in
    let P : Booking → Type 0 = λ x. IsSpelledCommand (root_of (knowledge c.loop-request.pass)).start.settings.log x.request in
    subst (λ (r : Command). IsSpelledCommand (root_of (knowledge c.loop-request.pass)).start.settings.log r) is
    (of_all P c.loop-request.self.held b so_far.spelled (found_among (is_due c.loop-request.self.clock) c.loop-request.self.held b due).0)

pub returns-in_err-submit-clause-released : goal.returns-in_err-submit-clause-released
returns-in_err-submit-clause-released g c =
    let so_far = c.loop-request.invariant.so_far in
    let start = knowledge c.args.pass.now in
    let seen = knowledge c.loop-request.pass in
    let error = err_from_is_err_and c.from_residual.result c.from_residual.ensures.1 in (
      so_far.released,
      submitted-none c.args.self.now c.loop-request.self start seen c.loop-request.count so_far (knowledge c.submit.new.pass) c.in_err-submit.ensures.no_memory,
      rw error.1 (some-released c.args.self.now c.loop-request.self start seen c.loop-request.count so_far),
    )

pub loop-request-preserved : goal.loop-request-preserved
loop-request-preserved g c =
    let so_far = c.loop-request.invariant.so_far in
    let (b, due, is) = booking-of (due_of c.loop-request.self) c.in-Some.request (sym c.due.ensures ∙ c.in-Some.is) in
    let before : Known = knowledge c.loop-request.pass in
    let after : Known = knowledge c.submit.new.pass in
    let adds = subst (λ (r : Command). AddsEntry before after (record { actor = Feed before.number; event = Fed r c.in_ok-submit.field-0 })) (sym is)
    c.in_ok-submit.ensures.entry in
    let stood = subst (λ (o : Option Booking). IfSome o (λ booking. c.loop-request.self.held ≡ booking ∷ c.take_due.new.self.held)) due
    c.take_due.ensures.stood_first in
    record {
      feed = record { may_use = c.in_ok-submit.ensures.pass; point = c.in_ok-submit.ensures.point; feed = c.in_ok-submit.ensures.feed };
      so_far = releases-more c.args.self.now c.loop-request.self (knowledge c.args.pass.now) before c.loop-request.count so_far b
          c.in_ok-submit.field-0 c.take_due.new.self after due adds c.take_due.ensures.taken stood;
    }

pub returns-clause-released : goal.returns-clause-released
returns-clause-released g c =
    let so_far = c.loop-request.invariant.so_far in
    let none = none-of (due_of c.loop-request.self) (sym c.due.ensures ∙ none_from_not_some c.due.result c.in_default.not-Some) in (
      so_far.released,
      so_far.submitted,
      (all-released c.args.self.now c.loop-request.self (knowledge c.args.pass.now) (knowledge c.loop-request.pass) c.loop-request.count so_far none, so_far.counted),
    )
