use Rattle.hungarian.proofs.Common.{◌≡◌, ℕ, sym, ap, ◌∙◌, Option, none_from_not_some, Seat, ride_ids, vehicle_ids, column_of, seat_at}
use Rattle.hungarian.proofs.Gathering.{gathered-some, gathered-none}
use Rattle.hungarian.proofs.seating.seats_by.Goals as goal
use Rattle.hungarian.proofs.seating.seats_by.Goals.{in-Some+in_ok-push, in_default}

pub loop-row-preserved : goal.loop-row-preserved
loop-row-preserved c =
    let row = c.loop-row.row in
    let seats = c.loop-row.seats.items in
    let f : ℕ → Option Seat
    = λ k. seat_at c.args.table.now (ride_ids c.args.requests.now) (vehicle_ids c.args.vehicles.now) k
    (column_of c.args.columns.now k) in
    let here : c.seat_at.result ≡ f row = c.seat_at.ensures in
    elim c.match-seat_at.branch [
      | in-Some+in_ok-push w ↦ ap (λ v. v.items) w.seats-is ∙ w.in_ok-push.ensures.items
          ∙ gathered-some f seats row w.in-Some.seat c.loop-row.invariant (sym here ∙ w.in-Some.is)
      | in_default w ↦ ap (λ v. v.items) w.seats-is
          ∙ gathered-none f seats row c.loop-row.invariant (sym here ∙ none_from_not_some c.seat_at.result w.in_default.not-Some)
    ]
