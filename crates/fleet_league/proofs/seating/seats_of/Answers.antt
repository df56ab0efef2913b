use Rattle.fleet_league.proofs.Common.{◌≡◌, ℕ, sym, ap, ◌∙◌, Option, none_from_not_some, Seat, vehicle_ids, ride_ids, column_of, seat_at, gathered-some, gathered-none, won_rides, won_columns}
use Rattle.fleet_league.proofs.CertifiedWins.{row-id, row-column}
use Rattle.fleet_league.proofs.seating.seats_of.Goals as goal
use Rattle.fleet_league.proofs.seating.seats_of.Goals.{in-Some+in_ok-push, in_default}

pub loop-row-preserved : goal.loop-row-preserved
loop-row-preserved c =
    let row = c.loop-row.row in
    let wins = c.args.wins.now in
    let vehicles = c.args.vehicles.now in
    let seats = c.loop-row.seats.items in
    let f : ℕ → Option Seat
    = λ k. seat_at c.args.table.now (ride_ids (won_rides wins)) (vehicle_ids vehicles) k (column_of (won_columns vehicles wins) k) in
    let here : c.seat_of.result ≡ f row
    = c.seat_of.ensures (ride_ids (won_rides wins)) (row-id wins row _ c.loop-row-test.true)
    ∙ ap (seat_at c.args.table.now (ride_ids (won_rides wins)) (vehicle_ids vehicles) row) (sym (row-column vehicles wins row _ c.loop-row-test.true)) in
    elim c.match-seat_of.branch [
      | in-Some+in_ok-push w ↦ ap (λ v. v.items) w.seats-is ∙ w.in_ok-push.ensures.items
          ∙ gathered-some f seats row w.in-Some.seat c.loop-row.invariant (sym here ∙ w.in-Some.is)
      | in_default w ↦ ap (λ v. v.items) w.seats-is
          ∙ gathered-none f seats row c.loop-row.invariant (sym here ∙ none_from_not_some c.seat_of.result w.in_default.not-Some)
    ]
