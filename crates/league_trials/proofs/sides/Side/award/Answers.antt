use Rattle.std.proofs.Common.{◌≡◌, sym, subst, arith}
use Rattle.model_laws.proofs.plain.Each.{of_all, all_of}
use Rattle.ride_model.specs.declared.vehicle.Ride.{Ride}
use Rattle.ride_model.specs.Text.{IsSpelled, IsSpelledCommand}
use Rattle.board_core.specs.Recorded.{state_of}
use Rattle.fleet_league.specs.Awards.{request_of, won_rides}
use Rattle.fleet_league.specs.inner.Companies.{CompanyState}
use Rattle.fleet_league.specs.inner.Winning.{MayWin}
use Rattle.fleet_league.specs.inner.Prices.{IsNewRide}
use Rattle.fleet_league.proofs.league_session.AwardedMembers.{id-spelled}
use Rattle.fleet_league.proofs.MayAward.{won-each}
use Rattle.league_trials.proofs.DaySides.{no-chairs}
use Rattle.league_trials.proofs.sides.Side.award.Goals as goal

pub award-settled-requires-clause-rides : goal.award-settled-requires-clause-rides
award-settled-requires-clause-rides g c κs within =
    let may = subst (λ (s : CompanyState). MayWin s c.args.rides.now c.args.brief.now) (sym c.self.view_is) c.requires.may in
    won-each (IsNewRide (state_of c.self.inside.company.board)) c.args.rides.now (won_rides c.args.brief.now.wins) may.may.each may.of_them

pub award-settled-requires-clause-room : goal.award-settled-requires-clause-room
award-settled-requires-clause-room g c κs within =
    let may = subst (λ (s : CompanyState). MayWin s c.args.rides.now c.args.brief.now) (sym c.self.view_is) c.requires.may in
    let room = may.may.room in
    record {
      in_batch = omega (arith, may.few, room.in_batch);
      requests = omega (arith, may.few, room.requests);
      batches = room.batches;
    }

pub award-settled-requires-clause-ids_spelled : goal.award-settled-requires-clause-ids_spelled
award-settled-requires-clause-ids_spelled g c κs within =
    let may = c.requires.may in
    let log = c.args.self.now.board.start.settings.log in
    won-each (λ (ride : Ride). IsSpelled ride.id) c.args.rides.now (won_rides c.args.brief.now.wins)
    (all_of (λ (ride : Ride). IsSpelled ride.id) c.args.rides.now (λ ride there.
    id-spelled log ride (of_all (λ (r : Ride). IsSpelledCommand log (request_of r)) c.args.rides.now ride may.may.spelled there)))
    may.of_them

pub award-settled-requires-clause-chairs : goal.award-settled-requires-clause-chairs
award-settled-requires-clause-chairs g c κs within first =
    let may = subst (λ (s : CompanyState). MayWin s c.args.rides.now c.args.brief.now) (sym c.self.view_is) c.requires.may in
    let log = c.self.inside.company.board.start.settings.log in
    won-each (λ (ride : Ride). ride.chairs ≡ 0) c.args.rides.now (won_rides c.args.brief.now.wins)
    (all_of (λ (ride : Ride). ride.chairs ≡ 0) c.args.rides.now (λ ride there.
    no-chairs log ride (of_all (λ (r : Ride). IsSpelledCommand log (request_of r)) c.args.rides.now ride may.may.spelled there) first))
    may.of_them
