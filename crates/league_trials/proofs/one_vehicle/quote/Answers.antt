use Rattle.std.proofs.Common.{ap, ◌∙◌, ◌∷◌, [], length}
use Rattle.std.proofs.lemmas.List.Elements.{All-from_recursion}
use Rattle.ride_model.specs.State.{State}
use Rattle.dual_check.specs.Cells.{GridCells}
use Rattle.league_trials.specs.OneVehicle.{IsTownRide}
use Rattle.league_trials.proofs.OneVehicle.{begun, new-rides, one-column, one-ride, quote-is}
use Rattle.league_trials.proofs.one_vehicle.quote.Goals as goal

pub quote-requires-clause-rides : goal.quote-requires-clause-rides
quote-requires-clause-rides g c κs within =
    new-rides c.args.company.now (c.args.ride ∷ []) c.requires.company (All-from_recursion IsTownRide (c.args.ride ∷ []) (c.requires.ride, tt))

pub quote-requires-clause-ids_differ : goal.quote-requires-clause-ids_differ
quote-requires-clause-ids_differ g c κs within = one-ride c.args.ride

pub expect_price-requires-clause-vehicle : goal.expect_price-requires-clause-vehicle
expect_price-requires-clause-vehicle g c =
    ap (λ (p : GridCells). p.columns) c.in_ok-quote.ensures.prices
    ∙ ap (λ (s : State). length s.vehicles) (begun c.args.company.now.board c.requires.company.nothing_yet)
    ∙ one-column c.args.company.now.board.start c.requires.company.start.one_vehicle

pub returns-clause-quote : goal.returns-clause-quote
returns-clause-quote g c =
    quote-is c.args.company.now c.in_ok-quote.quote c.args.ride c.args.price c.requires.company c.in_ok-quote.ensures.time
    c.in_ok-quote.ensures.plans c.in_ok-quote.ensures.prices c.expect_price.ensures
