use Rattle.std.proofs.Common.{◌≡◌, List, [], ◌∷◌, length, sym, ap, subst, ◌∙◌}
use Rattle.std.proofs.lemmas.List.Elements.{All-from_recursion}
use Rattle.ride_model.specs.declared.vehicle.Ride.{Ride}
use Rattle.board_core.specs.Recorded.{state_of}
use Rattle.fleet_league.specs.declared.quotes.Quote.{Quote}
use Rattle.fleet_league.specs.inner.Companies.{CompanyState}
use Rattle.fleet_league.specs.league_session.League.{quotes_of}
use Rattle.fleet_league.specs.inner.Winning.{MayWin}
use Rattle.fleet_league.specs.Prices.{quote_of}
use Rattle.fleet_league.specs.inner.Round.{IsPriced}
use Rattle.fleet_league.proofs.league_session.PlayedRounds.{AreMet}
use Rattle.league_trials.proofs.DayRounds.{companies-meet, first-may, second-may}
use Rattle.league_trials.proofs.city_days.play.Goals as goal

pub award-requires-clause-may : goal.award-requires-clause-may
award-requires-clause-may g c κs within =
    let first : CompanyState = c.args.first.now in
    let second : CompanyState = c.args.second.now in
    let rides : List Ride = c.args.rides.now in
    let quotes : c.quote-one.result ∷ c.quote-two.result ∷ [] ≡ quotes_of (state_of first.board) (state_of second.board) rides
    = λ i. c.quote-one.ensures.quote i ∷ c.quote-two.ensures.quote i ∷ [] in
    let met : AreMet first second 3600 = companies-meet first second c.quote-one.ensures.sound c.quote-two.ensures.sound
    c.quote-one.ensures.settings c.quote-two.ensures.settings in
    subst (λ (s : CompanyState). MayWin s rides c.in-Ok.parts.first) (sym c.quote-one.ensures.kept)
    (first-may first second rides _ _ _ met quotes c.in-Ok.ensures c.quote-one.ensures.may)

pub award-requires-2-clause-may : goal.award-requires-2-clause-may
award-requires-2-clause-may g c κs within =
    let first : CompanyState = c.args.first.now in
    let second : CompanyState = c.args.second.now in
    let rides : List Ride = c.args.rides.now in
    let quotes : c.quote-one.result ∷ c.quote-two.result ∷ [] ≡ quotes_of (state_of first.board) (state_of second.board) rides
    = λ i. c.quote-one.ensures.quote i ∷ c.quote-two.ensures.quote i ∷ [] in
    let met : AreMet first second 3600 = companies-meet first second c.quote-one.ensures.sound c.quote-two.ensures.sound
    c.quote-one.ensures.settings c.quote-two.ensures.settings in
    subst (λ (s : CompanyState). MayWin s rides c.in-Ok.parts.second) (sym c.quote-two.ensures.kept)
    (second-may first second rides _ _ _ met quotes c.in-Ok.ensures c.quote-two.ensures.may)

pub parts_of-requires-clause-priced : goal.parts_of-requires-clause-priced
parts_of-requires-clause-priced g c =
    All-from_recursion (λ (quote : Quote). IsPriced quote.prices) (c.quote-one.result ∷ c.quote-two.result ∷ [])
    (c.quote-one.ensures.priced, (c.quote-two.ensures.priced, tt))

pub parts_of-requires-clause-same_rides : goal.parts_of-requires-clause-same_rides
parts_of-requires-clause-same_rides g c =
    All-from_recursion (λ (quote : Quote). quote.prices.rows ≡ length c.args.rides.now) (c.quote-one.result ∷ c.quote-two.result ∷ []) (
      ap (λ (quote : Quote). quote.prices.rows) c.quote-one.ensures.quote,
      (ap (λ (quote : Quote). quote.prices.rows) c.quote-two.ensures.quote, tt),
    )

pub award-requires-clause-quote : goal.award-requires-clause-quote
award-requires-clause-quote g c κs within =
    c.quote-one.ensures.quote
    ∙ ap (λ (s : CompanyState). quote_of (state_of s.board) c.args.rides.now) (sym c.quote-one.ensures.kept)

pub award-requires-2-clause-quote : goal.award-requires-2-clause-quote
award-requires-2-clause-quote g c κs within =
    c.quote-two.ensures.quote
    ∙ ap (λ (s : CompanyState). quote_of (state_of s.board) c.args.rides.now) (sym c.quote-two.ensures.kept)
