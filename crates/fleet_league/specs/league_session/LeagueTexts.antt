-- The text of a league: a head, a line for each line of its feed, and an end.
use Rattle.std.specs.Prelude.{ℕ, List, [], ◌∷◌, ◌++◌, map, codes, decimal}
use Rattle.ride_model.specs.declared.entry.Ending.{Ending}
use Rattle.ride_model.specs.Text.{amount_field, fed_fields, joined, line_of, outcome_field}
use Rattle.trip_log.specs.Prints.{ending_word}
use Rattle.fleet_league.specs.declared.league_session.lines.FeedLine.{FeedLine}
use Rattle.fleet_league.specs.declared.league_session.lines.FeedLine.TheVariants.{League, Company}
use Rattle.fleet_league.specs.declared.league_session.sheets.RoundAward.{RoundAward}
use Rattle.fleet_league.specs.declared.league_session.sheets.RoundPay.{RoundPay}
use Rattle.fleet_league.specs.declared.league_session.sheets.RoundSheet.{RoundSheet}
use Rattle.fleet_league.specs.declared.league_session.sheets.Told.{Told}
use Rattle.fleet_league.specs.declared.league_session.sheets.Told.TheVariants.{Answer, Round}

-- the first line: the version of the text, and how many companies there are
abbrev pub head_line : List ℕ
head_line = line_of (codes "league" ∷ codes "1" ∷ codes "companies" ∷ codes "2" ∷ [])

-- an award: the request, and the company's vehicle with its version
abbrev pub award_field : RoundAward → List ℕ
award_field award = joined (decimal award.request ∷ decimal award.company ∷ decimal award.vehicle ∷ decimal award.version ∷ [])

abbrev pub pay_field : RoundPay → List ℕ
pay_field pay = joined (decimal pay.company ∷ decimal pay.vehicle ∷ decimal pay.amount ∷ [])

-- the line of the round of a number
abbrev pub round_line : ℕ → RoundSheet → List ℕ
round_line number sheet = line_of (
    (codes "round" ∷ decimal number ∷ codes "cost" ∷ decimal sheet.cost ∷ []) ++ (codes "awards" ∷ map award_field sheet.awards)
    ++ (codes "prices" ∷ map amount_field sheet.prices) ++ (codes "pays" ∷ map pay_field sheet.pays)
    ++ (codes "outcomes" ∷ map outcome_field sheet.outcomes))

-- the line of what becomes of a line of the feed: its command with the reply, after the company whose report it is, or a round. A bad
-- line has no reply
abbrev pub told_line : ℕ → FeedLine → Told → List ℕ
told_line log (League command) (Answer reply) = line_of (fed_fields log command reply)
told_line log (Company company command) (Answer reply) =
    codes "company " ++ decimal company ++ codes " " ++ line_of (fed_fields log command reply)
told_line log line (Round number sheet) = round_line number sheet

-- the last line: whether the feed was read whole
abbrev pub last_line : Ending → List ℕ
last_line ending = line_of (ending_word ending ∷ [])
