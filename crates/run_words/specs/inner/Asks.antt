-- What was read of the words.
use Rattle.std.specs.Prelude.{◌≡◌, ◌≤◌, ⊤, Option, Some, None, Result, MatchResult, string_bytes}
use Rattle.city_maker.specs.inner.Plan.{IsPlan}
use Rattle.ride_model.specs.declared.limits.TheConstants.{LONGEST_REACH, MOST_WORKERS}
use Rattle.ride_model.specs.Text.{IsOneOrTwo}
use Rattle.run_words.specs.declared.Ask.{Ask}
use Rattle.run_words.specs.declared.Ask.TheVariants.{Replay, Ahead, Audit, Serve, Drill, Book, League}
use Rattle.run_words.specs.declared.WordsError.{WordsError}
use Rattle.run_words.specs.declared.WordsError.TheVariants.{Refused}
use Rattle.run_words.specs.Words.{Asked, a_replay, an_audit, a_service, a_drill, a_booking, a_league}

-- what an ask is for
abbrev pub asked_by : Ask → Asked
asked_by (Replay map fleet feed) = a_replay (string_bytes map) (string_bytes fleet) (string_bytes feed) None
asked_by (Ahead map fleet feed reach) = a_replay (string_bytes map) (string_bytes fleet) (string_bytes feed) (Some reach)
asked_by (Audit map fleet log) = an_audit (string_bytes map) (string_bytes fleet) (string_bytes log)
asked_by (Serve map fleet riders drivers workers desks) =
    a_service (string_bytes map) (string_bytes fleet) (string_bytes riders) (string_bytes drivers) workers desks
asked_by (Drill plan) = a_drill plan
asked_by (Book feed) = a_booking (string_bytes feed)
asked_by (League map fleet second feed) = a_league (string_bytes map) (string_bytes fleet) (string_bytes second) (string_bytes feed)

-- words were read that ask for this, or for nothing: it was found, or they were refused; or memory was wanting
abbrev pub IsAskOf : Option Asked → Result Ask WordsError → Type 0
IsAskOf asked outcome = MatchResult outcome (λ ask. asked ≡ Some (asked_by ask)) (λ error. error ≡ Refused → asked ≡ None)

-- the numbers of an ask are within their ranges
abbrev pub IsInRange : Ask → Type 0
IsInRange (Ahead map fleet feed reach) = (1 ≤ reach) × (reach ≤ LONGEST_REACH)
IsInRange (Serve map fleet riders drivers workers desks) = (1 ≤ workers) × (workers ≤ MOST_WORKERS) × IsOneOrTwo desks
IsInRange (Drill plan) = IsPlan plan
IsInRange _ = ⊤
