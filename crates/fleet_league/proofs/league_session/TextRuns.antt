-- What a league is told, line by line, and what becomes of it.
use Rattle.fleet_league.proofs.Common.{◌≡◌, ℕ, ◌+◌, List, [], ◌∷◌, ◌++◌, length, Option, Some, None, refl, ap, sym, subst, ◌∙◌, arith, length-append, IsOneOrTwo, Recorded, State, FeedLine, Told, said_by, said_from, CompanyState, LeagueState, TakesLine, IsLeague, IsMember, LeagueBoards, league_of, HasTold, told_line}
use Rattle.line_text.proofs.LineTaking.{takes-last}
use Rattle.line_text.specs.declared.line_reader.stops.Stop.{Stop}
use Rattle.line_text.specs.inner.Taking.{TakesUntil}
use Rattle.ride_ports.specs.Bytes.{Writes}
use Rattle.ride_ports.proofs.ByteLemmas.{Writes-told}
use Rattle.fleet_league.proofs.league_session.ToldLines.{tells-blank, tells-none, tells-said}

-- a text that was printed on a page
pub told-page : (page after text : List ℕ) → Writes (Some page) (Some after) text → after ≡ page ++ text
told-page page after text writes =
    let is : Some after ≡ Some (page ++ text) = Writes-told page writes refl in
    cc is

-- a league in order after some lines is in order after one more that gives it nothing
member-later : (desk : Recorded) (company : CompanyState) (lines : ℕ) → IsMember desk company lines → IsMember desk company (lines + 1)
member-later desk company lines fits = record {
  is_open = fits.is_open;
  same_roads = fits.same_roads;
  same_settings = fits.same_settings;
  beside = fits.beside;
  few_reports = omega (arith, fits.few_reports);
}

league-later : (lines : ℕ) (league : LeagueBoards) → IsLeague lines league → IsLeague (lines + 1) league
league-later lines league fits = record {
  desk_fits = fits.desk_fits;
  few_commands = omega (arith, fits.few_commands);
  first_fits = member-later league.desk league.first lines fits.first_fits;
  second_fits = member-later league.desk league.second lines fits.second_fits;
}

counted : {A : Type 0} (lines : List A) (line : A) → length lines + 1 ≡ length (lines ++ line ∷ [])
counted lines line = omega (arith, length-append lines (line ∷ []))

-- no line was taken
pub told-nothing : (log : ℕ) (league : LeagueBoards) → IsOneOrTwo log → log ≡ (league_of league).desk.settings.log
    → log ≡ league.desk.start.settings.log → IsLeague 0 league → HasTold (league_of league) [] [] log league
unfolding said_from
told-nothing log league fits is stays in_order = record {
  log_fits = fits;
  log_is = is;
  log_stays = stays;
  fits = in_order;
  tells = tells-none log (league_of league);
}

module _ (start : LeagueState) (lines : List (List ℕ)) (text : List ℕ) (log : ℕ) (league : LeagueBoards) (whole : List ℕ) (number : ℕ)
    (has : HasTold start lines text log league) (numbered : number ≡ length lines + 1) where
  said-is : (o : Option FeedLine) → said_by log number whole ≡ o → said_by log (1 + length lines) whole ≡ o
  said-is o is = ap (λ n. said_by log n whole) same ∙ is
    where
      same : 1 + length lines ≡ number
      same = omega (arith, numbered)

  -- a line that says nothing
  pub told-blank : said_by log number whole ≡ None → HasTold start (lines ++ whole ∷ []) text log league
  told-blank is = record {
    log_fits = has.log_fits;
    log_is = has.log_is;
    log_stays = has.log_stays;
    fits = subst (λ (n : ℕ). IsLeague n league) (counted lines whole) (league-later (length lines) league has.fits);
    tells = tells-blank log start (league_of league) lines whole text (said-is None is) has.tells;
  }

  -- a line that says something
  pub told-said : (new : LeagueBoards) (said : FeedLine) (told : Told) → said_by log number whole ≡ Some said
      → TakesLine (league_of league) (league_of new) said told → IsLeague (length lines + 1) new → new.desk.start ≡ league.desk.start
      → HasTold start (lines ++ whole ∷ []) (text ++ told_line log said told) log new
  told-said new said told is takes in_order same = record {
    log_fits = has.log_fits;
    log_is = has.log_is;
    log_stays = has.log_stays ∙ ap (λ (s : State). s.settings.log) (sym same);
    fits = subst (λ (n : ℕ). IsLeague n new) (counted lines whole) in_order;
    tells = tells-said log start (league_of league) (league_of new) lines whole text said told (said-is (Some said) is) has.tells takes;
  }

-- whatever stopped the feed, its lines were told
pub told-last : {L : Type 0} (shared : Type 0) (log_of : L → ℕ) (boards_of : L → LeagueBoards) (first now : L) (lines : List (List ℕ)) (text : List ℕ)
    (stop : Option Stop)
    → TakesUntil (λ (f : L) (ls : List (List ℕ)) (t : List ℕ) (n : L). shared × HasTold (league_of (boards_of f)) ls t (log_of n) (boards_of n))
    first lines text stop now
    → (log : ℕ) × (league : LeagueBoards) × HasTold (league_of (boards_of first)) lines text log league
told-last shared log_of boards_of first now lines text stop took =
    let (last, (known, has)) = takes-last (λ f ls t n. shared × HasTold (league_of (boards_of f)) ls t (log_of n) (boards_of n)) first lines text stop now took in
    (log_of last, boards_of last, has)
