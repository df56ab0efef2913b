use Rattle.fleet_league.proofs.Common.{◌≡◌, [], ◌∷◌, ◌++◌, List, ℕ, length, Some, None, sym, subst, ◌∙◌, append-nil, none_from_not_some, said_by, league_of, HasTold, told_line}
use Rattle.fleet_league.proofs.league_session.TextRuns.{told-blank, told-page, told-said}
use Rattle.fleet_league.proofs.league_session.scribe.ScribeLineTaker.take_line.Goals as goal

pub returns-in_default-clause-taken : goal.returns-in_default-clause-taken
returns-in_default-clause-taken g c first lines text whole (sync, has) numbered line over =
    let log = c.args.self.now.log in
    let league = c.args.self.now.league in
    let blank : said_by log c.args.number whole ≡ None
    = sym (c.read_line.ensures.said whole line over) ∙ none_from_not_some c.read_line.result c.in_default.not-Some in (
      [],
      sym (append-nil c.args.page.now.text),
      (
        sync,
        subst (λ (t : List ℕ). HasTold (league_of first.league) (lines ++ whole ∷ []) t log league) (sym (append-nil text))
            (told-blank (league_of first.league) lines text log league whole c.args.number has numbered blank),
      ),
    )

pub returns-in-Ok-clause-taken : goal.returns-in-Ok-clause-taken
returns-in-Ok-clause-taken g c first lines text whole (sync, has) numbered line over =
    let log = c.args.self.now.log in
    let league = c.args.self.now.league in
    let said : said_by log c.args.number whole ≡ Some c.in-Some.said = sym (c.read_line.ensures.said whole line over) ∙ c.in-Some.is in
    let more : List ℕ = told_line log c.in-Some.said c.in_ok-told.told in (
      more,
      told-page c.args.page.now.text c.print_told.new.sink.text more c.in-Ok.ensures.whole,
      (
        sync,
        told-said (league_of first.league) lines text log league whole c.args.number has numbered c.take.new.self c.in-Some.said c.in_ok-told.told said
            c.in_ok-told.ensures.told (c.in_ok-told.ensures.fits (length lines) has.fits) c.take.ensures.start,
      ),
    )
