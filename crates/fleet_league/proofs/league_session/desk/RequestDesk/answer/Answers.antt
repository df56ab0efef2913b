use Rattle.fleet_league.proofs.Common.{◌+◌, length, ap, subst, sym, ◌∙◌, fed_commands, step, IsSpelledCommand, Recorded, state_of, IsDesk}
use Rattle.fleet_league.proofs.league_session.Desks.{answered, on-ok}
use Rattle.fleet_league.proofs.league_session.desk.RequestDesk.answer.Goals as goal

pub returns-clause-state : goal.returns-clause-state
returns-clause-state c =
    let old : Recorded = c.self.inside.board in
    let back = sym c.self.view_is in
    on-ok c.apply.result
    (answered old c.apply.new.self c.args.command.now c.apply.result (subst IsDesk back c.requires.fits) c.requires.riders
    (subst (λ (b : Recorded). IsSpelledCommand b.start.settings.log c.args.command.now) back c.requires.spelled) c.apply.ensures.entry c.apply.ensures.others)
    (λ is. is.state_is ∙ ap (λ (b : Recorded). (step (state_of b) c.args.command.now).state) c.self.view_is)

pub returns-clause-fits : goal.returns-clause-fits
returns-clause-fits c =
    let old : Recorded = c.self.inside.board in
    let back = sym c.self.view_is in
    on-ok c.apply.result
    (answered old c.apply.new.self c.args.command.now c.apply.result (subst IsDesk back c.requires.fits) c.requires.riders
    (subst (λ (b : Recorded). IsSpelledCommand b.start.settings.log c.args.command.now) back c.requires.spelled) c.apply.ensures.entry c.apply.ensures.others)
    (λ is. is.fits)

pub returns-clause-one_more : goal.returns-clause-one_more
returns-clause-one_more c =
    let old : Recorded = c.self.inside.board in
    let back = sym c.self.view_is in
    on-ok c.apply.result
    (answered old c.apply.new.self c.args.command.now c.apply.result (subst IsDesk back c.requires.fits) c.requires.riders
    (subst (λ (b : Recorded). IsSpelledCommand b.start.settings.log c.args.command.now) back c.requires.spelled) c.apply.ensures.entry c.apply.ensures.others)
    (λ is. is.one_more ∙ ap (λ (b : Recorded). length (fed_commands 1 b.history) + 1) c.self.view_is)
