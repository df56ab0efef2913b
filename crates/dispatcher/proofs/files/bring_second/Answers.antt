use Rattle.dispatcher.proofs.Common.{sym, subst, ◌∙◌, IsFleet, MayStart}
use Rattle.fleet_league.proofs.league_session.Desks.{no-fleet, none-start}
use Rattle.dispatcher.proofs.files.bring_second.Goals as goal

pub new-requires-in_default : goal.new-requires-in_default
new-requires-in_default g c = subst IsFleet (sym c.new.ensures.items) no-fleet

pub returns-in_default-clause-start : goal.returns-in_default-clause-start
returns-in_default-clause-start g c = λ settings fit.
    subst (MayStart c.args.map.now settings) (sym (c.new-in_default.ensures ∙ c.new.ensures.items)) (none-start c.args.map.now settings fit)
