use Rattle.fleet_league.proofs.Common.{◌++◌, List, ℕ, Option, sym, subst, ◌∙◌, Ending, HasPut, with_ending}
use Rattle.fleet_league.proofs.league_session.session.put_end.Goals as goal

pub returns-in-Some-clause-put : goal.returns-in-Some-clause-put
returns-in-Some-clause-put g c before faults text has =
    subst (λ (o : Option Ending). HasPut before (g.K.Sink.written c.put.new.out) faults (g.K.Sink.faults c.put.new.out) c.put.new.self
    (with_ending o text)) (sym c.in-Some.is ∙ c.ending_of.ensures)
    (subst (λ (l : List ℕ). HasPut before (g.K.Sink.written c.put.new.out) faults (g.K.Sink.faults c.put.new.out) c.put.new.self (text ++ l))
    c.last_line.ensures (c.put.ensures.put before faults text has))
