use Rattle.fleet_league.proofs.Common.{◌≡◌, ◌++◌, take, map, column_of_plan}
use Rattle.fleet_league.proofs.league_session.rows.add_columns.Given as goal

-- the columns of the plans so far were added
abbrev pub invariant-loop-plan : goal.invariant-loop-plan
invariant-loop-plan l = l.columns.items ≡ l.initial.columns.items ++ map (column_of_plan l.company) (take l.plan-index l.plan-items)
