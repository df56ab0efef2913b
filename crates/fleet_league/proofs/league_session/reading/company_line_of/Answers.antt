use Rattle.fleet_league.proofs.Common.{sym}
use Rattle.line_text.proofs.PrintedLemmas.{number_of-small}
use Rattle.fleet_league.proofs.league_session.reading.company_line_of.Goals as goal

pub returns-clause-spelled : goal.returns-clause-spelled
returns-clause-spelled c = (
  number_of-small c.in_ok-next_field.field-0.now c.in_ok-company.company (sym c.in_ok-company.ensures),
  c.in_ok-command.ensures.spelled,
  sym c.if-not-is_driver_report.ensures,
)
