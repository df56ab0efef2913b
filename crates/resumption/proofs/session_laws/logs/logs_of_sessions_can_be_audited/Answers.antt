use Rattle.resumption.proofs.session_laws.SessionLogs.{replay-few, replay-within, replay-yes, resumption-few, resumption-within, resumption-yes, service-few, service-within, service-yes}
use Rattle.resumption.proofs.session_laws.logs.logs_of_sessions_can_be_audited.Goals as goal

pub returns : goal.returns
returns c = record {
  replayed = replay-within;
  replay_audited = replay-yes;
  served = service-within;
  service_audited = service-yes;
  replay_few = replay-few;
  service_few = service-few;
  resumption_few = resumption-few;
  resumed = resumption-within;
  resumption_audited = λ start feeds desks before riders drivers ran written_before written_after totals answer few resumed.
      resumption-yes start feeds desks before riders drivers ran written_before written_after few resumed totals answer;
}
