use Rattle.resumption.proofs.logs.log_from.Goals as goal

pub returns : goal.returns
returns g c = record {
  answer = c.restore.ensures.answer;
  no_other = c.restore.ensures.no_other;
  stands = c.restore.ensures.stands;
  to_end = c.restore.ensures.to_end;
  before_fault = c.restore.ensures.before_fault;
  taken = c.restore.ensures.taken;
  faults = c.restore.ensures.faults;
}
