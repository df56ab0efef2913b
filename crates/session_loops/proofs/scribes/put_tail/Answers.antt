use Rattle.session_loops.proofs.Common.{◌++◌, entry_lines}
use Rattle.session_loops.proofs.scribes.put_tail.Goals as goal

pub returns-clause-logged : goal.returns-clause-logged
returns-clause-logged g c before faults text has =
    c.end.ensures.put before faults (text ++ entry_lines c.args.log c.args.entries.now) (c.put_all.ensures before faults text has)
