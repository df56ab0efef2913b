use Rattle.session_loops.proofs.Common.{◌≡◌, knowledge, root_of, MayOpen, HasRunBatches}
use Rattle.session_loops.proofs.desks.run_batches.Given as goal

-- the desk has no open batch, and each batch so far was closed
abbrev pub invariant-batches : goal.invariant-batches
invariant-batches g l = record {
  goes : (goal.iterator-batches g).can_next l.iterator';
  finite : (goal.iterator-batches g).is_finite l.iterator';
  desk : MayOpen l.board l.pass;
  roads : (root_of (knowledge l.pass)).start.roads ≡ l.pricer;
  ran : HasRunBatches l.no_memory (knowledge l.initial.pass) (knowledge l.pass);
}
