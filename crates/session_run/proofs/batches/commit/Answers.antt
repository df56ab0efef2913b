use Rattle.session_run.proofs.Common.{ap, Recorded}
use Rattle.session_run.proofs.Opening.{commits}
use Rattle.session_run.proofs.batches.commit.Goals as goal

pub returns-clause-closed : goal.returns-clause-closed
returns-clause-closed c =
    commits c.args.board.now c.commit.new.self c.args.solved c.requires.opened
    (ap (λ (b : Recorded). b.start) c.commit.ensures.others) (ap (λ (b : Recorded). b.feeds) c.commit.ensures.others)
    (ap (λ (b : Recorded). b.desks) c.commit.ensures.others) c.commit.ensures.entry c.entries-history.ensures.legal
