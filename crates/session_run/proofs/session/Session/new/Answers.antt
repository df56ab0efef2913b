use Rattle.session_run.proofs.Begun.{running-at-start}
use Rattle.session_run.proofs.session.Session.new.Goals as goal

pub returns-clause-running : goal.returns-clause-running
returns-clause-running c =
    running-at-start c.in_ok-board.board c.outset.inside.roads.now c.outset.inside.settings c.outset.inside.fleet c.in_ok-board.ensures.start
    c.in_ok-board.ensures.feeds c.in_ok-board.ensures.desks c.in_ok-board.ensures.history
