use Rattle.turn_lock.specs.Passes.{knowledge}
use Rattle.board_trials.proofs.BegunWatches.{watches-start}
use Rattle.board_trials.proofs.boards.shared.share.Goals as goal

pub begin-requires : goal.begin-requires
begin-requires g c =
    let new = rw c.in-Some.is at c.in-Ok.ensures.feed_1 in
    record { may_use = new.0.0; point = new.1; feed = new.2 }

pub seat_by_one-requires-clause-desk : goal.seat_by_one-requires-clause-desk
seat_by_one-requires-clause-desk g c κs fine =
    let new = rw c.in-Some-desk_1.is at c.in-Ok.ensures.desk_1 in
    record { may_use = new.0.0; point = new.1; desk = new.2; none_open = new.3 }

pub seat_by_two-requires-clause-first : goal.seat_by_two-requires-clause-first
seat_by_two-requires-clause-first g c κs fine =
    let new = rw c.in-Some-desk_1.is at c.in-Ok.ensures.desk_1 in
    record { may_use = new.0.0; point = new.1; desk = new.2; none_open = new.3 }

pub expect_read-requires-clause-watches : goal.expect_read-requires-clause-watches
expect_read-requires-clause-watches g c =
    watches-start (knowledge c.in-Ok.started.1.scribe) _ _ c.in-Ok.ensures.root c.in-Ok.ensures.scribe_seen c.requires.place c.requires.versions
