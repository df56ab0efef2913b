use Rattle.std.proofs.Common.{ap, sym, subst, ◌∙◌}
use Rattle.ride_model.specs.Road.{RoadMap}
use Rattle.ride_model.specs.Seating.{BatchCopy}
use Rattle.batch_commit.specs.inner.Table.{IsPriceable}
use Rattle.board_core.specs.Recorded.{Recorded, state_of}
use Rattle.board_core.proofs.OpenBatches.{IsOpen, open-priceable, open-committed, open-abandoned}
use Rattle.board_trials.proofs.boards.days.close.Goals as goal

pub seat_batch-requires-clause-priceable : goal.seat_batch-requires-clause-priceable
seat_batch-requires-clause-priceable g c κs a =
    subst (λ (r : RoadMap). IsPriceable r c.args.batch) (sym c.requires.roads)
    (open-priceable c.args.board.now c.args.batch.desk c.args.batch.number c.args.batch c.entries-history.ensures.start
    c.entries-history.ensures.legal c.requires.held)

pub returns-in-Ok-clause-others : goal.returns-in-Ok-clause-others
returns-in-Ok-clause-others g c b held apart =
    open-committed c.args.board.now c.commit.new.self c.in-Ok.solved (ap (λ (b : Recorded). b.start) c.commit.ensures.others)
    (subst (λ (x : BatchCopy). IsOpen (state_of c.args.board.now) x) (sym c.in-Ok.ensures.batch) c.requires.held)
    c.commit.ensures.entry b held
    (λ same. apart (same ∙ ap (λ (x : BatchCopy). x.desk) c.in-Ok.ensures.batch))

pub returns-in-Err-clause-others : goal.returns-in-Err-clause-others
returns-in-Err-clause-others g c b held apart =
    open-abandoned c.args.board.now c.abandon.new.self c.in-Err.batch (ap (λ (b : Recorded). b.start) c.abandon.ensures.others)
    (subst (λ (x : BatchCopy). IsOpen (state_of c.args.board.now) x) (sym c.in-Err.ensures.same_batch) c.requires.held)
    c.abandon.ensures.entry b held
    (λ same. apart (same ∙ ap (λ (x : BatchCopy). x.desk) c.in-Err.ensures.same_batch))
