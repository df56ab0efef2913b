use Rattle.session_run.proofs.Common.{ap, sym, subst, ◌∙◌, RoadMap, BatchCopy, Recorded, priceable, IsPlanned, is_whole, IsOpened}
use Rattle.batch_commit.specs.inner.Table.{IsPriceable}
use Rattle.session_run.proofs.Opening.{closes-any, gives-up}
use Rattle.session_run.proofs.batches.close_batch.Goals as goal

pub seat_batch-requires-clause-priceable : goal.seat_batch-requires-clause-priceable
seat_batch-requires-clause-priceable g c κs a =
    subst (λ (r : RoadMap). IsPriceable r c.args.batch) (sym c.requires.roads)
    (priceable c.args.board.now 1 c.args.batch c.entries-history.ensures.start c.entries-history.ensures.legal c.requires.opened.open_now)

pub plan-answered-requires-clause-priceable : goal.plan-answered-requires-clause-priceable
plan-answered-requires-clause-priceable g c =
    subst (λ (r : RoadMap). IsPriceable r c.in-Ok.solved.batch) (sym (c.seat_batch.ensures.kept ∙ c.requires.roads))
    (subst (λ (b : BatchCopy). IsPriceable c.args.board.now.start.roads b) (sym c.in-Ok.ensures.batch)
    (priceable c.args.board.now 1 c.args.batch c.entries-history.ensures.start c.entries-history.ensures.legal c.requires.opened.open_now))

pub returns-in-Ok-clause-closed : goal.returns-in-Ok-clause-closed
returns-in-Ok-clause-closed g c = closes-any (is_whole c.plan-answered.result) c.args.board.now c.commit.new.board c.commit.ensures.closed

pub returns-in-Ok-clause-planned : goal.returns-in-Ok-clause-planned
returns-in-Ok-clause-planned g c whole = record {
  solved = c.in-Ok.solved;
  batch_is = c.in-Ok.ensures.batch;
  grows = c.commit.ensures.entry;
  planned = subst (λ (r : RoadMap). IsPlanned r c.args.reach c.in-Ok.solved c.plan-answered.result) (c.seat_batch.ensures.kept ∙ c.requires.roads)
      c.plan-answered.ensures.planned;
}

pub returns-in-Err-clause-closed : goal.returns-in-Err-clause-closed
returns-in-Err-clause-closed g c =
    gives-up c.args.board.now c.abandon.new.self c.in-Err.batch
    (subst (λ (b : BatchCopy). IsOpened b c.args.board.now) (sym c.in-Err.ensures.same_batch) c.requires.opened)
    (ap (λ (b : Recorded). b.start) c.abandon.ensures.others) (ap (λ (b : Recorded). b.feeds) c.abandon.ensures.others)
    (ap (λ (b : Recorded). b.desks) c.abandon.ensures.others) c.abandon.ensures.entry
