use Rattle.session_run.proofs.Common.{◌≡◌, ◌++◌, ◌∷◌, [], Ok, ap, sym, subst, next_batch, BatchCopy, IsOpenBatch, Opening, Recorded, state_of, opened_entry, is_whole, IsOpened}
use Rattle.session_run.proofs.CommitSheets.{adds-planned}
use Rattle.session_run.proofs.Opening.{next-opened, opens, runs}
use Rattle.session_run.proofs.batches.run_batch.Goals as goal

pub close_batch-requires-clause-opened : goal.close_batch-requires-clause-opened
close_batch-requires-clause-opened g c κs a =
    let old : Recorded = c.args.board.now in
    let new : Recorded = c.open_batch.new.self in
    let is : c.in-Batch.batch ≡ next_batch (state_of old) 1 =
    next-opened (state_of old) old.feeds c.in-Batch.batch c.in_ok-batch.field-0 c.in_ok-batch.ensures.opening c.in-Batch.is c.requires.asked.one_more in
    subst (λ (b : BatchCopy). IsOpened b new) (sym is)
    (opens old new c.requires.asked (ap (λ (b : Recorded). b.start) c.open_batch.ensures.others)
    (ap (λ (b : Recorded). b.feeds) c.open_batch.ensures.others) (ap (λ (b : Recorded). b.desks) c.open_batch.ensures.others)
    (subst (λ (b : BatchCopy). new.history ≡ old.history ++ opened_entry b ∷ []) is
    (c.in_ok-batch.ensures.entry c.in-Batch.batch (ap (λ (o : Opening). Ok o) c.in-Batch.is)))
    (subst (λ (b : BatchCopy). IsOpenBatch old.desks (state_of new) b) is
    (c.in_ok-batch.ensures.open_now c.in-Batch.batch (ap (λ (o : Opening). Ok o) c.in-Batch.is))))

pub returns-clause-ran : goal.returns-clause-ran
returns-clause-ran g c =
    let old : Recorded = c.args.board.now in
    let new : Recorded = c.open_batch.new.self in
    let is : c.in-Batch.batch ≡ next_batch (state_of old) 1 =
    next-opened (state_of old) old.feeds c.in-Batch.batch c.in_ok-batch.field-0 c.in_ok-batch.ensures.opening c.in-Batch.is c.requires.asked.one_more in
    runs (is_whole c.close_batch.result) old new c.close_batch.new.board c.requires.asked (ap (λ (b : Recorded). b.start) c.open_batch.ensures.others)
    (ap (λ (b : Recorded). b.feeds) c.open_batch.ensures.others)
    (subst (λ (b : BatchCopy). new.history ≡ old.history ++ opened_entry b ∷ []) is
    (c.in_ok-batch.ensures.entry c.in-Batch.batch (ap (λ (o : Opening). Ok o) c.in-Batch.is))) c.close_batch.ensures.closed

pub returns-clause-sheets : goal.returns-clause-sheets
returns-clause-sheets g c whole r given =
    let old : Recorded = c.args.board.now in
    let new : Recorded = c.open_batch.new.self in
    let is : c.in-Batch.batch ≡ next_batch (state_of old) 1 =
    next-opened (state_of old) old.feeds c.in-Batch.batch c.in_ok-batch.field-0 c.in_ok-batch.ensures.opening c.in-Batch.is c.requires.asked.one_more in
    adds-planned r c.args.reach c.close_batch.result c.in-Batch.batch old new c.close_batch.new.board given whole
    (ap (λ (b : Recorded). b.start) c.open_batch.ensures.others) c.close_batch.ensures.closed.goes_on.start is
    (c.in_ok-batch.ensures.entry c.in-Batch.batch (ap (λ (o : Opening). Ok o) c.in-Batch.is)) (c.close_batch.ensures.planned whole)
