use Rattle.log_audit.proofs.Common.{sym, subst, RoadMap, IsPriceable, open-priceable}
use Rattle.log_audit.proofs.auditor.Auditor.commit_least.Goals as goal

pub seat_batch_by-seated-requires-clause-priceable : goal.seat_batch_by-seated-requires-clause-priceable
seat_batch_by-seated-requires-clause-priceable g c κs within =
    subst (λ (r : RoadMap). IsPriceable r c.args.batch) (sym c.requires.roads)
    (open-priceable c.args.self.now.board c.args.batch.desk c.args.batch.number c.args.batch c.entries-history.ensures.start
    c.entries-history.ensures.legal c.requires.is_open)
