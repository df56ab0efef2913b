use Rattle.log_audit.proofs.Common.{ap, refl, Recorded}
use Rattle.log_audit.proofs.Judged.{auditing-on}
use Rattle.log_audit.proofs.OpenOnes.{open-ended}
use Rattle.log_audit.proofs.auditor.Auditor.judge_end.Goals as goal

pub returns : goal.returns
returns c =
    let old = c.args.self.now in
    let start = ap (λ (b : Recorded). b.start) c.end.ensures.others in
    record {
      grows = c.end.ensures.entry;
      start_stays = start;
      feeds_stay = ap (λ (b : Recorded). b.feeds) c.end.ensures.others;
      desks_stay = ap (λ (b : Recorded). b.desks) c.end.ensures.others;
      auditing = auditing-on old _ c.requires start refl refl
          (open-ended old.board c.end.new.self c.args.actor c.args.ending old.batches start c.end.ensures.entry c.requires.open_are);
    }
