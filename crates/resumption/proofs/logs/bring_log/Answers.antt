use Rattle.resumption.proofs.Common.{ℕ, Result, refl, ap, subst, ◌∙◌, given_back, Rose, Restoration, AuditFault, is_read_fault, feed_run, Adds-then, bytes-of, rose-above}
use Rattle.resumption.proofs.LogFaults.{no-fault}
use Rattle.resumption.proofs.logs.bring_log.Goals as goal

pub returns-in_default : goal.returns-in_default
returns-in_default g c = c.in_default.ensures

pub returns : goal.returns
returns g c =
    let found = c.log_from-found.result in
    let reads = c.log_from-found.ensures in
    let log = feed_run g.H.Src.Source.left g.H.Src.Source.faults c.in-Ok.source c.log_from-found.new.source in
    record {
      log = log;
      source = given_back log.faults_after log.left;
      adds = Adds-then c.in-Ok.ensures.adds c.give_back.ensures.adds;
      of_file = record { bytes_are = bytes-of _ _ _ c.in-Ok.ensures.content; fresh = c.in-Ok.ensures.fresh; back = refl };
      reads = reads;
      sound = λ other. c.give_back.ensures.sound (reads.faults.stays (no-fault found other) ∙ c.in-Ok.ensures.fresh) ∙ c.in-Ok.ensures.sound;
      fault = λ is. subst (λ (k : ℕ). Rose k (g.H.Shelf.faults c.give_back.new.shelf)) c.in-Ok.ensures.sound (c.give_back.ensures.rises
          (rose-above _ _ c.in-Ok.ensures.fresh (reads.faults.rose (ap (λ (r : Result Restoration AuditFault). is_read_fault r) is))));
    }
