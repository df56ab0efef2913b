use Rattle.log_audit.proofs.Common.{refl, ap, arith, Feed, Entry, Fed, Reply, Recorded, state_of, fed_entry, fed-le}
use Rattle.log_audit.specs.declared.verdict.Why.TheVariants.{Reply as ToReply}
use Rattle.log_audit.proofs.Judged.{auditing-on, judged}
use Rattle.log_audit.proofs.Legality.{fault-reply}
use Rattle.log_audit.proofs.OpenOnes.{open-fed}
use Rattle.log_audit.proofs.auditor.Auditor.judge_fed.Goals as goal

pub apply-requires-clause-few : goal.apply-requires-clause-few
apply-requires-clause-few c = omega (arith, fed-le c.args.feed c.args.self.now.board.history, c.requires.few)

pub returns : goal.returns
returns c = λ reply is.
    let old = c.args.self.now in
    let board = old.board in
    let last : Entry = fed_entry (state_of board) c.args.feed c.args.command.now in
    let start = ap (λ (b : Recorded). b.start) c.in_ok-_reply.ensures.others in
    let grows = c.in_ok-_reply.ensures.entry in
    judged old _ _ last c.args.line.now ToReply c.unless_told.result c.requires.auditing c.entries-history.ensures.text
    (record {
      grows = grows;
      start_stays = start;
      feeds_stay = ap (λ (b : Recorded). b.feeds) c.in_ok-_reply.ensures.others;
      desks_stay = ap (λ (b : Recorded). b.desks) c.in_ok-_reply.ensures.others;
      auditing = auditing-on old _ c.requires.auditing start refl refl
          (open-fed board c.apply.new.self c.args.feed c.args.command.now old.batches start grows c.requires.auditing.open_are);
    }) (λ went. (refl, (last, went))) is
    (c.unless_told.ensures.told board.history last grows) (c.unless_told.ensures.not_told board.history last grows)
    (λ differs. fault-reply board.feeds board.desks (state_of board) (Feed c.args.feed) (Fed c.args.command.now reply)
    (c.if-not-may_feed.ensures.0 refl)
    (λ same. differs (ap (λ (r : Reply). record { actor = Feed c.args.feed; event = Fed c.args.command.now r }) same)))
