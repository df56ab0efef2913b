use Rattle.log_audit.proofs.Common.{◌≡◌, ℕ, List, refl, ap, sym, subst, ◌∙◌, Ok, Desk, Entry, Opened, next_batch, NamesBatch, versions_of, BatchCopy, ride_ids, Recorded, state_of, opened_entry, got-next, AreOpen}
use Rattle.board_core.specs.declared.opening.Opening.{Opening}
use Rattle.log_audit.specs.declared.verdict.Why.TheVariants.{Batch as ToBatch}
use Rattle.log_audit.proofs.Judged.{auditing-on, judged}
use Rattle.log_audit.proofs.Legality.{fault-batch}
use Rattle.log_audit.proofs.OpenOnes.{none-open, open-opened}
use Rattle.log_audit.proofs.auditor.Auditor.judge_opened.Goals as goal

pub returns : goal.returns
returns c = λ batch time requests plans is.
    let old = c.args.self.now in
    let board = old.board in
    let s = state_of board in
    let new = c.in-Batch.batch in
    let may = c.if-not-may_open.ensures.0 refl in
    let next : new ≡ next_batch s c.args.desk
    = got-next s board.feeds c.args.desk c.in_ok-batch.field-0 new c.in_ok-batch.ensures.opening c.in-Batch.is in
    let desk_is : new.desk ≡ c.args.desk = ap (λ (b : BatchCopy). b.desk) next in
    let last : Entry = opened_entry new in
    let start = ap (λ (b : Recorded). b.start) c.open_batch.ensures.others in
    let grows = c.in_ok-batch.ensures.entry new (ap (λ (o : Opening). Ok o) c.in-Batch.is) in
    judged old _ _ last c.args.line.now ToBatch c.unless_told.result c.requires.auditing c.entries-history.ensures.text
    (record {
      grows = grows;
      start_stays = start;
      feeds_stay = ap (λ (b : Recorded). b.feeds) c.open_batch.ensures.others;
      desks_stay = ap (λ (b : Recorded). b.desks) c.open_batch.ensures.others;
      auditing = auditing-on old _ c.requires.auditing start refl refl
          (subst (AreOpen (state_of c.open_batch.new.self)) (sym c.put.ensures)
          (open-opened board c.open_batch.new.self c.args.desk new old.batches start c.requires.desk (none-open s c.args.desk may.1) next grows
          c.requires.auditing.open_are));
    }) (λ went. (refl, (last, went))) is
    (c.unless_told.ensures.told board.history last grows) (c.unless_told.ensures.not_told board.history last grows)
    (λ differs. fault-batch board.feeds board.desks s (Desk c.args.desk) (Opened batch time requests plans) may tt
    (λ names. differs (same names (sym next) (sym desk_is))))
  where
    same : {s' : BatchCopy} {b : BatchCopy} {d n t : ℕ} {rs : List ℕ} {ps : List (ℕ × ℕ)} → NamesBatch s' n t rs ps → s' ≡ b → d ≡ b.desk
        → ◌≡◌ {A = Entry} (record { actor = Desk d; event = Opened n t rs ps }) (opened_entry b)
    same {s'} {b} {d} {n} {t} {rs} {ps} names is desk =
        (λ i. record {
          actor = Desk (desk i);
          event = Opened ((names.number_is ∙ ap (λ (x : BatchCopy). x.number) is) i) ((names.time_is ∙ ap (λ (x : BatchCopy). x.time) is) i)
              ((names.requests_are ∙ ap (λ (x : BatchCopy). ride_ids x.requests) is) i)
              ((names.plans_are ∙ ap (λ (x : BatchCopy). versions_of x.vehicles) is) i);
        })
