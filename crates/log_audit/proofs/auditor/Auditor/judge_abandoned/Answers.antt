use Rattle.log_audit.proofs.Common.{◌≡◌, [], ◌∷◌, ◌++◌, ap, sym, ◌∙◌, subst, Desk, Entry, Abandoned, open_batch_numbered, Recorded, state_of, Auditor, AreOpen}
use Rattle.log_audit.proofs.Judged.{auditing-on}
use Rattle.log_audit.proofs.OpenOnes.{OpenOne, open-one, open-abandoned}
use Rattle.log_audit.proofs.auditor.Auditor.judge_abandoned.Goals as goal

-- what is known of the batch
pub abandon-requires : goal.abandon-requires
abandon-requires c =
    let board = c.args.self.now.board in
    let one : OpenOne board c.args.desk c.args.number c.in-Some.batch =
    open-one board c.args.desk c.args.number c.in-Some.batch c.entries-history.ensures.start c.entries-history.ensures.legal
    (sym (sym c.in-Some.is ∙ c.take_numbered.ensures.batch)) in
    record {
      is_open = ap (λ (a : Auditor). open_batch_numbered (state_of a.board) c.in-Some.batch.desk c.in-Some.batch.number) c.take_numbered.ensures.left
          ∙ one.numbered;
    }

pub returns : goal.returns
returns c =
    let old = c.args.self.now in
    let board = old.board in
    let batch = c.in-Some.batch in
    let one : OpenOne board c.args.desk c.args.number batch =
    open-one board c.args.desk c.args.number batch c.entries-history.ensures.start c.entries-history.ensures.legal
    (sym (sym c.in-Some.is ∙ c.take_numbered.ensures.batch)) in
    let taken = c.take_numbered.ensures.left in
    let same : c.take_numbered.new.self.board ≡ board = ap (λ (a : Auditor). a.board) taken in
    let start = ap (λ (b : Recorded). b.start) c.abandon.ensures.others ∙ ap (λ (b : Recorded). b.start) same in
    let last : Entry = record { actor = Desk batch.desk; event = Abandoned batch.number } in
    let grows = c.abandon.ensures.entry ∙ ap (λ (b : Recorded). b.history ++ last ∷ []) same in
    let names : last ≡ record { actor = Desk c.args.desk; event = Abandoned c.args.number }
    = (λ i. record { actor = Desk (one.desk_is i); event = Abandoned (one.number_is i) }) in
    record {
      grows = grows ∙ ap (λ (e : Entry). board.history ++ e ∷ []) names;
      start_stays = start;
      feeds_stay = ap (λ (b : Recorded). b.feeds) c.abandon.ensures.others ∙ ap (λ (b : Recorded). b.feeds) same;
      desks_stay = ap (λ (b : Recorded). b.desks) c.abandon.ensures.others ∙ ap (λ (b : Recorded). b.desks) same;
      auditing = auditing-on old _ c.requires.auditing start (ap (λ (a : Auditor). a.pricing) taken) (ap (λ (a : Auditor). a.log) taken)
          (subst (AreOpen (state_of c.abandon.new.self)) (sym (ap (λ (a : Auditor). a.batches) taken))
          (open-abandoned board c.abandon.new.self c.args.desk c.args.number batch old.batches start c.requires.desk one grows c.requires.auditing.open_are));
    }
