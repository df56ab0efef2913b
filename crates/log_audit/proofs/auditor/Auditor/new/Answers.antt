use Rattle.log_audit.proofs.Common.{ap, sym, ◌∙◌, subst, State, replay, AreOpen}
use Rattle.log_audit.proofs.OpenOnes.{open-nothing}
use Rattle.log_audit.proofs.auditor.Auditor.new.Goals as goal

pub returns-clause-auditing : goal.returns-clause-auditing
returns-clause-auditing g c =
    let board = c.in_ok-board.board in
    record {
      roads_are = c.in_ok-pricing.ensures ∙ ap (λ (s : State). s.roads) (sym c.in_ok-board.ensures.start);
      log_is = ap (λ (s : State). s.settings.log) (sym c.in_ok-board.ensures.start);
      open_are = subst (λ h. AreOpen (replay board.start h) c.none.result) (sym c.in_ok-board.ensures.history)
          (open-nothing board.start c.none.result (ap (λ (s : State). s.batches) c.in_ok-board.ensures.start) c.none.ensures);
    }
