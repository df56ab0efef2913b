use Rattle.log_audit.proofs.Common.{◌≡◌, List, Option, None, Some, ℕ, ap, sym, subst, ◌∙◌, MatchOption, err_from_is_err_and, State, KeepsCount-then, Head, HasReadNoHead, HasRead, HasEnded, StopsReading}
use Rattle.log_audit.proofs.AuditSteps.{board-nothing, stops-head}
use Rattle.log_audit.proofs.LogParts.{takes-then}
use Rattle.log_audit.proofs.reading.read_log.Goals as goal

no-head : (before left : Option (List ℕ)) (version : ℕ) (P : Head → Type 0) (o : Option Head) → o ≡ None
    → MatchOption o (HasReadNoHead before version) P → HasReadNoHead before version
no-head before left version P o is h = subst (λ x. MatchOption x (HasReadNoHead before version) P) is h

a-head : (before : Option (List ℕ)) (version : ℕ) (P : Head → Type 0) (o : Option Head) (head : Head) → o ≡ Some head
    → MatchOption o (HasReadNoHead before version) P → P head
a-head before version P o head is h = subst (λ x. MatchOption x (HasReadNoHead before version) P) is h

pub new-requires-clause-feeds : goal.new-requires-clause-feeds
new-requires-clause-feeds g c =
    let before = g.S.Source.left c.args.log.now in
    (a-head before c.outset.inside.settings.log _ c.in_ok-head.field-0 c.in-Some.head c.in-Some.is
    (c.in_ok-head.ensures.head before (c.in_ok-lines.ensures before))).feeds_fit

pub new-requires-clause-desks : goal.new-requires-clause-desks
new-requires-clause-desks g c =
    let before = g.S.Source.left c.args.log.now in
    (a-head before c.outset.inside.settings.log _ c.in_ok-head.field-0 c.in-Some.head c.in-Some.is
    (c.in_ok-head.ensures.head before (c.in_ok-lines.ensures before))).desks_fit

pub further_lines-requires-clause-read : goal.further_lines-requires-clause-read
further_lines-requires-clause-read g c κs within =
    let before = g.S.Source.left c.args.log.now in
    let found = a-head before c.outset.inside.settings.log _ c.in_ok-head.field-0 c.in-Some.head c.in-Some.is
    (c.in_ok-head.ensures.head before (c.in_ok-lines.ensures before)) in (
      before,
      subst (HasRead before _ c.first_line.new.lines)
          (board-nothing c.in_ok-auditor.auditor.board c.outset.inside.settings.log c.in-Some.head.feeds c.in-Some.head.desks
          (ap (λ (s : State). s.settings.log) (c.in_ok-auditor.ensures.start ∙ sym c.outset.view_is)) c.in_ok-auditor.ensures.feeds c.in_ok-auditor.ensures.desks
          c.in_ok-auditor.ensures.history) found.read,
    )

pub returns-in_err-head-clause-read : goal.returns-in_err-head-clause-read
returns-in_err-head-clause-read g c =
    let failed = err_from_is_err_and c.from_residual-in_err-head.result c.from_residual-in_err-head.ensures.1 in
    let before = g.S.Source.left c.args.log.now in
    rw (failed.1, failed.2) (stops-head before _ c.args.outset c.in_err-head.field-0.0
    (c.in_err-head.ensures.head before (c.in_ok-lines.ensures before)))

pub returns-in_default-clause-read : goal.returns-in_default-clause-read
returns-in_default-clause-read g c =
    let before = g.S.Source.left c.args.log.now in
    subst (λ (s : State). HasReadNoHead before s.settings.log) c.outset.view_is
    (no-head before before c.outset.inside.settings.log _ c.in_ok-head.field-0 c.in_default.is (c.in_ok-head.ensures.head before (c.in_ok-lines.ensures before)))

pub returns-clause-read : goal.returns-clause-read
returns-clause-read g c =
    let before = g.S.Source.left c.args.log.now in
    let found = a-head before c.outset.inside.settings.log _ c.in_ok-head.field-0 c.in-Some.head c.in-Some.is
    (c.in_ok-head.ensures.head before (c.in_ok-lines.ensures before)) in
    let read = subst (HasRead before _ c.first_line.new.lines)
    (board-nothing c.in_ok-auditor.auditor.board c.outset.inside.settings.log c.in-Some.head.feeds c.in-Some.head.desks
    (ap (λ (s : State). s.settings.log) (c.in_ok-auditor.ensures.start ∙ sym c.outset.view_is)) c.in_ok-auditor.ensures.feeds c.in_ok-auditor.ensures.desks
    c.in_ok-auditor.ensures.history) found.read in
    subst (λ (s : State). HasEnded before (g.S.Source.left c.further_lines.new.log) s c.further_lines.new.auditor c.in_ok-ended.ended) c.in_ok-auditor.ensures.start
    (c.in_ok-ended.ensures.ended before read)

pub returns-clause-taken : goal.returns-clause-taken
returns-clause-taken g c = takes-then c.in_ok-head.ensures.taken c.in_ok-ended.ensures.taken

pub returns-in_err-ended-clause-read : goal.returns-in_err-ended-clause-read
returns-in_err-ended-clause-read g c =
    let failed = err_from_is_err_and c.from_residual-in_err-ended.result c.from_residual-in_err-ended.ensures.1 in
    let before = g.S.Source.left c.args.log.now in
    let found = a-head before c.outset.inside.settings.log _ c.in_ok-head.field-0 c.in-Some.head c.in-Some.is
    (c.in_ok-head.ensures.head before (c.in_ok-lines.ensures before)) in
    let read = subst (HasRead before _ c.first_line.new.lines)
    (board-nothing c.in_ok-auditor.auditor.board c.outset.inside.settings.log c.in-Some.head.feeds c.in-Some.head.desks
    (ap (λ (s : State). s.settings.log) (c.in_ok-auditor.ensures.start ∙ sym c.outset.view_is)) c.in_ok-auditor.ensures.feeds c.in_ok-auditor.ensures.desks
    c.in_ok-auditor.ensures.history) found.read in
    rw (failed.1, failed.2) (subst (λ (s : State). StopsReading before (g.S.Source.left c.further_lines.new.log) s c.in_err-ended.field-0.0)
    c.in_ok-auditor.ensures.start (c.in_err-ended.ensures.ended before read))

pub returns-in_err-ended-clause-taken : goal.returns-in_err-ended-clause-taken
returns-in_err-ended-clause-taken g c = takes-then c.in_ok-head.ensures.taken c.in_err-ended.ensures.taken

pub returns-in_err-ended-clause-faults : goal.returns-in_err-ended-clause-faults
returns-in_err-ended-clause-faults g c =
    let failed = err_from_is_err_and c.from_residual-in_err-ended.result c.from_residual-in_err-ended.ensures.1 in
    rw (failed.1, failed.2) (KeepsCount-then c.in_ok-head.ensures.faults c.in_err-ended.ensures.faults)
