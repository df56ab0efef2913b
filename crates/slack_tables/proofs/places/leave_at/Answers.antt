use Rattle.slack_tables.proofs.Common.{ap, ◌∙◌, ◌+◌, arith, leave-read}
use Rattle.slack_tables.proofs.places.leave_at.Goals as goal

pub returns-else-place-eq0-clause-value : goal.returns-else-place-eq0-clause-value
returns-else-place-eq0-clause-value c =
    ap (λ n. n + c.args.terms.now.dwell) c.time.ensures
    ∙ leave-read c.args.terms.now.start c.args.terms.now.dwell c.args.slack.now.times c.args.place 0 (omega arith) c.requires.within
