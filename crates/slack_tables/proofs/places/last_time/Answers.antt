use Rattle.slack_tables.proofs.Common.{ap, ◌∙◌, ◌-◌, slice_index, arith}
use Rattle.slack_tables.proofs.Arrivals.{last-read}
use Rattle.slack_tables.proofs.places.last_time.Goals as goal

pub returns-else-stops-eq0 : goal.returns-else-stops-eq0
returns-else-stops-eq0 c =
    c.time.ensures
    ∙ ap (λ n. slice_index c.args.slack.now.times (n - 1)) c.stops-stops.ensures
    ∙ last-read c.args.terms.now.start c.args.slack.now.times 0 (omega arith)
