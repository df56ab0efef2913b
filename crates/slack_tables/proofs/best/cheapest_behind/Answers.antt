use Rattle.slack_tables.proofs.Common.{◌+◌, sym, ◌∙◌, ap, arith, cost_found}
use Rattle.slack_tables.proofs.Searching.{none-from, no-lateness-cost}
use Rattle.slack_tables.proofs.best.cheapest_behind.Goals as goal

pub returns-in_err-late-clause-cost : goal.returns-in_err-late-clause-cost
returns-in_err-late-clause-cost c =
    ap cost_found c.from_residual.ensures
    ∙ sym (none-from c.args.terms.now c.args.slack.now c.args.near.now c.args.pickup.place (c.args.pickup.place + 1) (λ k high.
    no-lateness-cost c.args.terms.now c.args.slack.now c.args.near.now c.args.pickup.place k c.args.pickup.time c.requires.picks_up
    (sym c.lateness.ensures.value ∙ c.in_err-late.was) (omega (arith, high))))
