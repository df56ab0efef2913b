use Rattle.plan_trials.proofs.worked_rows.Certified.{plain_is_certified, one_more_does_not_certify, plain_is_least}
use Rattle.plan_trials.proofs.worked_rows.seatings.price_of_the_plain_path.Goals as goal

pub returns-clause-certified : goal.returns-clause-certified
returns-clause-certified c = plain_is_certified

pub returns-clause-too_high : goal.returns-clause-too_high
returns-clause-too_high c = one_more_does_not_certify

pub returns-clause-least : goal.returns-clause-least
returns-clause-least c = plain_is_least
