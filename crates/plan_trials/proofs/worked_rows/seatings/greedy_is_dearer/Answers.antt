use Rattle.plan_trials.proofs.worked_rows.Certified.{greedy_is_seating, least_is_certified, least_is_least}
use Rattle.plan_trials.proofs.worked_rows.seatings.greedy_is_dearer.Goals as goal

pub returns-clause-greedy : goal.returns-clause-greedy
returns-clause-greedy c = greedy_is_seating

pub returns-clause-certified : goal.returns-clause-certified
returns-clause-certified c = least_is_certified

pub returns-clause-least : goal.returns-clause-least
returns-clause-least c = least_is_least
