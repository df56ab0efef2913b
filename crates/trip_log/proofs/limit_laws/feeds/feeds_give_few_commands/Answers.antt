use Rattle.trip_log.proofs.limit_laws.FeedCommands.{ended-le, whole-le}
use Rattle.trip_log.proofs.limit_laws.feeds.feeds_give_few_commands.Goals as goal

pub returns : goal.returns
returns c = record { whole = whole-le; ended = ended-le }
