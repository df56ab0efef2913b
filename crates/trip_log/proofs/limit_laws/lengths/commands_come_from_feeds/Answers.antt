use Rattle.trip_log.proofs.limit_laws.FedCommands.{of-one_feed, of-two_feeds}
use Rattle.trip_log.proofs.limit_laws.lengths.commands_come_from_feeds.Goals as goal

pub returns : goal.returns
returns c = record { one_feed = of-one_feed; two_feeds = of-two_feeds }
