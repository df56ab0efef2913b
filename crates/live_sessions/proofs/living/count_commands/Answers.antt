use Rattle.live_sessions.proofs.Common.{◌∙◌}
use Rattle.live_sessions.proofs.Counts.{count-fed}
use Rattle.live_sessions.proofs.living.count_commands.Goals as goal

pub returns : goal.returns
returns c = c.count_made.ensures ∙ count-fed c.args.feed c.args.entries.now
