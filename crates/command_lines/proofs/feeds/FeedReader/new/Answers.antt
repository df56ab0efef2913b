use Rattle.command_lines.proofs.Common.{refl}
use Rattle.command_lines.proofs.ReaderLemmas.{given-nothing}
use Rattle.command_lines.proofs.feeds.FeedReader.new.Goals as goal

pub returns-clause-nothing_given : goal.returns-clause-nothing_given
returns-clause-nothing_given c left =
    given-nothing _ left c.requires refl c.in_ok-lines.ensures.limits c.in_ok-lines.ensures.nothing_given c.in_ok-lines.ensures.nothing_pending
