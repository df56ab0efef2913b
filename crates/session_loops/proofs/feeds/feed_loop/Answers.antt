use Rattle.session_loops.proofs.Common.{knowledge, feed-may_end}
use Rattle.session_loops.proofs.FeedEnds.{runs-feed}
use Rattle.session_loops.proofs.feeds.feed_loop.Goals as goal

pub end-requires-clause-may_end : goal.end-requires-clause-may_end
end-requires-clause-may_end g c =
    feed-may_end (knowledge c.run_feed-stop.new.pass) c.ending_of.result c.run_feed-stop.ensures.feed.point c.run_feed-stop.ensures.feed.feed

pub returns-clause-ran : goal.returns-clause-ran
returns-clause-ran g c =
    runs-feed c.args.form (g.S.Source.left c.args.source.now) (g.S.Source.left c.run_feed-stop.new.source) c.run_feed-stop.result c.ending_of.result
    c.ran_of.result (knowledge c.args.pass.now) (knowledge c.run_feed-stop.new.pass) (knowledge c.end.new.pass) c.run_feed-stop.ensures.submitted
    c.ending_of.ensures c.ran_of.ensures c.end.ensures.entry
