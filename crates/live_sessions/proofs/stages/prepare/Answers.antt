use Rattle.live_sessions.proofs.Common.{◌≡◌, ◌≢◌, ◌≤◌, length, sym, ap, subst, ◌∙◌, MatchOption, fed_commands, most_earlier_commands, Recorded, knowledge, root_of, IsBack, IsNewPass, one_if_some, Feeder, Stage, IsDeskOf, IsEquipped, IsFeederOf, IsFeedStart, MayRunActors}
use Rattle.live_sessions.specs.declared.desk_pairs.Desk.{Desk}
use Rattle.live_sessions.proofs.StageLemmas.{at-some, equip, four, of-bare, second-count, second-ready}
use Rattle.live_sessions.proofs.Starts.{may-run}
use Rattle.live_sessions.proofs.stages.prepare.Goals as goal

pub returns-clause-board : goal.returns-clause-board
returns-clause-board c =
    let said = c.in_ok-board.ensures in
    let passes = c.in_ok-board.passes in
    ap (λ pass. record (root_of (knowledge pass)) { history = (knowledge pass).seen }) c.in_ok-actors.ensures.scribe
    ∙ (λ i. record (root_of (record (knowledge passes.scribe) { root = said.root i })) { history = said.scribe_seen i })

pub returns-clause-ready : goal.returns-clause-ready
returns-clause-ready c =
    let shared = c.in_ok-board.board in
    let passes = c.in_ok-board.passes in
    let actors = c.in_ok-actors.actors in
    let board : Recorded = record c.args.interrupted.board { spare = 0 } in
    let living = c.living_on-living.result in
    let lives = c.living_on-living.ensures in
    let said = c.in_ok-board.ensures in
    let are = c.in_ok-actors.ensures in
    let may = c.requires.may_go_on in
    let same : record (root_of (knowledge actors.scribe)) { history = (knowledge actors.scribe).seen } ≡ board =
    ap (λ pass. record (root_of (knowledge pass)) { history = (knowledge pass).seen }) are.scribe
    ∙ (λ i. record (root_of (record (knowledge passes.scribe) { root = said.root i })) { history = said.scribe_seen i }) in
    record {
      few = λ feed. subst (λ (b : Recorded). length (fed_commands feed b.history) ≤ most_earlier_commands) (sym same) (may.few feed);
      feed_1 = subst (λ (b : Recorded). IsFeederOf shared b 1 actors.feeds.riders) (sym same) (record {
        pass = at-some _ passes.feed_1 actors.feeds.riders.pass are.feed_1.0 said.feed_1;
        stands = subst (IsFeedStart board 1) (sym are.feed_1.1) (of-bare lives.riders);
      });
      feed_2 = subst (λ (b : Recorded). MatchOption actors.feeds.drivers (b.feeds ≢ 2) (λ (feeder : Feeder). (b.feeds ≡ 2) × IsFeederOf shared b 2 feeder))
          (sym same) (second-ready (λ (feeder : Feeder). feeder.pass) passes.feed_2 actors.feeds.drivers (board.feeds ≢ 2) (board.feeds ≡ 2)
          (IsNewPass shared board 2) (λ (feeder : Feeder). feeder.start ≡ living.drivers) (IsFeederOf shared board 2)
          (λ feeder two pass is. record { pass = pass; stands = subst (IsFeedStart board 2) (sym is) (of-bare (lives.drivers two)) }) are.feed_2 said.feed_2);
      desk_1 = subst (λ (b : Recorded). IsDeskOf shared b 1 actors.desks.first) (sym same) (record {
        pass = at-some _ passes.desk_1 actors.desks.first.pass are.desk_1.0 said.desk_1;
        equipped = equip are.desk_1.1 (sym may.roads_are) may.first_is lives.first;
      });
      desk_2 = subst (λ (b : Recorded). MatchOption actors.desks.second (b.desks ≢ 2) (λ (desk : Desk). (b.desks ≡ 2) × IsDeskOf shared b 2 desk))
          (sym same) (second-ready (λ (desk : Desk). desk.pass) passes.desk_2 actors.desks.second (board.desks ≢ 2) (board.desks ≡ 2)
          (IsNewPass shared board 4) (IsEquipped c.args.roads.now c.args.interrupted.second living.second) (IsDeskOf shared board 2)
          (λ desk two pass is. record { pass = pass; equipped = equip is (sym may.roads_are) may.second_is lives.second }) are.desk_2 said.desk_2);
      scribe = subst (λ pass. IsBack shared 0 pass) (sym are.scribe) said.scribe;
      scribe_point = rw are.scribe said.scribe_point;
      out = rw are.scribe (said.out ∙ four (one_if_some passes.feed_1) (one_if_some passes.feed_2) (one_if_some passes.desk_1)
          (one_if_some passes.desk_2) (one_if_some actors.feeds.drivers) (one_if_some actors.desks.second) (ap one_if_some are.feed_1.0)
          (second-count (λ (feeder : Feeder). feeder.pass) passes.feed_2 actors.feeds.drivers (λ (feeder : Feeder). feeder.start ≡ living.drivers) are.feed_2)
          (ap one_if_some are.desk_1.0)
          (second-count (λ (desk : Desk). desk.pass) passes.desk_2 actors.desks.second
          (IsEquipped c.args.roads.now c.args.interrupted.second living.second) are.desk_2));
      output = c.in_ok-output.ensures;
    }

pub returns-clause-may_run : goal.returns-clause-may_run
returns-clause-may_run c =
    let stage : Stage = record {
      board = c.in_ok-board.board;
      actors = c.in_ok-actors.actors;
      output = c.in_ok-output.output;
      log = c.log-log.result;
      feeds = c.feeds-feeds.result;
      desks = c.desks-desks.result;
      broken_off = c.is_broken_off-broken_off.result;
    } in
    subst (λ log. MayRunActors c.in_ok-board.board log c.in_ok-actors.actors)
    (ap (λ (b : Recorded). b.start.settings.log) (returns-clause-board c) ∙ sym c.log-log.ensures)
    (may-run stage (returns-clause-ready c))
