use Rattle.fleet_board.proofs.Common.{sym, subst, arith, IfSome_then, IsPrefix, Feed, Desk, EndedStand, knowledge, prefix_trans, Recorded, Known, maker_of}
use Rattle.fleet_board.proofs.Closing.{Joined, joined, feed-part, desk-part, part-is}
use Rattle.fleet_board.proofs.shared.SharedBoard.close.Goals as goal

-- what the scribe's pass knows after each join
abbrev known_1 : goal.After-opened → Known
known_1 c = knowledge c.join_some.new.scribe

abbrev known_2 : goal.After-opened → Known
known_2 c = knowledge c.join_some-2.new.scribe

abbrev known_3 : goal.After-opened → Known
known_3 c = knowledge c.join_some-3.new.scribe

abbrev known_4 : goal.After-opened → Known
known_4 c = knowledge c.join_some-4.new.scribe

-- each join leaves what stood, and adds the pass that was joined
stand_4 : (c : goal.After-opened) → Joined (λ p. knowledge p) c.opened.result.history c.args.passes.desk_2 (known_3 c)
stand_4 c =
    joined (λ p. knowledge p) c.opened.result.history c.args.passes.desk_2 (known_3 c) (known_4 c) c.join_some-4.ensures.joined
    (subst (λ (b : Recorded). EndedStand maker_of (known_4 c).ended b.history) (sym c.opened.ensures.same) c.in-Ok.ensures.ended)

stand_3 : (c : goal.After-opened) → Joined (λ p. knowledge p) c.opened.result.history c.args.passes.desk_1 (known_2 c)
stand_3 c =
    joined (λ p. knowledge p) c.opened.result.history c.args.passes.desk_1 (known_2 c) (known_3 c) c.join_some-3.ensures.joined (stand_4 c).before

stand_2 : (c : goal.After-opened) → Joined (λ p. knowledge p) c.opened.result.history c.args.passes.feed_2 (known_1 c)
stand_2 c =
    joined (λ p. knowledge p) c.opened.result.history c.args.passes.feed_2 (known_1 c) (known_2 c) c.join_some-2.ensures.joined (stand_3 c).before

stand_1 : (c : goal.After-opened) → Joined (λ p. knowledge p) c.opened.result.history c.args.passes.feed_1 (knowledge c.args.passes.scribe)
stand_1 c =
    joined (λ p. knowledge p) c.opened.result.history c.args.passes.feed_1 (knowledge c.args.passes.scribe) (known_1 c) c.join_some.ensures.joined
    (stand_2 c).before

-- what was seen before each join begins the history
seen_4 : (c : goal.After-opened) → IsPrefix (known_4 c).seen c.opened.result.history
seen_4 c = subst (λ (b : Recorded). IsPrefix (known_4 c).seen b.history) (sym c.opened.ensures.same) c.in-Ok.ensures.seen

seen_3 : (c : goal.After-opened) → IsPrefix (known_3 c).seen c.opened.result.history
seen_3 c = prefix_trans (known_3 c).seen (known_4 c).seen c.opened.result.history c.join_some-4.ensures.seen (seen_4 c)

seen_2 : (c : goal.After-opened) → IsPrefix (known_2 c).seen c.opened.result.history
seen_2 c = prefix_trans (known_2 c).seen (known_3 c).seen c.opened.result.history c.join_some-3.ensures.seen (seen_3 c)

seen_1 : (c : goal.After-opened) → IsPrefix (known_1 c).seen c.opened.result.history
seen_1 c = prefix_trans (known_1 c).seen (known_2 c).seen c.opened.result.history c.join_some-2.ensures.seen (seen_2 c)

pub returns-in-Ok-clause-feed_1 : goal.returns-in-Ok-clause-feed_1
returns-in-Ok-clause-feed_1 c =
    part-is (λ p. knowledge p) c.args.passes.feed_1 c.opened.result.history (known_1 c).seen (Feed 1) 1
    (feed-part c.opened.result.start.settings.log 1 c.opened.result.history c.opened.ensures.text.lines (omega arith, omega arith))
    (IfSome_then c.args.passes.feed_1 c.requires.feed_1 (λ p back. back.1)) (stand_1 c).its c.join_some.ensures.pass_seen (seen_1 c)

pub returns-in-Ok-clause-feed_2 : goal.returns-in-Ok-clause-feed_2
returns-in-Ok-clause-feed_2 c =
    part-is (λ p. knowledge p) c.args.passes.feed_2 c.opened.result.history (known_2 c).seen (Feed 2) 2
    (feed-part c.opened.result.start.settings.log 2 c.opened.result.history c.opened.ensures.text.lines (omega arith, omega arith))
    (IfSome_then c.args.passes.feed_2 c.requires.feed_2 (λ p back. back.1)) (stand_2 c).its c.join_some-2.ensures.pass_seen (seen_2 c)

pub returns-in-Ok-clause-desk_1 : goal.returns-in-Ok-clause-desk_1
returns-in-Ok-clause-desk_1 c =
    part-is (λ p. knowledge p) c.args.passes.desk_1 c.opened.result.history (known_3 c).seen (Desk 1) 3
    (desk-part c.opened.result.start.settings.log 1 c.opened.result.history c.opened.ensures.text.lines (omega arith, omega arith))
    (IfSome_then c.args.passes.desk_1 c.requires.desk_1 (λ p back. back.1)) (stand_3 c).its c.join_some-3.ensures.pass_seen (seen_3 c)

pub returns-in-Ok-clause-desk_2 : goal.returns-in-Ok-clause-desk_2
returns-in-Ok-clause-desk_2 c =
    part-is (λ p. knowledge p) c.args.passes.desk_2 c.opened.result.history (known_4 c).seen (Desk 2) 4
    (desk-part c.opened.result.start.settings.log 2 c.opened.result.history c.opened.ensures.text.lines (omega arith, omega arith))
    (IfSome_then c.args.passes.desk_2 c.requires.desk_2 (λ p back. back.1)) (stand_4 c).its c.join_some-4.ensures.pass_seen (seen_4 c)
