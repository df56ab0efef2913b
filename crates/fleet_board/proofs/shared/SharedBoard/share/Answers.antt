use Rattle.fleet_board.proofs.Common.{◌≡◌, ◌+◌, eqb, sym, ap, ◌∙◌, arith, items_of, knowledge, Known, maker_of, one_if_some, IsNewPass, IsTold}
use Rattle.fleet_board.proofs.Starting.{FourSplits, StillSees, point-of, new-point, four_splits, still-sees, still-out, kept-second}
use Rattle.fleet_board.proofs.shared.SharedBoard.share.Goals as goal

told : (c : goal.After-kept_if-desk_2) → IsTold c.args.board
told c =
    let said = c.entries.ensures in
    record { start_fits = said.start; legal = said.legal; text = said.text }

-- what the passes know after the splits
splits : (c : goal.After-kept_if-desk_2)
    → FourSplits c.args.board (knowledge c.split-desk_2.result) (knowledge c.split-desk_1.result) (knowledge c.split-feed_2.result)
    (knowledge c.split-feed_1.result) (knowledge c.split-feed_1.new.pass)
splits c =
    four_splits c.args.board (knowledge c.in_ok-lock.scribe) (knowledge c.split-desk_2.new.pass) (knowledge c.split-desk_1.new.pass)
    (knowledge c.split-feed_2.new.pass) (knowledge c.split-feed_1.new.pass) (knowledge c.split-desk_2.result) (knowledge c.split-desk_1.result)
    (knowledge c.split-feed_2.result) (knowledge c.split-feed_1.result) c.in_ok-lock.ensures.pass c.split-desk_2.ensures.pass
    c.split-desk_2.ensures.new_pass c.split-desk_1.ensures.pass c.split-desk_1.ensures.new_pass c.split-feed_2.ensures.pass
    c.split-feed_2.ensures.new_pass c.split-feed_1.ensures.pass c.split-feed_1.ensures.new_pass

-- the new passes
feed_1 : (c : goal.After-kept_if-desk_2) → IsNewPass (record { lock = c.in_ok-lock.lock }) c.args.board 1 c.split-feed_1.result
feed_1 c =
    let is = (splits c).feed_1_is in
    (((c.split-feed_1.ensures.lock.1, ap (λ (k : Known). k.has_turn) is), is), new-point c.args.board (told c) 1 (knowledge c.split-feed_1.result) is)

feed_2 : (c : goal.After-kept_if-desk_2) → IsNewPass (record { lock = c.in_ok-lock.lock }) c.args.board 2 c.split-feed_2.result
feed_2 c =
    let is = (splits c).feed_2_is in
    (((c.split-feed_2.ensures.lock.1, ap (λ (k : Known). k.has_turn) is), is), new-point c.args.board (told c) 2 (knowledge c.split-feed_2.result) is)

desk_1 : (c : goal.After-kept_if-desk_2) → IsNewPass (record { lock = c.in_ok-lock.lock }) c.args.board 3 c.split-desk_1.result
desk_1 c =
    let is = (splits c).desk_1_is in
    (((c.split-desk_1.ensures.lock.1, ap (λ (k : Known). k.has_turn) is), is), new-point c.args.board (told c) 3 (knowledge c.split-desk_1.result) is)

desk_2 : (c : goal.After-kept_if-desk_2) → IsNewPass (record { lock = c.in_ok-lock.lock }) c.args.board 4 c.split-desk_2.result
desk_2 c =
    let is = (splits c).desk_2_is in
    (((c.split-desk_2.ensures.lock.1, ap (λ (k : Known). k.has_turn) is), is), new-point c.args.board (told c) 4 (knowledge c.split-desk_2.result) is)

-- the scribe's pass has seen the history as it stood, and counts the passes that were kept
sees_4 : (c : goal.After-kept_if-desk_2) → StillSees c.args.board (knowledge c.split-feed_1.new.pass)
sees_4 c = record {
  rooted = ap (λ (k : Known). k.root) (splits c).last_is;
  seen_is = ap (λ (k : Known). k.seen) (splits c).last_is;
  own_is = ap (λ (k : Known). k.own) (splits c).last_is;
}

sees_5 : (c : goal.After-kept_if-desk_2) → StillSees c.args.board (knowledge c.kept_if-feed_2.new.scribe)
sees_5 c =
    still-sees c.args.board (knowledge c.split-feed_1.new.pass) (knowledge c.kept_if-feed_2.new.scribe) (knowledge c.split-feed_2.result)
    (eqb c.feeds-two_feeds.result 2) c.kept_if-feed_2.result (λ p. p ≡ c.split-feed_2.result) (sees_4 c) (ap (λ (k : Known). k.seen) (splits c).feed_2_is)
    c.kept_if-feed_2.ensures.kept

sees_6 : (c : goal.After-kept_if-desk_2) → StillSees c.args.board (knowledge c.kept_if-desk_2.new.scribe)
sees_6 c =
    still-sees c.args.board (knowledge c.kept_if-feed_2.new.scribe) (knowledge c.kept_if-desk_2.new.scribe) (knowledge c.split-desk_2.result)
    (eqb c.desks-two_desks.result 2) c.kept_if-desk_2.result (λ p. p ≡ c.split-desk_2.result) (sees_5 c) (ap (λ (k : Known). k.seen) (splits c).desk_2_is)
    c.kept_if-desk_2.ensures.kept

out_6 : (c : goal.After-kept_if-desk_2)
    → (knowledge c.kept_if-desk_2.new.scribe).out ≡ 1 + one_if_some c.kept_if-feed_2.result + 1 + one_if_some c.kept_if-desk_2.result
out_6 c =
    let four : (knowledge c.split-feed_1.new.pass).out ≡ 4 = ap (λ (k : Known). k.out) (splits c).last_is in
    let five = still-out (knowledge c.split-feed_1.new.pass) (knowledge c.kept_if-feed_2.new.scribe) (knowledge c.split-feed_2.result)
    (eqb c.feeds-two_feeds.result 2) c.kept_if-feed_2.result (λ p. p ≡ c.split-feed_2.result) (omega (arith, four)) c.kept_if-feed_2.ensures.kept in
    let six = still-out (knowledge c.kept_if-feed_2.new.scribe) (knowledge c.kept_if-desk_2.new.scribe) (knowledge c.split-desk_2.result)
    (eqb c.desks-two_desks.result 2) c.kept_if-desk_2.result (λ p. p ≡ c.split-desk_2.result) (omega (arith, four, five)) c.kept_if-desk_2.ensures.kept in
    omega (arith, four, five, six)

pub returns : goal.returns
returns c =
    let scribe : Known = knowledge c.kept_if-desk_2.new.scribe in
    record {
      feed_1 = feed_1 c;
      feed_2 = kept-second c.args.board.feeds (eqb c.feeds-two_feeds.result 2) c.kept_if-feed_2.result c.split-feed_2.result _ _
          (IsNewPass (record { lock = c.in_ok-lock.lock }) c.args.board 2) (ap (λ n. eqb n 2) c.feeds-two_feeds.ensures) (λ _. feed_2 c) c.kept_if-feed_2.ensures.kept;
      desk_1 = desk_1 c;
      desk_2 = kept-second c.args.board.desks (eqb c.desks-two_desks.result 2) c.kept_if-desk_2.result c.split-desk_2.result _ _
          (IsNewPass (record { lock = c.in_ok-lock.lock }) c.args.board 4) (ap (λ n. eqb n 2) c.desks-two_desks.ensures) (λ _. desk_2 c) c.kept_if-desk_2.ensures.kept;
      scribe = c.kept_if-desk_2.ensures.scribe;
      scribe_point = point-of c.args.board (told c) scribe (sees_6 c).rooted (sees_6 c).seen_is
          ((sees_6 c).own_is ∙ ap (λ n. items_of maker_of n c.args.board.history) (sym c.kept_if-desk_2.ensures.scribe.1));
      scribe_seen = (sees_6 c).seen_is;
      root = (sees_6 c).rooted;
      out = out_6 c;
    }
