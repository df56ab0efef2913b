use Rattle.fleet_board.proofs.Common.{◌≡◌, ℕ, ◌<◌, [], ◌∷◌, ◌++◌, length, refl, sym, ap, subst, ◌∙◌, IsFalse, Feed, Command, Entry, Fed, Reply, fed_commands, State, has_ended, step, state_of, knowledge, Known}
use Rattle.fleet_board.proofs.Actors.{feed-found, feed-added, feed-looked}
use Rattle.fleet_board.proofs.Points.{Added, Looked, added, looked, point-added, point-looked, before-added}
use Rattle.fleet_board.proofs.shared.SharedBoard.submit.Given as given
use Rattle.fleet_board.proofs.shared.SharedBoard.submit.Goals as goal

pub apply-requires-clause-not_ended : goal.apply-requires-clause-not_ended
apply-requires-clause-not_ended g c =
    let k : Known = knowledge c.args.pass.now in
    let number_is : k.number ≡ c.number-feed.result = sym (c.number-feed.ensures ∙ ap (λ (x : Known). x.number) c.take_turn-kept.ensures.knows) in
    subst (λ n. IsFalse (has_ended (state_of c.take_turn-kept.result.board) (Feed n))) number_is
    (feed-found k c.take_turn-kept.result.board c.requires.point c.requires.feed c.take_turn-kept.ensures.finds).lives

pub apply-requires-clause-few : goal.apply-requires-clause-few
apply-requires-clause-few g c =
    let k : Known = knowledge c.args.pass.now in
    let number_is : k.number ≡ c.number-feed.result = sym (c.number-feed.ensures ∙ ap (λ (x : Known). x.number) c.take_turn-kept.ensures.knows) in
    subst (λ n. length (fed_commands n c.take_turn-kept.result.board.history) < 1000000000) number_is
    (subst (λ commands. length commands < 1000000000)
    (sym (feed-found k c.take_turn-kept.result.board c.requires.point c.requires.feed c.take_turn-kept.ensures.finds).commands) c.requires.few)

-- the entry of the command and its reply
abbrev entry_of : ℕ → Command → Reply → Entry
entry_of number command reply = record { actor = Feed number; event = Fed command reply }

-- it was added
was_added : (g : given.Over) (c : goal.After-leave_with g)
    → Added (knowledge c.args.pass.now) (knowledge c.leave_with.new.pass) c.take_turn-kept.result.board c.apply.new.self
    (entry_of (knowledge c.args.pass.now).number c.args.command.now c.in-Ok.reply)
was_added g c =
    let k : Known = knowledge c.args.pass.now in
    let number_is : c.number-feed.result ≡ k.number = c.number-feed.ensures ∙ ap (λ (x : Known). x.number) c.take_turn-kept.ensures.knows in
    let old = c.take_turn-kept.result.board in
    added k (knowledge c.take_turn-kept.new.pass) (knowledge c.leave_with.new.pass) old c.apply.new.self
    (entry_of k.number c.args.command.now c.in-Ok.reply) c.take_turn-kept.ensures.finds c.requires.pass.1 c.take_turn-kept.ensures.knows
    c.in-Ok.ensures.others
    (c.in-Ok.ensures.entry ∙ (λ i. old.history ++ entry_of (number_is i) c.args.command.now (sym c.in-Ok.ensures.reply i) ∷ []))
    refl c.leave_with.ensures.told c.leave_with.ensures.knows

pub returns-in-Ok-clause-point : goal.returns-in-Ok-clause-point
returns-in-Ok-clause-point g c = point-added _ _ _ _ _ (was_added g c) c.requires.point

pub returns-in-Ok-clause-feed : goal.returns-in-Ok-clause-feed
returns-in-Ok-clause-feed g c = feed-added _ _ _ _ _ (was_added g c) c.requires.point c.requires.feed refl

pub returns-in-Ok-clause-reply : goal.returns-in-Ok-clause-reply
returns-in-Ok-clause-reply g c =
    c.in-Ok.ensures.reply ∙ ap (λ (s : State). (step s c.args.command.now).reply) (sym (before-added _ _ _ _ _ (was_added g c)))

-- nothing was added
none_added : (g : given.Over) (c : goal.After-leave_same g)
    → Looked (knowledge c.args.pass.now) (knowledge c.leave_same.new.pass) c.take_turn-kept.result.board
none_added g c =
    looked (knowledge c.args.pass.now) (knowledge c.take_turn-kept.new.pass) (knowledge c.leave_same.new.pass) c.take_turn-kept.result.board
    c.take_turn-kept.ensures.finds c.requires.pass.1 c.take_turn-kept.ensures.knows c.leave_same.ensures.pass

pub returns-in-Err-clause-point : goal.returns-in-Err-clause-point
returns-in-Err-clause-point g c = point-looked _ _ _ (none_added g c) c.requires.point

pub returns-in-Err-clause-feed : goal.returns-in-Err-clause-feed
returns-in-Err-clause-feed g c = feed-looked _ _ _ (none_added g c) c.requires.point c.requires.feed
