use Rattle.fleet_board.proofs.Common.{◌≡◌, ℕ, List, [], ◌∷◌, ◌++◌, sym, ap, subst, ◌∙◌, Actor, Finish, Entry, IsLegalEvent, state_of, end_entry, after_enter, knowledge, Known, actor_of}
use Rattle.fleet_board.proofs.MayEnd.{may-end, end-made}
use Rattle.fleet_board.proofs.Points.{added, point-added}
use Rattle.fleet_board.proofs.shared.SharedBoard.end.Goals as goal

-- the actor that ends is the pass's
actor_is : (k entered : Known) (history : List Entry) (number : ℕ) (actor : Actor) → entered ≡ after_enter k history → number ≡ entered.number
    → actor ≡ actor_of number → actor_of k.number ≡ actor
actor_is k entered history number actor enters number_is is =
    sym (is ∙ ap actor_of (number_is ∙ ap (λ (x : Known). x.number) enters))

pub end-requires : goal.end-requires
end-requires g c =
    let board = c.take_turn-kept.result.board in
    subst (λ actor. IsLegalEvent board.feeds board.desks (state_of board) actor (Finish c.args.ending))
    (actor_is (knowledge c.args.pass.now) (knowledge c.take_turn-kept.new.pass) board.history c.number.result c.actor_of-actor.result
    c.take_turn-kept.ensures.knows c.number.ensures c.actor_of-actor.ensures)
    (may-end (knowledge c.args.pass.now) board c.args.ending c.requires.point c.take_turn-kept.ensures.finds c.requires.may_end)

pub returns-clause-point : goal.returns-clause-point
returns-clause-point g c =
    let k : Known = knowledge c.args.pass.now in
    let old = c.take_turn-kept.result.board in
    let is = actor_is k (knowledge c.take_turn-kept.new.pass) old.history c.number.result c.actor_of-actor.result
    c.take_turn-kept.ensures.knows c.number.ensures c.actor_of-actor.ensures in
    point-added k (knowledge c.leave_with.new.pass) old c.end.new.self (end_entry (actor_of k.number) c.args.ending)
    (added k (knowledge c.take_turn-kept.new.pass) (knowledge c.leave_with.new.pass) old c.end.new.self (end_entry (actor_of k.number) c.args.ending)
    c.take_turn-kept.ensures.finds c.requires.pass.1 c.take_turn-kept.ensures.knows c.end.ensures.others
    (c.end.ensures.entry ∙ (λ i. old.history ++ end_entry (sym is i) c.args.ending ∷ []))
    (end-made k.number) c.leave_with.ensures.told c.leave_with.ensures.knows)
    c.requires.point
