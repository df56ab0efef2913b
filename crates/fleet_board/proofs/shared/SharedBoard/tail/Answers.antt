use Rattle.fleet_board.proofs.Common.{◌≡◌, List, sym, ap, subst, ◌∙◌, take, drop, IfOk, Entry, State, Recorded, state_of, knowledge, Known, root_of, all_ended}
use Rattle.fleet_board.specs.declared.scribes.Tail.{Tail}
use Rattle.fleet_board.proofs.Points.{Looked, looked, sees, point-looked, state-looked, root-looked}
use Rattle.fleet_board.proofs.shared.SharedBoard.tail.Given as given
use Rattle.fleet_board.proofs.shared.SharedBoard.tail.Goals as goal

-- nothing was added
none_added : (g : given.Over) (c : goal.After-leave_same g)
    → Looked (knowledge c.args.pass.now) (knowledge c.leave_same.new.pass) c.take_turn-kept.result.board
none_added g c =
    looked (knowledge c.args.pass.now) (knowledge c.take_turn-kept.new.pass) (knowledge c.leave_same.new.pass) c.take_turn-kept.result.board
    c.take_turn-kept.ensures.finds c.requires.pass.1 c.take_turn-kept.ensures.knows c.leave_same.ensures.pass

pub returns-clause-point : goal.returns-clause-point
returns-clause-point g c = point-looked _ _ _ (none_added g c) c.requires.point

pub returns-clause-none : goal.returns-clause-none
returns-clause-none g c = sees _ _ _ (none_added g c)

pub returns-clause-entries : goal.returns-clause-entries
returns-clause-entries g c =
    subst (λ (h : List Entry). IfOk c.tail_of-tail.result (λ (tail : Tail). tail.entries.items ≡ take c.args.most (drop c.args.from h)))
    (sym (ap (λ (x : Known). x.seen) (none_added g c).knows)) c.tail_of-tail.ensures.entries

pub returns-clause-settled : goal.returns-clause-settled
returns-clause-settled g c =
    let after : Known = knowledge c.leave_same.new.pass in
    let l = none_added g c in
    subst (λ (s : State). IfOk c.tail_of-tail.result (λ (tail : Tail). tail.settled ≡ all_ended (root_of after).feeds (root_of after).desks s))
    (sym (state-looked _ _ _ l))
    (subst (λ (r : Recorded). IfOk c.tail_of-tail.result
    (λ (tail : Tail). tail.settled ≡ all_ended r.feeds r.desks (state_of c.take_turn-kept.result.board)))
    (sym (root-looked _ _ _ l ∙ l.found.began)) c.tail_of-tail.ensures.settled)
