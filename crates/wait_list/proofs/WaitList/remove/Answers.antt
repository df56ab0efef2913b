use Rattle.wait_list.proofs.Common.{sym, ◌∙◌, subst, eqb, not, Rises, IsOneList, list_at}
use Rattle.wait_list.proofs.Rising.{rises-filter, rising-from_one}
use Rattle.wait_list.proofs.WaitList.remove.Goals as goal

kept : (c : goal.After-unlink) → IsOneList c.unlink.new.self
kept c = record {
  family_ok = c.unlink.ensures.family;
  one = c.unlink.ensures.size.lists ∙ c.self.invariant.one;
  rises = subst Rises (sym (c.unlink.ensures.taken_out 0))
      (rises-filter (λ other. not (eqb other c.args.place)) (list_at c.self.inside.links 0) c.self.invariant.rises);
}

pub invariant_of-self : goal.invariant_of-self
invariant_of-self c = kept c

pub returns-clause-rising : goal.returns-clause-rising
returns-clause-rising c = rising-from_one c.unlink.new.self (kept c)
