use Rattle.wait_list.proofs.Common.{◌<◌, [], sym, ◌∙◌, subst, All, append-nil, recursion_from_All, list_at, Rises, IsOneList}
use Rattle.wait_list.proofs.Rising.{rises-insert, rising-from_one}
use Rattle.wait_list.proofs.WaitList.add.Goals as goal

kept : (c : goal.After-push_back) → IsOneList c.push_back.new.self
kept c =
    let places = list_at c.self.inside.links 0 in
    let place = c.args.place in
    let below = recursion_from_All (λ x. x < place) places (subst (λ v. All (λ x. x < place) v.places) (sym c.self.view_is) c.requires.last) in
    record {
      family_ok = c.push_back.ensures.family;
      one = c.push_back.ensures.size.lists ∙ c.self.invariant.one;
      rises = subst Rises (sym c.push_back.ensures.added)
          (rises-insert places [] place (subst Rises (sym (append-nil places)) c.self.invariant.rises) below tt);
    }

pub invariant_of-self : goal.invariant_of-self
invariant_of-self c = kept c

pub returns-clause-rising : goal.returns-clause-rising
returns-clause-rising c = rising-from_one c.push_back.new.self (kept c)
