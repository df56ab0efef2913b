use Rattle.wait_list.proofs.Common.{◌≡◌, ◌∷◌, ◌++◌, sym, ◌∙◌, subst, Some, None, Contains, list_at, places_below, places_above, Rises, IsSplit, IsOneList}
use Rattle.wait_list.proofs.Rising.{rising-from_one}
use Rattle.wait_list.proofs.Placed.{rises-put, put-first, put-behind, last-waits}
use Rattle.wait_list.proofs.WaitList.put_back.Goals as goal

-- ---- before all others

put_first : (c : goal.After-push_front) → list_at c.push_front.new.self 0 ≡ places_below c.args.place (list_at c.self.inside.links 0) ++ c.args.place ∷ places_above c.args.place (list_at c.self.inside.links 0)
put_first c =
    let out = subst (λ v. Contains v.places c.args.place → ⊥) (sym c.self.view_is) c.requires.absent in
    let split = subst (λ v. IsSplit v.places c.args.place None) (sym c.self.view_is) c.in-None.ensures in
    c.push_front.ensures.added ∙ put-first (list_at c.self.inside.links 0) c.args.place split out

kept_first : (c : goal.After-push_front) → IsOneList c.push_front.new.self
kept_first c =
    let out = subst (λ v. Contains v.places c.args.place → ⊥) (sym c.self.view_is) c.requires.absent in
    let split = subst (λ v. IsSplit v.places c.args.place None) (sym c.self.view_is) c.in-None.ensures in
    record {
      family_ok = c.push_front.ensures.family;
      one = c.push_front.ensures.size.lists ∙ c.self.invariant.one;
      rises = subst Rises (sym (put_first c)) (rises-put (list_at c.self.inside.links 0) c.args.place None split out c.self.invariant.rises);
    }

pub invariant_of-self : goal.invariant_of-self
invariant_of-self c = kept_first c

pub returns-in-None-clause-put : goal.returns-in-None-clause-put
returns-in-None-clause-put c =
    subst (λ v. list_at c.push_front.new.self 0 ≡ places_below c.args.place v.places ++ c.args.place ∷ places_above c.args.place v.places) c.self.view_is (put_first c)

pub returns-in-None-clause-rising : goal.returns-in-None-clause-rising
returns-in-None-clause-rising c = rising-from_one c.push_front.new.self (kept_first c)

-- ---- behind the last place below

pub insert_after-requires-clause-place_in : goal.insert_after-requires-clause-place_in
insert_after-requires-clause-place_in c =
    let split = subst (λ v. IsSplit v.places c.args.place (Some c.in-Some.last)) (sym c.self.view_is) c.in-Some.ensures in
    (0, last-waits (list_at c.self.inside.links 0) c.args.place c.in-Some.last split)

put_behind : (c : goal.After-insert_after) → list_at c.insert_after.new.self 0 ≡ places_below c.args.place (list_at c.self.inside.links 0) ++ c.args.place ∷ places_above c.args.place (list_at c.self.inside.links 0)
put_behind c =
    let out = subst (λ v. Contains v.places c.args.place → ⊥) (sym c.self.view_is) c.requires.absent in
    let split = subst (λ v. IsSplit v.places c.args.place (Some c.in-Some.last)) (sym c.self.view_is) c.in-Some.ensures in
    c.insert_after.ensures.added 0 ∙ put-behind (list_at c.self.inside.links 0) c.args.place c.in-Some.last split out (c.self.invariant.family_ok.distinct 0)

kept_behind : (c : goal.After-insert_after) → IsOneList c.insert_after.new.self
kept_behind c =
    let out = subst (λ v. Contains v.places c.args.place → ⊥) (sym c.self.view_is) c.requires.absent in
    let split = subst (λ v. IsSplit v.places c.args.place (Some c.in-Some.last)) (sym c.self.view_is) c.in-Some.ensures in
    record {
      family_ok = c.insert_after.ensures.family;
      one = c.insert_after.ensures.size.lists ∙ c.self.invariant.one;
      rises = subst Rises (sym (put_behind c)) (rises-put (list_at c.self.inside.links 0) c.args.place (Some c.in-Some.last) split out c.self.invariant.rises);
    }

pub invariant_of-self-in-Some : goal.invariant_of-self-in-Some
invariant_of-self-in-Some c = kept_behind c

pub returns-in-Some-clause-put : goal.returns-in-Some-clause-put
returns-in-Some-clause-put c =
    subst (λ v. list_at c.insert_after.new.self 0 ≡ places_below c.args.place v.places ++ c.args.place ∷ places_above c.args.place v.places) c.self.view_is (put_behind c)

pub returns-in-Some-clause-rising : goal.returns-in-Some-clause-rising
returns-in-Some-clause-rising c = rising-from_one c.insert_after.new.self (kept_behind c)
