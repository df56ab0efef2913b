use Rattle.wait_list.proofs.Common.{◌≡◌, sym, ◌∙◌, subst, Some, None, slice_get, Contains, false≢true, list_at, IsRising, places_above, IsSplit}
use Rattle.wait_list.proofs.Rising.{held-one, rising-from_one}
use Rattle.wait_list.proofs.Placed.{after-here, after-first, after-last, last-waits}
use Rattle.wait_list.proofs.WaitList.after.Goals as goal

pub returns-then-holds-clause-next : goal.returns-then-holds-clause-next
returns-then-holds-clause-next c =
    let here = held-one c.self.inside.links c.self.invariant.one c.args.place (c.holds.ensures.held.0 c.if-holds.true) in
    subst (λ v. c.next.result ≡ slice_get (places_above c.args.place v.places) 0) c.self.view_is
    (after-here (list_at c.self.inside.links 0) c.args.place c.next.result c.self.invariant.rises here (λ k e. c.next.ensures.next 0 k e))

pub returns-then-holds-clause-rising : goal.returns-then-holds-clause-rising
returns-then-holds-clause-rising c = subst IsRising c.self.view_is (rising-from_one c.self.inside.links c.self.invariant)

pub next-requires-in-Some : goal.next-requires-in-Some
next-requires-in-Some c =
    let split = subst (λ v. IsSplit v.places c.args.place (Some c.in-Some.last)) (sym c.self.view_is) c.in-Some.ensures in
    (0, last-waits (list_at c.self.inside.links 0) c.args.place c.in-Some.last split)

pub returns-in-None-clause-next : goal.returns-in-None-clause-next
returns-in-None-clause-next c =
    let out : Contains (list_at c.self.inside.links 0) c.args.place → ⊥ = λ here. false≢true (sym c.if-holds.false ∙ c.holds.ensures.held.1 (0, here)) in
    let split = subst (λ v. IsSplit v.places c.args.place None) (sym c.self.view_is) c.in-None.ensures in
    subst (λ v. c.first.result ≡ slice_get (places_above c.args.place v.places) 0) c.self.view_is
    (after-first (list_at c.self.inside.links 0) c.args.place c.first.result split out c.first.ensures.first)

pub returns-in-None-clause-rising : goal.returns-in-None-clause-rising
returns-in-None-clause-rising c = subst IsRising c.self.view_is (rising-from_one c.self.inside.links c.self.invariant)

pub returns-in-Some-clause-next : goal.returns-in-Some-clause-next
returns-in-Some-clause-next c =
    let out : Contains (list_at c.self.inside.links 0) c.args.place → ⊥ = λ here. false≢true (sym c.if-holds.false ∙ c.holds.ensures.held.1 (0, here)) in
    let split = subst (λ v. IsSplit v.places c.args.place (Some c.in-Some.last)) (sym c.self.view_is) c.in-Some.ensures in
    subst (λ v. c.next-in-Some.result ≡ slice_get (places_above c.args.place v.places) 0) c.self.view_is
    (after-last (list_at c.self.inside.links 0) c.args.place c.in-Some.last c.next-in-Some.result split out (λ k e. c.next-in-Some.ensures.next 0 k e))

pub returns-in-Some-clause-rising : goal.returns-in-Some-clause-rising
returns-in-Some-clause-rising c = subst IsRising c.self.view_is (rising-from_one c.self.inside.links c.self.invariant)
