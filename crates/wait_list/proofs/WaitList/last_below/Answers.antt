use Rattle.wait_list.proofs.Common.{◌≡◌, ◌+◌, ◌<◌, length, subst, slice_get, list_at, Contains-from_get, nodes_left, IsSplit}
use Rattle.wait_list.proofs.Walk.{IsWalk, walk-place, walk-more, walk-falls, walk-end, walk-stop}
use Rattle.wait_list.proofs.WaitList.last_below.Goals as goal

pub next-current-requires : goal.next-current-requires
next-current-requires c =
    let places = list_at c.self.inside.links 0 in
    let w = c.loop-current.invariant in
    (0, Contains-from_get places (length w.front) c.in-Some.other (walk-place places c.args.place c.loop-current.last c.loop-current.current c.in-Some.other w c.in-Some.is))

next_is : (c : goal.After-next-current) → c.next-current.result ≡ slice_get (list_at c.self.inside.links 0) (length c.loop-current.invariant.front + 1)
next_is c =
    let w = c.loop-current.invariant in
    c.next-current.ensures.next 0 (length w.front) (walk-place (list_at c.self.inside.links 0) c.args.place c.loop-current.last c.loop-current.current c.in-Some.other w c.in-Some.is)

pub loop-current-smaller : goal.loop-current-smaller
loop-current-smaller c =
    let places = list_at c.self.inside.links 0 in
    let falls : nodes_left c.next-current.result places < nodes_left c.loop-current.current places =
    walk-falls places c.args.place c.loop-current.last c.loop-current.current c.next-current.result c.in-Some.other (c.self.invariant.family_ok.distinct 0) c.loop-current.invariant c.in-Some.is (next_is c) in
    falls

pub loop-current-preserved : goal.loop-current-preserved
loop-current-preserved c =
    let places = list_at c.self.inside.links 0 in
    subst (λ o. IsWalk places c.args.place o c.next-current.result) c.in-Some.is
    (walk-more places c.args.place c.loop-current.last c.loop-current.current c.next-current.result c.in-Some.other c.loop-current.invariant c.in-Some.is c.if-other-place.false (next_is c))

pub returns-then-other-place : goal.returns-then-other-place
returns-then-other-place c =
    let places = list_at c.self.inside.links 0 in
    subst (λ v. IsSplit v.places c.args.place c.loop-current.last) c.self.view_is
    (walk-stop places c.args.place c.loop-current.last c.loop-current.current c.in-Some.other c.self.invariant.rises c.loop-current.invariant c.in-Some.is c.if-other-place.true)

pub returns-in_default : goal.returns-in_default
returns-in_default c =
    let places = list_at c.self.inside.links 0 in
    subst (λ v. IsSplit v.places c.args.place c.loop-current.last) c.self.view_is
    (walk-end places c.args.place c.loop-current.last c.loop-current.current c.loop-current.invariant c.in_default.is)
