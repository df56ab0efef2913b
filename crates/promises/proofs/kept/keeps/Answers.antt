use Rattle.promises.proofs.Common.{◌≡◌, ◌≤◌, ◌&&◌, Bool, List, ℕ, length, sym, ◌∙◌, ap, subst, All, not, list_all, Ride, Stop, loads_fit, times_of, breaks_along}
use Rattle.promises.proofs.Visits.{length-times, times-soon, keeps-vehicle}
use Rattle.promises.proofs.kept.keeps.Goals as goal

pub keeps_limits-requires-clause-one_each : goal.keeps_limits-requires-clause-one_each
keeps_limits-requires-clause-one_each c =
    ap length (c.as_slice-3.ensures.value ∙ c.times-times.ensures) ∙ length-times c.args.dwell c.args.start c.args.vehicle.now.stops.items
    ∙ ap length (sym c.as_slice-2.ensures.value)

pub keeps_limits-requires-clause-soon : goal.keeps_limits-requires-clause-soon
keeps_limits-requires-clause-soon c =
    subst (All (λ time. time ≤ 10000000000000000)) (sym (c.as_slice-3.ensures.value ∙ c.times-times.ensures))
    (times-soon c.args.vehicle.now c.args.start c.args.dwell c.requires.routed c.requires.start_limit c.requires.dwell_limit
    (subst (λ (stops : List Stop). length stops ≤ 16) c.as_slice-2.ensures.value c.as_slice-2.ensures.fits))

-- the test of the limits, over the vehicle's own lists
over-vehicle : (kept : Bool) (rides rs : List Ride) (stops ss : List Stop) (times ts : List ℕ)
    → kept ≡ list_all (λ (ride : Ride). not (breaks_along stops times ride)) rides → rides ≡ rs → stops ≡ ss → times ≡ ts
    → kept ≡ list_all (λ (ride : Ride). not (breaks_along ss ts ride)) rs
over-vehicle kept rides rs stops ss times ts is rides_are stops_are times_are =
    is
    ∙ ap (list_all (λ (ride : Ride). not (breaks_along stops times ride))) rides_are
    ∙ ap (λ xs. list_all (λ (ride : Ride). not (breaks_along xs times ride)) rs) stops_are
    ∙ ap (λ xs. list_all (λ (ride : Ride). not (breaks_along ss xs ride)) rs) times_are

pub returns-then-keeps_limits : goal.returns-then-keeps_limits
returns-then-keeps_limits c =
    let v = c.args.vehicle.now in
    let kept = over-vehicle _ _ v.rides.items _ v.stops.items _ (times_of v c.args.start c.args.dwell) c.keeps_limits.ensures
    c.as_slice.ensures.value c.as_slice-2.ensures.value (c.as_slice-3.ensures.value ∙ c.times-times.ensures) in
    ap (λ b. b && c.has_room.result) (sym c.if-keeps_limits.true ∙ kept)
    ∙ ap (λ b. list_all (λ (ride : Ride). not (breaks_along v.stops.items (times_of v c.args.start c.args.dwell) ride)) v.rides.items && b) c.has_room.ensures
    ∙ keeps-vehicle v c.args.start c.args.dwell c.requires.routed
    (subst (λ (stops : List Stop). length stops ≤ 16) c.as_slice-2.ensures.value c.as_slice-2.ensures.fits)

pub returns-else-keeps_limits : goal.returns-else-keeps_limits
returns-else-keeps_limits c =
    let v = c.args.vehicle.now in
    let kept = over-vehicle _ _ v.rides.items _ v.stops.items _ (times_of v c.args.start c.args.dwell) c.keeps_limits.ensures
    c.as_slice.ensures.value c.as_slice-2.ensures.value (c.as_slice-3.ensures.value ∙ c.times-times.ensures) in
    c.if-keeps_limits.false
    ∙ ap (λ b. b && loads_fit v) (sym c.if-keeps_limits.false ∙ kept)
    ∙ keeps-vehicle v c.args.start c.args.dwell c.requires.routed
    (subst (λ (stops : List Stop). length stops ≤ 16) c.as_slice-2.ensures.value c.as_slice-2.ensures.fits)
