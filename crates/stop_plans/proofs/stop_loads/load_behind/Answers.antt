use Rattle.stop_plans.proofs.Common.{◌≡◌, ◌≢◌, ℕ, inl, inr, false, length, get_or, eqb, ◌∙◌, ap, arith, None, slice_set, eq-eqb, eqb_tells, recursion_from_All, Load, Ride, seats_aboard, chairs_aboard, load_aboard, IsSmall}
use Rattle.stop_plans.proofs.AboardLists.{one-more-boarded, one-more-stays, all-boarded, seats-set, chairs-set, seats-part, chairs-part, seats-few, chairs-few, if_at_most}
use Rattle.stop_plans.proofs.stop_loads.load_behind.Goals as goal

-- what a read of no ride gives
abbrev no_ride : Ride
no_ride = record { id = 0; from = 0; to = 0; seats = 0; chairs = 0; latest = 0; longest = 0; picked = None }

differ : (a b : ℕ) → a ≢ b → eqb a b ≡ false
differ a b h = elim (eqb_tells a b) [
  | inl same ↦ absurd (h same.1)
  | inr other ↦ other.0
]

pub loop-i-preserved-then-stop-ride : goal.loop-i-preserved-then-stop-ride
loop-i-preserved-then-stop-ride c = record {
  riders = c.loop-i.invariant.riders
      ∙ one-more-stays c.args.stop.now c.args.rides.now c.args.aboard.now c.loop-i.i no_ride c.loop-i-test.true c.requires.one_flag_each
      (differ _ _ c.if-stop-ride.true);
  load = c.loop-i.invariant.load;
}

pub exchanged-load-requires-clause-seats : goal.exchanged-load-requires-clause-seats
exchanged-load-requires-clause-seats c =
    let rides = c.args.rides.now in
    let flags = c.loop-i.aboard in
    let same : length flags ≡ length rides = c.loop-i.auto.aboard ∙ c.requires.one_flag_each in
    let small = recursion_from_All IsSmall rides c.requires.small in
    let whole : c.loop-i.load.seats ≡ seats_aboard rides flags = ap (λ (l : Load). l.seats) c.loop-i.invariant.load in
    let own = (c.requires.small c.loop-i.i no_ride c.loop-i-test.true).0 in (
      omega (arith, whole, c.part_of.ensures.seats, seats-part rides flags c.loop-i.i no_ride false c.loop-i-test.true same),
      omega (arith, whole, seats-few rides flags small, c.requires.few),
      omega (arith, c.part_of-in-loop-i.ensures.seats, if_at_most c.boards-is_in.result (get_or rides c.loop-i.i no_ride).seats 8 own),
    )

pub exchanged-load-requires-clause-chairs : goal.exchanged-load-requires-clause-chairs
exchanged-load-requires-clause-chairs c =
    let rides = c.args.rides.now in
    let flags = c.loop-i.aboard in
    let same : length flags ≡ length rides = c.loop-i.auto.aboard ∙ c.requires.one_flag_each in
    let small = recursion_from_All IsSmall rides c.requires.small in
    let whole : c.loop-i.load.chairs ≡ chairs_aboard rides flags = ap (λ (l : Load). l.chairs) c.loop-i.invariant.load in
    let own = (c.requires.small c.loop-i.i no_ride c.loop-i-test.true).1 in (
      omega (arith, whole, c.part_of.ensures.chairs, chairs-part rides flags c.loop-i.i no_ride false c.loop-i-test.true same),
      omega (arith, whole, chairs-few rides flags small, c.requires.few),
      omega (arith, c.part_of-in-loop-i.ensures.chairs, if_at_most c.boards-is_in.result (get_or rides c.loop-i.i no_ride).chairs 4 own),
    )

pub loop-i-preserved : goal.loop-i-preserved
loop-i-preserved c =
    let rides = c.args.rides.now in
    let flags = c.loop-i.aboard in
    let i = c.loop-i.i in
    let b = c.boards-is_in.result in
    let same : length flags ≡ length rides = c.loop-i.auto.aboard ∙ c.requires.one_flag_each in
    let seats_are : c.loop-i.load.seats ≡ seats_aboard rides flags = ap (λ (l : Load). l.seats) c.loop-i.invariant.load in
    let chairs_are : c.loop-i.load.chairs ≡ chairs_aboard rides flags = ap (λ (l : Load). l.chairs) c.loop-i.invariant.load in
    let seats : c.exchanged-load.result.seats ≡ seats_aboard rides (slice_set flags i b)
    = omega (arith, seats_are, seats-set rides flags i no_ride false b c.loop-i-test.true same, c.exchanged-load.ensures.seats, c.part_of.ensures.seats, c.part_of-in-loop-i.ensures.seats) in
    let chairs : c.exchanged-load.result.chairs ≡ chairs_aboard rides (slice_set flags i b)
    = omega (arith, chairs_are, chairs-set rides flags i no_ride false b c.loop-i-test.true same, c.exchanged-load.ensures.chairs, c.part_of.ensures.chairs, c.part_of-in-loop-i.ensures.chairs) in
    record {
      riders = (λ k. slice_set (c.loop-i.invariant.riders k) i (c.boards-is_in.ensures k))
          ∙ one-more-boarded c.args.stop.now rides c.args.aboard.now i no_ride c.loop-i-test.true c.requires.one_flag_each
          (eq-eqb _ _ c.if-stop-ride.false);
      load = λ k. record { seats = seats k; chairs = chairs k };
    }

pub returns-clause-riders : goal.returns-clause-riders
returns-clause-riders c =
    c.loop-i.invariant.riders
    ∙ all-boarded c.args.stop.now c.args.rides.now c.args.aboard.now c.loop-i.i c.loop-i-test.false c.requires.one_flag_each

pub returns-clause-load : goal.returns-clause-load
returns-clause-load c =
    c.loop-i.invariant.load
    ∙ ap (load_aboard c.args.rides.now) (c.loop-i.invariant.riders
    ∙ all-boarded c.args.stop.now c.args.rides.now c.args.aboard.now c.loop-i.i c.loop-i-test.false c.requires.one_flag_each)
