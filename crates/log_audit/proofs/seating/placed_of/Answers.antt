use Rattle.log_audit.proofs.Common.{◌≡◌, Option, Some, None, length, get_or, sym, ◌∙◌, ap, subst, arith, IsSome, MatchOption, length_push, Offer, Seat, RoadMap, BatchCopy, seat_offer, Placed, IsPlaced}
use Rattle.log_audit.proofs.Placing.{placed-more}
use Rattle.log_audit.proofs.seating.placed_of.Goals as goal

-- what a read of no seat gives
abbrev no_seat : Seat
no_seat = record { request = 0; vehicle = 0; i = 0; j = 0 }

when-some : (now roads : RoadMap) (batch : BatchCopy) (seat : Seat) (o : Option Placed) (placed : Placed) → now ≡ roads → o ≡ Some placed
    → MatchOption o (seat_offer now batch seat ≡ None) (IsPlaced now batch seat) → IsPlaced roads batch seat placed
when-some now roads batch seat o placed same is h =
    subst (λ r. IsPlaced r batch seat placed) same
    (subst (λ x. MatchOption x (seat_offer now batch seat ≡ None) (IsPlaced now batch seat)) is h)

when-none : (now roads : RoadMap) (batch : BatchCopy) (seat : Seat) (o : Option Placed) → now ≡ roads → o ≡ None
    → MatchOption o (seat_offer now batch seat ≡ None) (IsPlaced now batch seat) → IsSome (seat_offer roads batch seat) → ⊥
when-none now roads batch seat o same is h some =
    let none : seat_offer now batch seat ≡ None
    = subst (λ x. MatchOption x (seat_offer now batch seat ≡ None) (IsPlaced now batch seat)) is h in
    never (subst IsSome (ap (λ r. seat_offer r batch seat) (sym same) ∙ none) some)
  where
    never : IsSome {T = Offer} None → ⊥
    never h = cc h

pub loop-seat-preserved : goal.loop-seat-preserved
loop-seat-preserved c = record {
  count = omega (arith, c.loop-seat.invariant.count, ap length c.in_ok-push.ensures.items, length_push c.loop-seat.all.items c.in-Some.placed);
  each = placed-more c.args.pricing.now c.args.batch.now c.args.seats.now c.loop-seat.all.items c.push.new.self.items c.loop-seat.seat-index no_seat
      c.in-Some.placed c.loop-seat-test.true c.loop-seat.invariant.count c.in_ok-push.ensures.items
      (when-some c.loop-seat.pricing c.args.pricing.now c.args.batch.now (get_or c.args.seats.now c.loop-seat.seat-index no_seat) c.in_ok-placed.field-0
      c.in-Some.placed c.loop-seat.invariant.kept c.in-Some.is c.in_ok-placed.ensures.placed)
      c.loop-seat.invariant.each;
  kept = c.in_ok-placed.ensures.kept ∙ c.loop-seat.invariant.kept;
}

pub returns-in_default-clause-placed : goal.returns-in_default-clause-placed
returns-in_default-clause-placed c = λ offered.
    when-none c.loop-seat.pricing c.args.pricing.now c.args.batch.now (get_or c.args.seats.now c.loop-seat.seat-index no_seat) c.in_ok-placed.field-0
    c.loop-seat.invariant.kept c.in_default.is c.in_ok-placed.ensures.placed (offered c.loop-seat.seat-index no_seat c.loop-seat-test.true)

pub returns-clause-placed : goal.returns-clause-placed
returns-clause-placed c = record {
  count = omega (arith, c.loop-seat.invariant.count, c.loop-seat-test.false);
  each = λ k seat one low. c.loop-seat.invariant.each k seat one (omega (arith, low, c.loop-seat-test.false));
}
