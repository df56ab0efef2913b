use Rattle.stop_plans.proofs.Common.{◌≡◌, ◌+◌, ◌*◌, ◌≤◌, ℕ, drop, sym, ◌∙◌, ap, mul-add, mul-one, arith, seats_aboard, chairs_aboard}
use Rattle.stop_plans.proofs.AboardLists.{if_at_most, seats-drop, chairs-drop}
use Rattle.stop_plans.proofs.stop_loads.load_of.Goals as goal

add_at_most : (a b m i : ℕ) → a ≤ m * i → b ≤ m → a + b ≤ m * (i + 1)
add_at_most a b m i h k = omega (arith, h, k, mul-suc-add m i)
  where
    mul-suc-add : (n j : ℕ) → n * (j + 1) ≡ n * j + n
    mul-suc-add n j = mul-add n j 1 ∙ ap (λ k. n * j + k) (mul-one n)

add : (a b c d w : ℕ) → a + b ≡ w → b ≡ c + d → a + c + d ≡ w
add a b c d w h k = omega (arith, h, k)

pub loop-i-preserved : goal.loop-i-preserved
loop-i-preserved c = record {
  seats = add c.loop-i.load.seats _ c.part_of-part.result.seats _ _ c.loop-i.invariant.seats
      (seats-drop c.args.rides.now c.args.aboard.now c.loop-i.i _ _ c.loop-i-test.true c.requires.one_flag_each
      ∙ ap (λ n. n + seats_aboard (drop (c.loop-i.i + 1) c.args.rides.now) (drop (c.loop-i.i + 1) c.args.aboard.now)) (sym c.part_of-part.ensures.seats));
  chairs = add c.loop-i.load.chairs _ c.part_of-part.result.chairs _ _ c.loop-i.invariant.chairs
      (chairs-drop c.args.rides.now c.args.aboard.now c.loop-i.i _ _ c.loop-i-test.true c.requires.one_flag_each
      ∙ ap (λ n. n + chairs_aboard (drop (c.loop-i.i + 1) c.args.rides.now) (drop (c.loop-i.i + 1) c.args.aboard.now)) (sym c.part_of-part.ensures.chairs));
  few_seats = add_at_most c.loop-i.load.seats c.part_of-part.result.seats 8 c.loop-i.i c.loop-i.invariant.few_seats
      (rw c.part_of-part.ensures.seats (if_at_most _ _ 8 (c.requires.small c.loop-i.i _ c.loop-i-test.true).0));
  few_chairs = add_at_most c.loop-i.load.chairs c.part_of-part.result.chairs 4 c.loop-i.i c.loop-i.invariant.few_chairs
      (rw c.part_of-part.ensures.chairs (if_at_most _ _ 4 (c.requires.small c.loop-i.i _ c.loop-i-test.true).1));
}
