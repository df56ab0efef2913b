use Rattle.booking_desk.proofs.Common.{ℕ, suc, zero, ◌<◌, ◌^◌, List, [], ◌∷◌, get_or, sym, subst, arith, AllByRecursion}
use Rattle.line_text.proofs.PrintedLemmas.{numbers_of-small}
use Rattle.booking_desk.proofs.asked.booking_of.Goals as goal

-- each of small numbers is small, and so is the 0 that stands past them
each-small : (ns : List ℕ) → AllByRecursion (λ n. n < 10 ^ 18) ns → (k : ℕ) → get_or ns k 0 < 10 ^ 18
each-small [] all k = omega arith
each-small (n ∷ ns) (first, rest) zero = first
each-small (n ∷ ns) (first, rest) (suc k) = each-small ns rest k

pub returns-in-len7-clause-spelled : goal.returns-in-len7-clause-spelled
returns-in-len7-clause-spelled c =
    let all = subst (AllByRecursion (λ n. n < 10 ^ 18)) (sym c.as_slice.ensures.value)
    (numbers_of-small c.args.fields.now c.in_ok-numbers.numbers.items c.in_ok-numbers.ensures.numbers) in
    let at = each-small c.as_slice.result.now all in
    (tt, (at 1, at 2, at 3, at 4, at 5, at 6, omega arith, λ two. absurd (omega (arith, two))))

pub returns-in-len8-clause-spelled : goal.returns-in-len8-clause-spelled
returns-in-len8-clause-spelled c =
    let all = subst (AllByRecursion (λ n. n < 10 ^ 18)) (sym c.as_slice.ensures.value)
    (numbers_of-small c.args.fields.now c.in_ok-numbers.numbers.items c.in_ok-numbers.ensures.numbers) in
    let at = each-small c.as_slice.result.now all in
    (tt, (at 1, at 2, at 3, at 4, at 5, at 6, at 7, λ two. absurd (omega (arith, two))))
