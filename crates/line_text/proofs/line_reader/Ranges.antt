-- The unused part of a buffer.
use Rattle.line_text.proofs.Common.{◌≡◌, ℕ, ◌+◌, ◌-◌, ◌≤◌, List, length, take, drop, ap, sym, ◌∙◌, arith, length-drop, length-take-le, slice_range, drop-take, drop-drop}

-- a range without its first elements
pub used-up : (xs : List ℕ) (start end used : ℕ) → start ≤ end → end ≤ length xs → used ≤ length (slice_range xs start end)
    → slice_range xs (start + used) end ≡ drop used (slice_range xs start end)
used-up xs start end used order within few =
    let count : length (take (end - start) (drop start xs)) ≡ end - start
    = length-take-le (end - start) (drop start xs) (omega (arith, length-drop start xs)) in
    let parts : used + (end - (start + used)) ≡ end - start = omega arith in
    sym (ap (take (end - (start + used))) (drop-drop used start xs))
    ∙ sym (drop-take used (end - (start + used)) (drop start xs))
    ∙ ap (λ n. drop used (take n (drop start xs))) parts
