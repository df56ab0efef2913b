-- How far the scribe has looked.
use Rattle.std.proofs.Common.{◌≡◌, ℕ, ◌+◌, ◌-◌, ◌≤◌, List, length, take, drop, ap, ◌∙◌, length-append, length-drop, arith}
use Rattle.std.specs.Prelude.{min}
use Rattle.std.proofs.lemmas.List.{length-take}
use Rattle.ride_model.specs.declared.entry.Entry.{Entry}
use Rattle.fleet_board.specs.inner.Passes.{AddsNone, Known}
use Rattle.fleet_board.proofs.Looking.{seen-grows}

-- the place behind the entries of a look was seen
pub look-within : (old new : Known) (from most next : ℕ) (entries : List Entry) → AddsNone old new → from ≤ length old.seen
    → entries ≡ take most (drop from new.seen) → next ≡ from + length entries → next ≤ length new.seen
look-within old new from most next entries none within are next_is =
    omega (arith, next_is, many, seen-grows old new none, within)
  where
    many : length entries ≡ min most (length new.seen - from)
    many =
        ap (λ (es : List Entry). length es) are ∙ length-take most (drop from new.seen)
        ∙ ap (min most) (length-drop from new.seen)
