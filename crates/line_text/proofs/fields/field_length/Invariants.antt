use Rattle.line_text.proofs.Common.{◌≡◌, ℕ, ◌<◌, get_or, false, is_blank}
use Rattle.line_text.proofs.fields.field_length.Given as goal

abbrev pub invariant-loop-place : goal.invariant-loop-place
invariant-loop-place l = (k : ℕ) → k < l.place → is_blank (get_or l.text k 0) ≡ false
