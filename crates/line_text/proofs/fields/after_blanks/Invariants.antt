use Rattle.line_text.proofs.Common.{◌≡◌, drop, runs_of}
use Rattle.line_text.proofs.fields.after_blanks.Given as goal

abbrev pub invariant-loop-place : goal.invariant-loop-place
invariant-loop-place l = runs_of (drop l.place l.text) ≡ runs_of l.text
