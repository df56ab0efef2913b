use Rattle.line_text.proofs.Common.{◌≡◌, ◌++◌, List, ℕ, length, option_map, numbers_of}
use Rattle.line_text.proofs.fields.Fields.numbers.Given as goal

-- the numbers so far and those of the fields that are left are the numbers of all
abbrev pub invariant-loop-field : goal.invariant-loop-field
invariant-loop-field g l = option_map (λ (rest : List ℕ). l.numbers.items ++ rest) (numbers_of l.self) ≡ numbers_of l.initial.self

abbrev pub decreases-loop-field : goal.decreases-loop-field
decreases-loop-field g l = length l.self
