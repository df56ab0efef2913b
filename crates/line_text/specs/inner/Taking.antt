-- What those who take the lines of a feed have taken, and the text that they have put.
use Rattle.std.specs.Prelude.{◌≡◌, ℕ, List, [], ◌∷◌, ◌++◌, Option, Some}
use Rattle.line_text.specs.declared.line_reader.stops.Stop.{Stop}
use Rattle.line_text.specs.declared.line_reader.stops.Stop.TheVariants.{NoMemory}

-- one more line was taken, which put more text on a page
abbrev pub TakesOneMore : {L : Type 0} → (L → List (List ℕ) → List ℕ → L → Type 0) → L → List (List ℕ) → List ℕ → List ℕ
    → List ℕ → List ℕ → L → Type 0
TakesOneMore takes first lines text line before after now =
    (more : List ℕ) × (after ≡ before ++ more) × takes first (lines ++ line ∷ []) (text ++ more) now

-- these lines were taken of a feed that was stopped, or was not, and nothing more; where memory was wanting for a line, who takes them
-- may be in another state
abbrev pub TakesUntil : {L : Type 0} → (L → List (List ℕ) → List ℕ → L → Type 0) → L → List (List ℕ) → List ℕ → Option Stop → L → Type 0
TakesUntil {L} takes first lines text (Some NoMemory) now = (last : L) × takes first lines text last
TakesUntil takes first lines text _ now = takes first lines text now
