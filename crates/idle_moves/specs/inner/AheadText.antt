-- What only lemmas and lower contracts use beside AheadText.antt.
use Rattle.std.specs.Prelude.{ℕ, List, [], ◌∷◌}
use Rattle.ride_model.specs.declared.entry.Ending.{Ending}
use Rattle.ride_model.specs.Text.{line_of}
use Rattle.trip_log.specs.Prints.{ending_word}

-- the last line of a text of sheets
abbrev pub last_line : Ending → List ℕ
last_line ending = line_of (ending_word ending ∷ [])
