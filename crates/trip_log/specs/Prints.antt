-- What a printer does to its sink.
use Rattle.std.specs.Prelude.{ℕ, List, codes}
use Rattle.ride_model.specs.declared.entry.Ending.{Ending}
use Rattle.ride_model.specs.declared.entry.Ending.TheVariants.{Whole, Cut}

-- the field of an end
abbrev pub ending_word : Ending → List ℕ
ending_word Whole = codes "end"
ending_word Cut = codes "cut"
