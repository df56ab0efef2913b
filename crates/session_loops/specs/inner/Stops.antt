-- What only lemmas and lower contracts use beside Stops.antt.
use Rattle.std.specs.Prelude.{Option, Some, None}
use Rattle.ride_model.specs.declared.entry.Ending.{Ending}
use Rattle.ride_model.specs.declared.entry.Ending.TheVariants.{Whole, Cut}
use Rattle.line_text.specs.declared.line_reader.stops.Stop.{Stop}

-- how a feed ends that was stopped, or was not
abbrev pub ending_of : Option Stop → Ending
ending_of None = Whole
ending_of (Some stop) = Cut
