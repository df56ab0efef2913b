-- The settings under which places are timed.
use Rattle.ride_model.specs.declared.settings.Settings.{Settings}

abbrev pub settings : Settings
settings = record { batch = 32; penalty = 3600; drive = 1; wait = 1; lead = 0; dwell = 30; log = 1 }
