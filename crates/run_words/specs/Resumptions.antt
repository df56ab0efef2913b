-- What the words of a session that goes on from its log ask for.
use Rattle.std.specs.Prelude.{ℕ, List, [], ◌∷◌, Option, Some, None, option_map}
use Rattle.clap.specs.Simple.{App}
use Rattle.ride_model.specs.declared.limits.TheConstants.{MOST_WORKERS}
use Rattle.run_words.specs.Words.{File, command_with, feed_file, fleet_file, log_file, map_file, number_within, values_of}

-- what is asked for, by the names of its files: that the session of a log over a map and a fleet file goes on with riders and drivers, by
-- so many workers a desk
pub record GoingOn : Type 0 where
  pub map : List ℕ
  pub fleet : List ℕ
  pub log : List ℕ
  pub riders : List ℕ
  pub drivers : List ℕ
  pub workers : ℕ

abbrev pub going_on : List ℕ → List ℕ → List ℕ → List ℕ → List ℕ → ℕ → GoingOn
going_on map fleet log riders drivers workers =
    record { map = map; fleet = fleet; log = log; riders = riders; drivers = drivers; workers = workers }

-- its command, which takes the first word for its name
abbrev pub resumption_command : App
resumption_command = command_with "ride_resume" ("map" ∷ "fleet" ∷ "log" ∷ "riders" ∷ "drivers" ∷ "workers" ∷ [])

-- what the values of its options ask for; nothing where one is wanting or out of its range
abbrev pub resumption_asked : List (Option (List ℕ)) → Option GoingOn
resumption_asked (Some map ∷ Some fleet ∷ Some log ∷ Some riders ∷ Some drivers ∷ Some workers ∷ []) =
    option_map (going_on map fleet log riders drivers) (number_within 1 MOST_WORKERS workers)
resumption_asked _ = None

-- what words ask for; nothing where they are not in order
abbrev pub resumption_of : List (List ℕ) → Option GoingOn
resumption_of words = resumption_asked (values_of resumption_command words)

-- its files, in the order in which they are brought
abbrev pub resumption_files : GoingOn → List File
resumption_files asked =
    map_file asked.map ∷ fleet_file asked.fleet ∷ log_file asked.log ∷ feed_file asked.riders ∷ feed_file asked.drivers ∷ []
