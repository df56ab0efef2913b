-- What the words of the program ask for.
use Prim.Native.String.{String}
use Rattle.std.specs.Prelude.{ℕ, ◌&&◌, nat_le, if◌then◌else◌, true, List, [], ◌∷◌, find, map, slice_index_or, codes, bytes_eq, Option, Some, None, option_and_then, option_map}
use Rattle.line_text.specs.Numbers.{number_of}
use Rattle.ride_model.specs.declared.limits.TheConstants.{LONGEST_REACH, MOST_VEHICLES, MOST_WORKERS}
use Rattle.clap.specs.Walk.{Rule, first_of, is_empty}
use Rattle.clap.specs.Simple.{App, matches_of, new_app, new_rule, on_top}
use Rattle.clap.specs.Faults.{fault_of}
use Rattle.clap.specs.declared.builder.action.ArgAction.TheVariants.{Set}
use Rattle.city_maker.specs.declared.plan.CityPlan.{CityPlan}
use Rattle.run_words.specs.declared.words.Word.{Word}
use Rattle.run_words.specs.declared.words.Word.TheVariants.{Replay, Ahead, Audit, Serve, Drill, Book, League}

-- what is asked for, by the names of its files: the replay of a feed over a map and a fleet file, where a reach of so many seconds is
-- given with the sheets of idle vehicles sent ahead in place of its log; the audit of a log; the service of riders and drivers, by so
-- many workers and desks; a drill of a plan; the plain feed of bookings; and a league of two fleet files over a map and a feed
pub data Asked : Type 0 where
  a_replay : List ℕ → List ℕ → List ℕ → Option ℕ → Asked
  an_audit : List ℕ → List ℕ → List ℕ → Asked
  a_service : List ℕ → List ℕ → List ℕ → List ℕ → ℕ → ℕ → Asked
  a_drill : CityPlan → Asked
  a_booking : List ℕ → Asked
  a_league : List ℕ → List ℕ → List ℕ → List ℕ → Asked

-- a command of this name with options of these names, each of which has to be given with one value, that has neither help nor version
abbrev pub command_with : String → List String → App
command_with name options = on_top (λ shape. record shape {
  rules = map (λ option. record (new_rule (codes option)) { long = Some (codes option); required = true; action = Some Set }) options;
  disable_help_flag = true;
  disable_version_flag = true;
}) (new_app (codes name))

-- the command of each first word
abbrev pub command_by_word : Word → App
command_by_word Replay = command_with "replay" ("map" ∷ "fleet" ∷ "feed" ∷ [])
command_by_word Ahead = command_with "ahead" ("map" ∷ "fleet" ∷ "feed" ∷ "reach" ∷ [])
command_by_word Audit = command_with "audit" ("map" ∷ "fleet" ∷ "log" ∷ [])
command_by_word Serve = command_with "serve" ("map" ∷ "fleet" ∷ "riders" ∷ "drivers" ∷ "workers" ∷ "desks" ∷ [])
command_by_word Drill = command_with "drill" ("side" ∷ "vehicles" ∷ "requests" ∷ "seed" ∷ [])
command_by_word Book = command_with "book" ("feed" ∷ [])
command_by_word League = command_with "league" ("map" ∷ "fleet" ∷ "second" ∷ "feed" ∷ [])

-- the values that a command finds of its options, in order, in words in which it finds no fault
unfoldable pub values_of : App → List (List ℕ) → List (Option (List ℕ))
values_of command words = if is_empty (fault_of command words)
    then map (λ (rule : Rule). first_of rule.id (matches_of command words)) command.top.rules
    else []

-- the number of a text, where it is one from the least to the most
abbrev pub number_within : ℕ → ℕ → List ℕ → Option ℕ
number_within least most text = option_and_then (λ n. if nat_le least n && nat_le n most then Some n else None) (number_of text)

-- what the values of its options ask for behind each first word; nothing where one is wanting or out of its range
abbrev pub asked_by_word : Word → List (Option (List ℕ)) → Option Asked
asked_by_word Replay (Some map ∷ Some fleet ∷ Some feed ∷ []) = Some (a_replay map fleet feed None)
asked_by_word Ahead (Some map ∷ Some fleet ∷ Some feed ∷ Some reach ∷ []) =
    option_map (λ seconds. a_replay map fleet feed (Some seconds)) (number_within 1 LONGEST_REACH reach)
asked_by_word Audit (Some map ∷ Some fleet ∷ Some log ∷ []) = Some (an_audit map fleet log)
asked_by_word Serve (Some map ∷ Some fleet ∷ Some riders ∷ Some drivers ∷ Some workers ∷ Some desks ∷ []) = option_and_then (λ many.
    option_map (a_service map fleet riders drivers many) (number_within 1 2 desks)) (number_within 1 MOST_WORKERS workers)
asked_by_word Drill (Some side ∷ Some vehicles ∷ Some requests ∷ Some seed ∷ []) =
    option_and_then (λ side. option_and_then (λ vehicles. option_and_then (λ requests. option_map (λ seed.
    a_drill (record { side = side; vehicles = vehicles; requests = requests; seed = seed })) (number_within 0 2147483647 seed))
    (number_within 0 16000 requests)) (number_within 0 MOST_VEHICLES vehicles)) (number_within 2 100 side)
asked_by_word Book (Some feed ∷ []) = Some (a_booking feed)
asked_by_word League (Some map ∷ Some fleet ∷ Some second ∷ Some feed ∷ []) = Some (a_league map fleet second feed)
asked_by_word _ _ = None

-- the word of a name
unfoldable pub word_of : List ℕ → Option Word
word_of name = find (λ word. bytes_eq name (command_by_word word).top.name) (Replay ∷ Ahead ∷ Audit ∷ Serve ∷ Drill ∷ Book ∷ League ∷ [])

-- what words ask for: the first of them says what, and the others are its options; nothing where they are not in order
abbrev pub ask_of : List (List ℕ) → Option Asked
ask_of words = option_and_then (λ word. asked_by_word word (values_of (command_by_word word) words)) (word_of (slice_index_or words 0 []))

-- a file that is asked for, by what it is to hold and by its name: a map, a fleet file, a second fleet file, a feed, or a log
pub data File : Type 0 where
  map_file : List ℕ → File
  fleet_file : List ℕ → File
  second_fleet_file : List ℕ → File
  feed_file : List ℕ → File
  log_file : List ℕ → File

abbrev pub name_of : File → List ℕ
name_of (map_file name) = name
name_of (fleet_file name) = name
name_of (second_fleet_file name) = name
name_of (feed_file name) = name
name_of (log_file name) = name

-- the files of what is asked for, in the order in which they are brought
abbrev pub files_of : Asked → List File
files_of (a_replay map fleet feed reach) = map_file map ∷ fleet_file fleet ∷ feed_file feed ∷ []
files_of (an_audit map fleet log) = map_file map ∷ fleet_file fleet ∷ log_file log ∷ []
files_of (a_service map fleet riders drivers workers desks) = map_file map ∷ fleet_file fleet ∷ feed_file riders ∷ feed_file drivers ∷ []
files_of (a_drill plan) = []
files_of (a_booking feed) = feed_file feed ∷ []
files_of (a_league map fleet second feed) = map_file map ∷ fleet_file fleet ∷ second_fleet_file second ∷ feed_file feed ∷ []
