-- The texts of a run, as they are read.
use Rattle.std.specs.Prelude.{◌≡◌, ℕ, List, [], ◌∷◌, ◌++◌, length, map, All, Option, None, Some, Result, Err, Ok, MatchResult, IfSome}
use Rattle.line_text.specs.Texts.{Format, and_then, text_value}
use Rattle.ride_model.specs.Fleet.{MayStart}
use Rattle.ride_model.specs.declared.settings.Settings.{Settings}
use Rattle.ride_model.specs.declared.vehicle.Vehicle.{Vehicle}
use Rattle.ride_ports.specs.Bytes.{Reads}
use Rattle.ride_ports.specs.Contents.{GivenBack}
use Rattle.ride_ports.specs.Count.{Rose}
use Rattle.fleet_file.specs.FleetText.{fleet_format}
use Rattle.run_words.specs.Words.{File, name_of, map_file, fleet_file, second_fleet_file}
use Rattle.dispatcher.specs.Meanings.{FailsIn, Meaning, Means, StopsBy}
use Rattle.dispatcher.specs.Runs.{StopsReading}
use Rattle.dispatcher.specs.Shelves.{AreBack, AreGivenBack, IsSpent, Shelved, told_bytes}
use Rattle.dispatcher.specs.declared.files.Texts.{Texts}
use Rattle.dispatcher.specs.declared.stop.Stop.{Stop}
use Rattle.dispatcher.specs.declared.stop.Stop.TheVariants.{FleetRefused, ShelfFault}
use Rattle.dispatcher.specs.inner.Handing.{Adds}

-- the answer of a text's reading is that of its bytes, unless memory was wanting or the shelf failed; these sources were given back of it
abbrev pub ReadsAs : {S V E : Type 0} → Format S V E → (E → Stop) → Option (List ℕ) → List GivenBack → Result V Stop → Type 0
ReadsAs format refused told sources outcome =
    MatchResult outcome (λ value. IfSome told (λ bytes. text_value format bytes ≡ Ok value)) (StopsBy format refused told sources)

-- a text was read to its answer or to a stop, and its source was given back
pub record IsReadBy {S V E : Type 0} (format : Format S V E) (file : Option (List ℕ)) (source : GivenBack) (outcome : Result V Stop) : Type 0 where
  pub taken : List ℕ
  pub left : IfSome file (λ bytes. Reads (Some bytes) source.left taken)
  pub whole : (value : V) → outcome ≡ Ok value → IsSpent source
  pub fault : outcome ≡ Err ShelfFault → FailsIn format file source

-- one name more was asked of a shelf, and its text was read from its source, which was given back, where it was brought
pub record AsksOnce {S V E : Type 0} (format : Format S V E) (refused : E → Stop) (name : List ℕ) (old new : Shelved) (outcome : Result V Stop) : Type 0 where
  pub sources : List GivenBack
  pub adds : Adds (name ∷ []) (length sources) sources old new
  pub left : AreGivenBack old.told (name ∷ []) sources
  pub answer : ReadsAs format refused (told_bytes old.told name) sources outcome
  pub whole : (value : V) → outcome ≡ Ok value → (length sources ≡ 1) × All IsSpent sources × (new.faults ≡ old.faults)
  pub rose : outcome ≡ Err ShelfFault → Rose old.faults new.faults

-- the first files of a run were asked for, read to their ends and given back, without a fault, and this is what they mean
pub record AreRead (files : List File) (m : Meaning) (old new : Shelved) : Type 0 where
  pub told : new.told ≡ old.told
  pub faults : new.faults ≡ old.faults
  pub asked : new.asked ≡ map name_of files
  pub brought : new.brought ≡ length files
  pub back : AreBack old.told new
  pub spent : All IsSpent new.back
  pub means : All (Means old.told m) files

-- a second fleet file was brought and read, where there is a name of one. Its settings are not used
abbrev pub BringsSecond : ℕ → Option (List ℕ) → Shelved → Shelved → Result (List Vehicle) Stop → Type 0
BringsSecond nodes None old new outcome = (new ≡ old) × (outcome ≡ Ok [])
BringsSecond nodes (Some name) old new outcome = (read : Result (Settings × List Vehicle) Stop)
    × AsksOnce (fleet_format nodes) FleetRefused name old new read × (outcome ≡ and_then read (λ both. Ok both.1))

-- the files of texts: a map, a fleet file over it, and a second one where there is
abbrev pub second_files : Option (List ℕ) → List File
second_files None = []
second_files (Some name) = second_fleet_file name ∷ []

abbrev pub text_files : List ℕ → List ℕ → Option (List ℕ) → List File
text_files map fleet second = map_file map ∷ fleet_file fleet ∷ second_files second

-- what texts that were read mean
abbrev pub meaning_of : Texts → Meaning
meaning_of texts = record { network = texts.roads; settings = texts.settings; vehicles = texts.fleet; second = texts.second }

-- a session may start with either fleet of the texts
pub record MayBegin (texts : Texts) : Type 0 where
  pub first : MayStart texts.roads texts.settings texts.fleet
  pub second : MayStart texts.roads texts.settings texts.second

-- the first files of a run, its texts, were read, or it stopped at one, whatever files are behind them
abbrev pub ReadsTexts : List File → Shelved → Shelved → Result Texts Stop → Type 0
ReadsTexts files old new outcome =
    MatchResult outcome (λ texts. AreRead files (meaning_of texts) old new)
    (λ stop. (more : List File) → StopsReading (files ++ more) stop old new)
