-- What the texts of a run mean, and why one stops it.
use Rattle.std.specs.Prelude.{◌≡◌, ◌≢◌, ◌⊎◌, ℕ, ◌≤◌, ⊤, List, [], ◌++◌, length, All, Option, Some, Ok, Err, IfSome, IsOk, codes, decimal}
use Rattle.ride_ports.specs.Bytes.{Reads}
use Rattle.ride_ports.specs.Contents.{Contents, GivenBack}
use Rattle.line_text.specs.Texts.{Format, after_ended, text_value}
use Rattle.ride_model.specs.Road.{RoadMap}
use Rattle.ride_model.specs.State.{State, start_state}
use Rattle.ride_model.specs.declared.settings.Settings.{Settings}
use Rattle.ride_model.specs.declared.vehicle.Vehicle.{Vehicle}
use Rattle.gr_reader.specs.declared.errors.MapError.TheVariants.{NoProblem, SecondProblem, BadLine, NodeOut, WeightOut, ArcCount, TooLarge, TooLong, ReadFault, NoMemory as NoMemoryForMap}
use Rattle.gr_reader.specs.MapText.{map_format, map_text}
use Rattle.fleet_file.specs.declared.errors.FleetError.TheVariants.{BadLine as FleetBadLine, Repeat, NodeOut as FleetNodeOut, ValueOut, TooMany, TooLong as FleetTooLong, ReadFault as FleetReadFault, NoMemory as NoMemoryForFleet}
use Rattle.fleet_file.specs.FleetText.{fleet_format, fleet_text}
use Rattle.run_words.specs.Words.{File, map_file, fleet_file, second_fleet_file, name_of}
use Rattle.dispatcher.specs.Shelves.{told_bytes}
use Rattle.dispatcher.specs.declared.stop.Stop.{Stop}
use Rattle.dispatcher.specs.declared.stop.Stop.TheVariants.{NoMemory, ShelfFault, MapRefused, FleetRefused}

-- what the texts of a run mean: a network, settings with the vehicles of a fleet file, and the vehicles of a second one
pub record Meaning : Type 0 where
  pub network : RoadMap
  pub settings : Settings
  pub vehicles : List Vehicle
  pub second : List Vehicle

abbrev pub start_of : Meaning → State
start_of m = start_state m.network m.settings m.vehicles

-- the text of a file means this: of a second fleet file the settings are not used. Feeds and logs are judged as they are read
abbrev pub IsTextOf : Meaning → File → List ℕ → Type 0
IsTextOf m (map_file name) text = map_text text ≡ Ok m.network
IsTextOf m (fleet_file name) text = fleet_text m.network.nodes text ≡ Ok (m.settings, m.vehicles)
IsTextOf m (second_fleet_file name) text = (unused : Settings) × (fleet_text m.network.nodes text ≡ Ok (unused, m.second))
IsTextOf m _ text = ⊤

abbrev pub Means : Option Contents → Meaning → File → Type 0
Means told m file = IfSome (told_bytes told (name_of file)) (IsTextOf m file)

-- a source failed within the limit of its text, and no line was faulty that was read whole
pub record FailsIn {S V E : Type 0} (format : Format S V E) (file : Option (List ℕ)) (source : GivenBack) : Type 0 where
  pub taken : List ℕ
  pub left : IfSome file (λ bytes. Reads (Some bytes) source.left taken)
  pub within : length taken ≤ format.most
  pub sound : IsOk (after_ended format taken)

-- a text is refused for what it says: no fault of a source and no want of memory is a refusal
abbrev pub IsRefusal : Stop → Type 0
IsRefusal (MapRefused e) = (e ≢ ReadFault) × (e ≢ NoMemoryForMap)
IsRefusal (FleetRefused e) = (e ≢ FleetReadFault) × (e ≢ NoMemoryForFleet)
IsRefusal _ = ⊥

-- why a run stops at a text of this format, of which these sources were given back: memory was wanting; the shelf failed, and then so
-- did each of them; or the text's error, which is that of its bytes where they are told
abbrev pub StopsBy : {S V E : Type 0} → Format S V E → (E → Stop) → Option (List ℕ) → List GivenBack → Stop → Type 0
StopsBy {E} format refused told sources stop = (stop ≡ NoMemory) ⊎ ((stop ≡ ShelfFault) × All (FailsIn format told) sources)
    ⊎ ((e : E) × (stop ≡ refused e) × IsRefusal stop × IfSome told (λ bytes. text_value format bytes ≡ Err e))

-- why one stops at a file, where the texts before it mean this. Feeds and logs are judged as they are read
abbrev pub StopsAt : Option Contents → Meaning → File → List GivenBack → Stop → Type 0
StopsAt told m (map_file name) sources stop = StopsBy map_format MapRefused (told_bytes told name) sources stop
StopsAt told m (fleet_file name) sources stop = StopsBy (fleet_format m.network.nodes) FleetRefused (told_bytes told name) sources stop
StopsAt told m (second_fleet_file name) sources stop = StopsBy (fleet_format m.network.nodes) FleetRefused (told_bytes told name) sources stop
StopsAt told m _ sources stop = (stop ≡ NoMemory) ⊎ (stop ≡ ShelfFault)

-- the exit status of a run that stopped
abbrev pub status_of : Stop → ℕ
status_of NoMemory = 1
status_of (MapRefused TooLong) = 8
status_of (MapRefused e) = 3
status_of (FleetRefused FleetTooLong) = 8
status_of (FleetRefused e) = 4
status_of ShelfFault = 5

-- the line that it says: the number of a refusal, and the line of the text; limits and faults have none
abbrev pub at_line : List ℕ → ℕ → ℕ → List ℕ
at_line text refusal number = text ++ codes " refused " ++ decimal refusal ++ codes " line " ++ decimal number ++ codes "\n"

abbrev pub said_of : Stop → List ℕ
said_of (MapRefused NoProblem) = codes "map refused 1\n"
said_of (MapRefused (SecondProblem number)) = at_line (codes "map") 2 number
said_of (MapRefused (BadLine number)) = at_line (codes "map") 3 number
said_of (MapRefused (NodeOut number)) = at_line (codes "map") 4 number
said_of (MapRefused (WeightOut number)) = at_line (codes "map") 5 number
said_of (MapRefused (ArcCount said found)) = codes "map refused 6 said " ++ decimal said ++ codes " found " ++ decimal found ++ codes "\n"
said_of (MapRefused (TooLarge number)) = at_line (codes "map") 7 number
said_of (FleetRefused (FleetBadLine number)) = at_line (codes "fleet") 1 number
said_of (FleetRefused (Repeat number)) = at_line (codes "fleet") 2 number
said_of (FleetRefused (FleetNodeOut number)) = at_line (codes "fleet") 3 number
said_of (FleetRefused (ValueOut number)) = at_line (codes "fleet") 4 number
said_of (FleetRefused (TooMany number)) = at_line (codes "fleet") 5 number
said_of _ = []
