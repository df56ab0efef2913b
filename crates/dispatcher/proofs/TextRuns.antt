-- The texts of a run: a map, a fleet file over it, and a second one where there is.
use Rattle.dispatcher.proofs.Common.{◌≡◌, ℕ, List, [], ◌∷◌, ◌++◌, Option, Some, None, Ok, Err, inl, refl, sym, subst, IfSome, File, RoadMap, Settings, Vehicle, map_format, map_text, fleet_format, fleet_text, map_file, fleet_file, second_fleet_file, Meaning, StopsReading, AreRead, AsksOnce, second_files, text_files, IsFresh, Shelved, told_bytes, BringsSecond, Stop, FleetRefused, MapRefused, NoMemory}
use Rattle.dispatcher.proofs.Reading.{none-read, one-more, one-stops, then-stops}

-- what is meant before a fleet file was read, and before a map was
abbrev meaning : RoadMap → Settings → List Vehicle → List Vehicle → Meaning
meaning network settings vehicles second = record { network = network; settings = settings; vehicles = vehicles; second = second }

abbrev over : RoadMap → Meaning
over network = meaning network (record { batch = 0; penalty = 0; drive = 0; wait = 0; lead = 0; dwell = 0; log = 0 }) [] []

pub nothing : Meaning
nothing = over (record { nodes = 0; arcs = [] })

module _ (old mid : Shelved) (map fleet : List ℕ) (fresh : IsFresh old) where
  -- the run stopped at the map
  pub at-map : (second : Option (List ℕ)) (stop : Stop) → AsksOnce map_format MapRefused map old mid (Err stop)
      → (more : List File) → StopsReading (text_files map fleet second ++ more) stop old mid
  at-map second stop asks more =
      one-stops [] nothing old old mid (none-read nothing old fresh) (map_file map) map_format MapRefused
      (fleet_file fleet ∷ (second_files second ++ more)) stop asks (λ sources s. s)

  -- the map was read
  module _ (network : RoadMap) (asks_map : AsksOnce map_format MapRefused map old mid (Ok network)) where
    map-read : (m : Meaning) → m.network ≡ network → AreRead (map_file map ∷ []) m old mid
    map-read m same = one-more [] m old old mid (none-read m old fresh) (map_file map) map_format MapRefused network asks_map
        (subst (λ (n : RoadMap). IfSome (told_bytes old.told map) (λ text. map_text text ≡ Ok n)) (sym same))

    -- and the run stopped at the fleet file
    pub at-fleet : (new : Shelved) (second : Option (List ℕ)) (stop : Stop) → AsksOnce (fleet_format network.nodes) FleetRefused fleet mid new (Err stop)
        → (more : List File) → StopsReading (text_files map fleet second ++ more) stop old new
    at-fleet new second stop asks more =
        one-stops (map_file map ∷ []) (over network) old mid new (map-read (over network) refl) (fleet_file fleet) (fleet_format network.nodes)
        FleetRefused (second_files second ++ more) stop asks (λ sources s. s)

    -- a fleet file was read too
    module _ (next : Shelved) (settings : Settings) (vehicles : List Vehicle)
        (asks_fleet : AsksOnce (fleet_format network.nodes) FleetRefused fleet mid next (Ok (settings, vehicles))) (new : Shelved) where
      two-read : (others : List Vehicle) → AreRead (map_file map ∷ fleet_file fleet ∷ []) (meaning network settings vehicles others) old next
      two-read others =
          let m = meaning network settings vehicles others in
          one-more (map_file map ∷ []) m old mid next (map-read m refl) (fleet_file fleet) (fleet_format network.nodes) FleetRefused (settings, vehicles)
          asks_fleet (λ is. is)

      -- and the run stopped at the second fleet file
      pub at-second : (name : Option (List ℕ)) (stop : Stop) → BringsSecond network.nodes name next new (Err stop)
          → (more : List File) → StopsReading (text_files map fleet name ++ more) stop old new
      at-second None stop (same, is) more = absurd (cc is)
      at-second (Some name) stop (Ok read, asks, is) more = absurd (cc is)
      at-second (Some name) stop (Err s, asks, is) more =
          subst (λ (x : Stop). StopsReading (text_files map fleet (Some name) ++ more) x old new) (cc is)
          (one-stops (map_file map ∷ fleet_file fleet ∷ []) (meaning network settings vehicles []) old next new (two-read []) (second_fleet_file name)
          (fleet_format network.nodes) FleetRefused more s asks (λ sources is. is))

      -- or it was read
      module _ (others : List Vehicle) where
        told-second : (file : Option (List ℕ)) (read : Settings × List Vehicle) → others ≡ read.1
            → IfSome file (λ text. fleet_text network.nodes text ≡ Ok read)
            → IfSome file (λ text. (unused : Settings) × (fleet_text network.nodes text ≡ Ok (unused, others)))
        told-second None read same is = tt
        told-second (Some text) (unused, vehicles) same is = (unused, subst (λ (v : List Vehicle). fleet_text network.nodes text ≡ Ok (unused, v)) (sym same) is)

        all-read : (name : Option (List ℕ)) → BringsSecond network.nodes name next new (Ok others)
            → AreRead (text_files map fleet name) (meaning network settings vehicles others) old new
        all-read None (same, is) =
            subst (λ (s : Shelved). AreRead (text_files map fleet None) (meaning network settings vehicles others) old s) (sym same) (two-read others)
        all-read (Some name) (Err s, asks, is) = absurd (cc is)
        all-read (Some name) (Ok read, asks, is) =
            one-more (map_file map ∷ fleet_file fleet ∷ []) (meaning network settings vehicles others) old next new (two-read others)
            (second_fleet_file name) (fleet_format network.nodes) FleetRefused read asks (told-second (told_bytes old.told name) read (cc is))

        -- memory was wanting after it
        wants-memory : (name : Option (List ℕ)) → BringsSecond network.nodes name next new (Ok others)
            → (more : List File) → StopsReading (text_files map fleet name ++ more) NoMemory old new
        wants-memory None brings =
            let m = meaning network settings vehicles others in
            then-stops (map_file map ∷ []) (fleet_file fleet) m old new (all-read None brings) (map-read m refl).means (λ sources. inl refl)
        wants-memory (Some name) brings =
            let m = meaning network settings vehicles others in
            then-stops (map_file map ∷ fleet_file fleet ∷ []) (second_fleet_file name) m old new (all-read (Some name) brings) (two-read others).means (λ sources. inl refl)

      -- the map as its roads
      pub texts-read : (second : Option (List ℕ)) (others : List Vehicle) (roads : RoadMap) → roads ≡ network → BringsSecond network.nodes second next new (Ok others)
          → AreRead (text_files map fleet second) (meaning roads settings vehicles others) old new
      texts-read second others roads same brings =
          subst (λ (n : RoadMap). AreRead (text_files map fleet second) (meaning n settings vehicles others) old new) (sym same) (all-read others second brings)

      pub no-roads : (second : Option (List ℕ)) (others : List Vehicle) (stop : Stop) → stop ≡ NoMemory → BringsSecond network.nodes second next new (Ok others)
          → (more : List File) → StopsReading (text_files map fleet second ++ more) stop old new
      no-roads second others stop is brings more =
          subst (λ (s : Stop). StopsReading (text_files map fleet second ++ more) s old new) (sym is) (wants-memory others second brings more)
