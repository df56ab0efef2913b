-- Versions by id, of which some rise.
use Rattle.idle_moves.proofs.Common.{◌≡◌, ℕ, ◌+◌, ◌<◌, ◌^◌, Bool, true, false, cond, inl, inr, List, [], ◌∷◌, Option, Some, None, eqb, refl, sym, ◌∙◌, ap, arith, map, find, ◌==◌, IsDistinct, enumerate_from, eqb-true, All-map, All-weaker, same_Some, Entry, Event, Fed, Finish, Opened, Committed, Abandoned, Outcome, Seat, Vehicle, versions_of, find_vehicle, vehicle_ids, State, placed_vehicle, with_vehicle, HasRoom, after_entries, after_event, after_outcomes, raised, raised_if, vehicle_changed, vehicle_confirmed}
use Rattle.model_laws.proofs.plain.Among.{Among, found_among}
use Rattle.model_laws.proofs.history_laws.Lookups.{found_by, put, placed_is}

-- an item, whose version rises where it is of the vehicle
abbrev pub lifted : ℕ → ℕ × ℕ → ℕ × ℕ
lifted id item = cond (item.0 == id) (item.0, item.1 + 1) item

-- a version that rises keeps its vehicle
lifted-id : (id : ℕ) (item : ℕ × ℕ) → (lifted id item).0 ≡ item.0
lifted-id id item = by (eqb item.0 id)
  where
    by : (b : Bool) → (cond b (item.0, item.1 + 1) item).0 ≡ item.0
    by true = refl
    by false = refl

-- the vehicles stay
pub ids-raised : (id : ℕ) (versions : List (ℕ × ℕ))
    → map (λ (item : ℕ × ℕ). item.0) (raised id versions) ≡ map (λ (item : ℕ × ℕ). item.0) versions
ids-raised id [] = refl
ids-raised id (item ∷ versions) =
    ap (λ k. k ∷ map (λ (i : ℕ × ℕ). i.0) (raised id versions)) (lifted-id id item)
    ∙ ap (λ ks. item.0 ∷ ks) (ids-raised id versions)

pub ids-raised_if : (changed : Option ℕ) (versions : List (ℕ × ℕ))
    → map (λ (item : ℕ × ℕ). item.0) (raised_if changed versions) ≡ map (λ (item : ℕ × ℕ). item.0) versions
ids-raised_if None versions = refl
ids-raised_if (Some id) versions = ids-raised id versions

-- the ids of versions are those of the vehicles
pub ids-versions : (vehicles : List Vehicle) → map (λ (item : ℕ × ℕ). item.0) (versions_of vehicles) ≡ vehicle_ids vehicles
ids-versions [] = refl
ids-versions (v ∷ vehicles) = ap (λ ks. v.id ∷ ks) (ids-versions vehicles)

-- where versions rise as said, the ids of the vehicles stay
pub ids-after : (changed : Option ℕ) (old new : List Vehicle) → versions_of new ≡ raised_if changed (versions_of old)
    → vehicle_ids new ≡ vehicle_ids old
ids-after changed old new is =
    sym (ids-versions new) ∙ ap (map (λ (item : ℕ × ℕ). item.0)) is ∙ ids-raised_if changed (versions_of old) ∙ ids-versions old

-- a room is left where a version rises by one
pub room-raised : (many : ℕ) (changed : Option ℕ) (versions : List (ℕ × ℕ)) → HasRoom (many + 1) versions
    → HasRoom many (raised_if changed versions)
room-raised many None versions room =
    All-weaker (λ (item : ℕ × ℕ). item.1 + (many + 1) < 2 ^ 64) (λ (item : ℕ × ℕ). item.1 + many < 2 ^ 64)
    (λ item less. omega (arith, less)) versions room
room-raised many (Some id) versions room =
    All-map (λ (item : ℕ × ℕ). item.1 + many < 2 ^ 64) (lifted id) versions
    (All-weaker (λ (item : ℕ × ℕ). item.1 + (many + 1) < 2 ^ 64) (λ (item : ℕ × ℕ). (lifted id item).1 + many < 2 ^ 64)
    (λ item less. by item (eqb item.0 id) less) versions room)
  where
    by : (item : ℕ × ℕ) (b : Bool) → item.1 + (many + 1) < 2 ^ 64 → (cond b (item.0, item.1 + 1) item).1 + many < 2 ^ 64
    by item true less = omega (arith, less)
    by item false less = omega (arith, less)

-- where the record of a vehicle is set that has its id and a version one higher, its version rises
module _ (id : ℕ) (old new : Vehicle) (new_id : new.id ≡ id) (higher : new.version ≡ old.version + 1) where
  set-each : (vehicles : List Vehicle) → ((v : Vehicle) → Among v vehicles → v.id ≡ id → v ≡ old)
      → versions_of (map (put new) vehicles) ≡ raised id (versions_of vehicles)
  set-each [] only = refl
  set-each (v ∷ vehicles) only =
      ap (λ (item : ℕ × ℕ). item ∷ versions_of (map (put new) vehicles)) (by (eqb v.id id) refl)
      ∙ ap (λ items. lifted id (v.id, v.version) ∷ items) (set-each vehicles (λ w there. only w (inr there)))
    where
      item_of : Vehicle → ℕ × ℕ
      item_of w = (w.id, w.version)

      by : (b : Bool) → eqb v.id id ≡ b → ((put new v).id, (put new v).version) ≡ lifted id (v.id, v.version)
      by true is =
          let here : v.id ≡ id = eqb-true v.id id is in
          let same : v ≡ old = only v (inl refl) here in
          ap (λ (w : Vehicle). (w.id, w.version)) (ap (λ b. cond b new v) (ap (eqb v.id) new_id ∙ is))
          ∙ (λ i. ((new_id ∙ sym here) i, (higher ∙ ap (λ (w : Vehicle). w.version + 1) (sym same)) i))
          ∙ sym (ap (λ b. cond b (v.id, v.version + 1) (v.id, v.version)) is)
      by false is =
          ap (λ (w : Vehicle). (w.id, w.version)) (ap (λ b. cond b new v) (ap (eqb v.id) new_id ∙ is))
          ∙ sym (ap (λ b. cond b (v.id, v.version + 1) (v.id, v.version)) is)

-- the vehicle at a place gets a version one higher
pub versions-set : (s : State) (id place : ℕ) (v new : Vehicle) → IsDistinct eqb (vehicle_ids s.vehicles)
    → placed_vehicle s id ≡ Some (place, v) → new.id ≡ v.id → new.version ≡ v.version + 1
    → versions_of (with_vehicle s place new).vehicles ≡ raised id (versions_of s.vehicles)
versions-set s id place v new distinct placed_at same higher =
    let placed = placed_is s.vehicles id place v distinct placed_at in
    let v_is : v.id ≡ id = eqb-true v.id id (found_among (λ (u : Vehicle). u.id == id) s.vehicles v placed.found).1 in
    let new_is : new.id ≡ id = same ∙ v_is in
    ap versions_of (placed.set_is new new_is)
    ∙ set-each id v new new_is higher s.vehicles (λ w there here. same_Some w v (
    sym (found_by (λ (u : Vehicle). u.id) s.vehicles w distinct there) ∙ ap (find_vehicle s.vehicles) here ∙ placed.found
    ))

-- no version rises under an id that no vehicle has
none-from : (id n : ℕ) (vehicles : List Vehicle)
    → find (λ (placed : ℕ × Vehicle). placed.1.id == id) (enumerate_from n vehicles) ≡ None
    → raised id (versions_of vehicles) ≡ versions_of vehicles
none-from id n [] absent = refl
none-from id n (v ∷ vehicles) absent = by (λ later. none-from id (n + 1) vehicles later) (eqb v.id id) absent
  where
    rest : Option (ℕ × Vehicle)
    rest = find (λ (placed : ℕ × Vehicle). placed.1.id == id) (enumerate_from (n + 1) vehicles)

    by : (rest ≡ None → raised id (versions_of vehicles) ≡ versions_of vehicles) → (b : Bool) → cond b (Some (n, v)) rest ≡ None
        → cond b (v.id, v.version + 1) (v.id, v.version) ∷ raised id (versions_of vehicles) ≡ (v.id, v.version) ∷ versions_of vehicles
    by later true some = absurd (cc some)
    by later false none = ap (λ items. (v.id, v.version) ∷ items) (later none)

pub versions-none : (s : State) (id : ℕ) → placed_vehicle s id ≡ None → raised id (versions_of s.vehicles) ≡ versions_of s.vehicles
versions-none s id none = none-from id 0 s.vehicles none

-- the vehicles stay whatever outcomes, events and entries come
ids-outcomes : (seats : List Seat) (outcomes : List (ℕ × Outcome)) (versions : List (ℕ × ℕ))
    → map (λ (item : ℕ × ℕ). item.0) (after_outcomes seats outcomes versions) ≡ map (λ (item : ℕ × ℕ). item.0) versions
ids-outcomes seats [] versions = refl
ids-outcomes seats (item ∷ outcomes) versions =
    ids-outcomes seats outcomes (raised_if (vehicle_confirmed seats item) versions)
    ∙ ids-raised_if (vehicle_confirmed seats item) versions

ids-event : (event : Event) (versions : List (ℕ × ℕ))
    → map (λ (item : ℕ × ℕ). item.0) (after_event event versions) ≡ map (λ (item : ℕ × ℕ). item.0) versions
ids-event (Fed command reply) versions = ids-raised_if (vehicle_changed command reply) versions
ids-event (Finish ending) versions = refl
ids-event (Opened batch time requests plans) versions = refl
ids-event (Committed batch cost seats prices pays outcomes) versions = ids-outcomes seats outcomes versions
ids-event (Abandoned batch) versions = refl

pub ids-entries : (entries : List Entry) (versions : List (ℕ × ℕ))
    → map (λ (item : ℕ × ℕ). item.0) (after_entries entries versions) ≡ map (λ (item : ℕ × ℕ). item.0) versions
ids-entries [] versions = refl
ids-entries (entry ∷ entries) versions = ids-entries entries (after_event entry.event versions) ∙ ids-event entry.event versions
