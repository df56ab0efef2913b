-- Boards in order, and how they go on.
use Rattle.board_core.proofs.Common.{◌≡◌, ℕ, ◌+◌, ◌<◌, ◌≤◌, ◌^◌, Bool, true, false, ◌||◌, cond, List, [], ◌∷◌, ◌++◌, length, eqb, refl, sym, ◌∙◌, ap, subst, length-append, arith, All, IsFalse, Option, None, is_some, AllByRecursion, IsDistinct, list_any, length-map, All-weaker, All-from_recursion, recursion_from_All, list_any-append, Actor, Ending, Feed, Desk, Command, Entry, Fed, Reply, Settings, Vehicle, IsFleet, MayStart, entries_of, fed_commands, is_abandoned, replay, IsLegal, IsLegalEntry, IsNumbered, RoadMap, IsRoadMap, vehicle_ids, IsSettings, State, start_state, has_ended, Answered, step, IsOneOrTwo, IsSpelledCommand, IsLawful, IsLegal-push, replay-push, HasPromised, IsWithVehicle, IsConsistent, fed_total, IsFedWithin, consistent, Desks, Service, Given, places_kept, none_yet, ending_of, is_whole_end, Mirrors, IsBoard, Recorded, state_of, IsRecorded, state_at, answered_at, HasRoomAbove, IsInOrder}
use Rattle.board_core.proofs.FedEntries.{fed_total-le, within-push, few-of_feed}

-- vehicles of the same ids are a fleet as well
fleet-same : (vs ws : List Vehicle) → vehicle_ids vs ≡ vehicle_ids ws → IsFleet ws → IsFleet vs
fleet-same vs ws same fleet = record {
  few = omega (arith, fleet.few, ap length same, length-map vs (λ (v : Vehicle). v.id), length-map ws (λ (v : Vehicle). v.id));
  ids_differ = subst (IsDistinct eqb) (sym same) fleet.ids_differ;
  ids_fit = All-from_recursion (λ (v : Vehicle). v.id < 10 ^ 18) vs (each vs ws same (recursion_from_All (λ (v : Vehicle). v.id < 10 ^ 18) ws fleet.ids_fit));
}
  where
    each : (xs ys : List Vehicle) → vehicle_ids xs ≡ vehicle_ids ys → AllByRecursion (λ (v : Vehicle). v.id < 10 ^ 18) ys
        → AllByRecursion (λ (v : Vehicle). v.id < 10 ^ 18) xs
    each [] ys is h = tt
    each (x ∷ xs) [] is h = absurd (cc is)
    each (x ∷ xs) (y ∷ ys) is (first, rest) = (
      subst (λ n. n < 10 ^ 18) (sym (head x.id y.id (vehicle_ids xs) (vehicle_ids ys) is)) first,
      each xs ys (tail x.id y.id (vehicle_ids xs) (vehicle_ids ys) is) rest,
    )
      where
        head : (a b : ℕ) (as' bs : List ℕ) → a ∷ as' ≡ b ∷ bs → a ≡ b
        head a b as' bs e = cc e

        tail : (a b : ℕ) (as' bs : List ℕ) → a ∷ as' ≡ b ∷ bs → as' ≡ bs
        tail a b as' bs e = cc e

-- the state of a board is consistent
pub board-consistent : (setup : Given) (service : Service) (kept : Desks) (capacity : ℕ) (board : Recorded) → IsBoard setup service kept capacity board
    → IsConsistent board.desks (fed_total board.history) board.start (state_of board)
board-consistent setup service kept capacity board is =
    consistent board.feeds board.desks board.start board.history is.recorded.start_fits is.recorded.legal

-- it has at most 2 x 10^9 commands
pub few_fed : (board : Recorded) → IsRecorded board → fed_total board.history ≤ 2000000000
few_fed board is =
    omega (
      arith,
      fed_total-le board.feeds board.desks board.start board.history is.feeds_fit.1 is.legal,
      is.fed_within.few 1,
      is.fed_within.few 2,
    )

-- its service is in order
pub board-in_order : (setup : Given) (service : Service) (kept : Desks) (capacity : ℕ) (board : Recorded) → IsBoard setup service kept capacity board
    → IsInOrder setup service
board-in_order setup service kept capacity board is =
    let s : State = state_of board in
    let c = board-consistent setup service kept capacity board is in
    let same : s ≡ state_at setup service s = is.mirrors.state_is in
    let roads_are : board.start.roads ≡ setup.roads = sym c.roads_stay ∙ ap (λ (t : State). t.roads) same in
    let settings_are : board.start.settings ≡ setup.settings = sym c.settings_stay ∙ ap (λ (t : State). t.settings) same in
    let vehicles_are : s.vehicles ≡ service.vehicles.items = ap (λ (t : State). t.vehicles) same in
    record {
      map_fits = subst IsRoadMap roads_are is.recorded.start_fits.map_fits;
      settings_fit = subst IsSettings settings_are is.recorded.start_fits.may_start.settings_fit;
      clock_fits = subst (λ (t : State). t.clock ≤ 1000000000) same c.clock_fits;
      few_asked = subst (λ (t : State). t.asked ≤ 2000) same c.few_asked;
      fleet_fits = fleet-same service.vehicles.items board.start.vehicles (ap vehicle_ids (sym vehicles_are) ∙ c.fleet_stays)
          is.recorded.start_fits.fleet_fits;
      ids_are = is.ids_are ∙ sym c.fleet_stays ∙ ap vehicle_ids vehicles_are;
      lawful = subst (λ (t : State). All (IsLawful t.roads) t.vehicles) same c.lawful;
      versions_fit = subst (λ vs. All HasRoomAbove vs) vehicles_are
          (All-weaker (λ (v : Vehicle). v.version + length s.batches ≤ fed_total board.history + s.opened) HasRoomAbove
          (λ v below. omega (arith, below, few_fed board is.recorded, c.few_opened, c.few_asked)) s.vehicles c.versions_fit);
      promised = λ rest. subst (λ (t : State). All (HasPromised t) t.vehicles) same c.promised;
      with_vehicles = λ rest. subst (λ (t : State). All (IsWithVehicle t) t.requests) same c.with_vehicles;
    }

-- what is kept still mirrors a state that has the service's parts
pub mirrors-moved : (setup : Given) (service after : Service) (kept : Desks) (s next : State) (old new : List Entry)
    → Mirrors setup service kept s old → next ≡ state_at setup after s
    → list_any (λ (entry : Entry). is_abandoned entry.event) new ≡ list_any (λ (entry : Entry). is_abandoned entry.event) old
    → Mirrors setup after kept next new
mirrors-moved setup service after kept s next old new m is same =
    subst (λ t. Mirrors setup after kept t new) (sym is) (record {
      state_is = refl;
      opened_is = m.opened_is;
      open_are = m.open_are;
      ended_are = m.ended_are;
      whole_are = m.whole_are;
      given_up_is = m.given_up_is ∙ sym same;
    })

-- one entry more gives no batch up, unless it does itself
pub abandoned-push : (entries : List Entry) (entry : Entry) → is_abandoned entry.event ≡ false
    → list_any (λ (e : Entry). is_abandoned e.event) (entries ++ entry ∷ []) ≡ list_any (λ (e : Entry). is_abandoned e.event) entries
abandoned-push entries entry is =
    list_any-append (λ (e : Entry). is_abandoned e.event) entries (entry ∷ [])
    ∙ ap (λ b. list_any (λ (e : Entry). is_abandoned e.event) entries || (b || false)) is
    ∙ or_false (list_any (λ (e : Entry). is_abandoned e.event) entries)
  where
    or_false : (b : Bool) → (b || (false || false)) ≡ b
    or_false true = refl
    or_false false = refl

-- a board with one entry more
abbrev pub pushed : Recorded → Entry → ℕ → Recorded
pushed board entry spare = record board { history = board.history ++ entry ∷ []; spare = spare }

-- a recorded board goes on by a legal entry
pub recorded-push : (board : Recorded) (entry : Entry) (spare : ℕ) → IsRecorded board
    → IsLegalEntry board.feeds board.desks (state_of board) entry → IsFedWithin board.start.settings.log (board.history ++ entry ∷ [])
    → IsRecorded (pushed board entry spare)
recorded-push board entry spare is legal within = record {
  start_fits = is.start_fits;
  feeds_fit = is.feeds_fit;
  desks_fit = is.desks_fit;
  legal = IsLegal-push board.feeds board.desks board.start board.history entry is.legal legal;
  fed_within = within;
}

-- a board goes on by a command
pub board-fed : (setup : Given) (service after : Service) (kept : Desks) (capacity room : ℕ) (board : Recorded) (feed : ℕ) (command : Command) (reply : Reply)
    (spare : ℕ)
    → IsBoard setup service kept capacity board → IsNumbered board.feeds feed → IsFalse (has_ended (state_of board) (Feed feed))
    → length (fed_commands feed board.history) < 1000000000 → IsSpelledCommand board.start.settings.log command
    → step (state_at setup service (state_of board)) command ≡ answered_at setup after (state_of board) reply
    → length board.history + 1 + spare + places_kept kept ≤ room
    → IsBoard setup after kept room (pushed board (record { actor = Feed feed; event = Fed command reply }) spare)
board-fed setup service after kept capacity room board feed command reply spare is numbered lives few spelled stepped fits =
    let s : State = state_of board in
    let entry : Entry = record { actor = Feed feed; event = Fed command reply } in
    let stepped_here : step s command ≡ answered_at setup after s reply
    = ap (λ t. step t command) is.mirrors.state_is ∙ stepped in
    record {
      ids_are = is.ids_are;
      recorded = recorded-push board entry spare is.recorded (numbered, lives, sym (ap (λ (a : Answered). a.reply) stepped_here))
          (within-push board.start.settings.log board.history entry is.recorded.fed_within spelled
          (few-of_feed board.history feed command reply is.recorded.fed_within.few few));
      mirrors = mirrors-moved setup service after kept s (state_of (pushed board entry spare)) board.history (board.history ++ entry ∷ []) is.mirrors
          (replay-push board.start board.history entry ∙ ap (λ (a : Answered). a.state) stepped_here)
          (abandoned-push board.history entry refl);
      room = omega (arith, fits, length-append board.history (entry ∷ []));
    }

-- a board on which nothing happened yet
pub board-new : (roads : RoadMap) (settings : Settings) (fleet : List Vehicle) (feeds desks : ℕ) (service : Service) (capacity : ℕ)
    → IsRoadMap roads → IsFleet fleet → MayStart roads settings fleet → IsOneOrTwo feeds → IsOneOrTwo desks
    → service.clock ≡ 0 → service.vehicles.items ≡ fleet → service.requests ≡ [] → service.asked ≡ 0 → 4 ≤ capacity
    → IsBoard (record { roads = roads; settings = settings; ids = vehicle_ids fleet }) service none_yet capacity
    (record { start = start_state roads settings fleet; feeds = feeds; desks = desks; history = []; spare = 0 })
unfolding replay IsLegal entries_of
board-new roads settings fleet feeds desks service capacity map_fits fleet_fits may_start feeds_fit desks_fit
    clock vehicles requests asked room = record {
      ids_are = refl;
      recorded = record {
        start_fits = record {
          map_fits = map_fits;
          fleet_fits = fleet_fits;
          may_start = may_start;
          nothing_yet = refl;
        };
        feeds_fit = feeds_fit;
        desks_fit = desks_fit;
        legal = tt;
        fed_within = record { spelled = λ k d low. absurd (omega (arith, low)); few = λ feed. omega arith };
      };
      mirrors = record {
        state_is = λ i. record {
          roads = roads;
          settings = settings;
          clock = sym clock i;
          vehicles = sym vehicles i;
          requests = sym requests i;
          asked = sym asked i;
          opened = 0;
          batches = [];
          ended = [];
        };
        opened_is = refl;
        open_are = λ desk. no_value (eqb desk 1) (eqb desk 2);
        ended_are = λ actor. no_ending actor;
        whole_are = λ actor. no_whole actor;
        given_up_is = refl;
      };
      room = omega (arith, room);
    }
  where
    no_value : (a b : Bool) → let none : Option ℕ = None in none ≡ cond a None (cond b None None)
    no_value true b = refl
    no_value false true = refl
    no_value false false = refl

    no_end : (a b : Bool) → false ≡ is_some (cond {A = Option Ending} a None (cond b None None))
    no_end true b = refl
    no_end false true = refl
    no_end false false = refl

    no_ending : (actor : Actor) → false ≡ is_some (ending_of none_yet actor)
    no_ending (Feed n) = no_end (eqb n 1) (eqb n 2)
    no_ending (Desk n) = no_end (eqb n 1) (eqb n 2)

    no_whole_end : (a b : Bool) → false ≡ is_whole_end (cond {A = Option Ending} a None (cond b None None))
    no_whole_end true b = refl
    no_whole_end false true = refl
    no_whole_end false false = refl

    no_whole : (actor : Actor) → false ≡ is_whole_end (ending_of none_yet actor)
    no_whole (Feed n) = no_whole_end (eqb n 1) (eqb n 2)
    no_whole (Desk n) = no_whole_end (eqb n 1) (eqb n 2)

-- fewer batches were opened than may be asked for, where fewer were opened than asked for
pub few-opened : (setup : Given) (service : Service) (kept : Desks) (capacity : ℕ) (board : Recorded) → IsBoard setup service kept capacity board
    → kept.opened < service.asked → kept.opened < 2000
few-opened setup service kept capacity board is more = omega (arith, more, (board-in_order setup service kept capacity board is).few_asked)
