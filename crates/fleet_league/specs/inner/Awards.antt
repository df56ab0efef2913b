-- What only lemmas and lower contracts use beside Awards.antt.
use Rattle.std.specs.Prelude.{◌≡◌, ℕ, ◌+◌, ◌<◌, ◌≤◌, ◌⊎◌, ◌==◌, not, if◌then◌else◌, List, [], ◌∷◌, ◌++◌, length, map, filter, find, position, take, All, Contains, Option, Some, None, option_map}
use Rattle.std.specs.List.{zip}
use Rattle.ride_model.specs.declared.command.Actor.TheVariants.{Desk, Feed}
use Rattle.ride_model.specs.declared.entry.Entry.{Entry}
use Rattle.ride_model.specs.declared.entry.Event.TheVariants.{Abandoned, Fed}
use Rattle.ride_model.specs.declared.reply.Reply.TheVariants.{Waiting}
use Rattle.ride_model.specs.declared.vehicle.Vehicle.{Vehicle}
use Rattle.ride_model.specs.Legal.{replay, versions_of}
use Rattle.ride_model.specs.declared.limits.TheConstants.{MOST_BATCHES, MOST_REQUESTS}
use Rattle.ride_model.specs.Seating.{vehicle_ids, amount_ids, has_amount}
use Rattle.ride_model.specs.State.{State}
use Rattle.dual_check.specs.Cells.{GridCells}
use Rattle.dual_check.specs.inner.Costs.{amounts_over}
use Rattle.dual_check.specs.Grid.{CertifiesPairing}
use Rattle.board_core.specs.Recorded.{Recorded, state_of}
use Rattle.fleet_league.specs.declared.briefs.Brief.{Brief}
use Rattle.fleet_league.specs.declared.briefs.Settled.{Settled}
use Rattle.fleet_league.specs.declared.briefs.Settled.TheVariants.{Confirmed, Moved, Timed}
use Rattle.fleet_league.specs.declared.briefs.Win.{Win}
use Rattle.fleet_league.specs.declared.quotes.Quote.{Quote}
use Rattle.fleet_league.specs.Prices.{prices_of}
use Rattle.fleet_league.specs.Awards.{won_rides, won_columns, request_of, asking_entries, opening_entry}

-- the place in the fleet of a win's vehicle
abbrev pub won_column : List Vehicle → Win → Option ℕ
won_column vehicles win = position (λ (v : Vehicle). v.id == win.vehicle) vehicles

-- the entries by which wins are requested
abbrev pub request_entries : List Win → List Entry
request_entries wins = map (λ (win : Win). record { actor = Feed 1; event = Fed (request_of win.ride) Waiting }) wins

-- each win's request with its price
abbrev pub price_list : List Win → List (ℕ × ℕ)
price_list wins = map (λ (win : Win). (win.ride.id, win.price)) wins

-- over prices of vehicles the wins are a pairing, each with a vehicle of the fleet, that their prices and the pays certify; the
-- pays are above 0 and in fleet order
pub record IsCertifiedBy (prices : GridCells) (penalty : ℕ) (vehicles : List Vehicle) (brief : Brief) : Type 0 where
  pub vehicles_there : All (λ (win : Win). Contains (vehicle_ids vehicles) win.vehicle) brief.wins
  pub paying : amount_ids brief.pays ≡ filter (has_amount brief.pays) (vehicle_ids vehicles)
  pub paid : All (λ (item : ℕ × ℕ). 1 ≤ item.1) brief.pays
  pub certified : CertifiesPairing prices penalty (won_columns vehicles brief.wins) (map (λ (win : Win). win.price) brief.wins)
      (amounts_over (vehicle_ids vehicles) brief.pays)

-- the same over a state's own prices, at its own penalty
abbrev pub IsCertifiedOver : State → Brief → Type 0
IsCertifiedOver s brief = IsCertifiedBy (prices_of s (won_rides brief.wins)) s.settings.penalty s.vehicles brief

-- a quote and a brief are of a state that the board had: the quote names its clock and its versions, and over its prices the
-- brief is certified
pub record AreOfOneState (board : Recorded) (quote : Quote) (brief : Brief) : Type 0 where
  pub before : List Entry
  pub after : List Entry
  pub history_is : board.history ≡ before ++ after
  pub time_is : quote.time ≡ (replay board.start before).clock
  pub plans_are : quote.plans ≡ versions_of (replay board.start before).vehicles
  pub certified : IsCertifiedOver (replay board.start before) brief

-- a board has room for so many wins: a batch of its settings takes them, and it takes so many requests and one batch more
pub record HasRoomFor (board : Recorded) (many : ℕ) : Type 0 where
  pub in_batch : many ≤ board.start.settings.batch
  pub requests : length (state_of board).requests + many ≤ MOST_REQUESTS
  pub batches : (state_of board).asked < MOST_BATCHES

-- the first of the vehicles, in fleet order, whose version is not the quoted one, with the quoted one
abbrev pub first_moved : List (ℕ × ℕ) → List Vehicle → Option ((ℕ × ℕ) × Vehicle)
first_moved plans vehicles = find (λ (pair : (ℕ × ℕ) × Vehicle). not (pair.0.1 == pair.1.version)) (zip plans vehicles)

-- the answer that names it
abbrev pub moved_answer : (ℕ × ℕ) × Vehicle → Settled
moved_answer pair = Moved pair.1.id pair.0.1 pair.1.version

-- what an award of a quote answers at a time, with these vehicles: one that has moved on goes before a clock that has
abbrev pub settled_by : ℕ → Quote → Option Settled → Settled
settled_by time quote (Some moved) = moved
settled_by time quote None = if quote.time == time then Confirmed else Timed quote.time time

abbrev pub settled_at : ℕ → List Vehicle → Quote → Settled
settled_at time vehicles quote = settled_by time quote (option_map moved_answer (first_moved quote.plans vehicles))

abbrev pub giving_up_entry : State → Entry
giving_up_entry s = record { actor = Desk 1; event = Abandoned (s.opened + 1) }

-- a history goes on by the first entries of an award for which memory was wanting, and by no commit: an open batch is given up
abbrev pub AddsPart : State → List Win → List Entry → List Entry → Type 0
AddsPart s wins old new =
    ((many : ℕ) × (new ≡ old ++ take many (asking_entries s wins)))
    ⊎ (new ≡ old ++ asking_entries s wins ++ opening_entry s wins ∷ giving_up_entry s ∷ [])
