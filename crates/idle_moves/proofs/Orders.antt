-- The lists of a sheet, read from what is kept of the vehicles that stand by.
use Rattle.idle_moves.proofs.Common.{◌≡◌, ℕ, ◌<◌, List, length, map, get_or, sym, ap, ◌∙◌, Option, Some, option_map, get_or-map, map-map, Ride, Vehicle, vehicle_ids, ride_ids, GridCells, cell_at, Move, Standby, order_at, AreStandbys, standby_of}

-- what is read of a vehicle that stands by is what the fleet has at its place
module _ (standbys : List Standby) (fleet : List Vehicle) (are : AreStandbys standbys fleet) where
  read : (part : Standby → ℕ) (place : ℕ) (d : Standby) → place < length standbys
      → part (get_or standbys place d) ≡ get_or (map (λ (v : Vehicle). part (standby_of v)) fleet) place 0
  read part place d low =
      sym (get_or-map part standbys place d 0 low)
      ∙ ap (λ xs. get_or (map part xs) place 0) are
      ∙ ap (λ xs. get_or xs place 0) (map-map part standby_of fleet)

  pub id-read : (place : ℕ) (d : Standby) → place < length standbys → (get_or standbys place d).vehicle ≡ get_or (vehicle_ids fleet) place 0
  id-read place d low = read (λ (standby : Standby). standby.vehicle) place d low

  -- the order of a cell with an amount
  pub order-some : (grid : GridCells) (rides : List Ride) (row column seconds : ℕ) (given : Option ℕ) (no_ride : Ride) (no_standby : Standby)
      → row < length rides → column < length standbys → given ≡ Some column → cell_at grid row column ≡ Some seconds
      → Some (record {
        request = (get_or rides row no_ride).id;
        vehicle = (get_or standbys column no_standby).vehicle;
        version = (get_or standbys column no_standby).version;
        node = (get_or rides row no_ride).from;
        seconds = seconds;
      }) ≡ order_at grid rides fleet row given
  order-some grid rides row column seconds given no_ride no_standby row_in column_in given_is cell_is =
      let request = sym (get_or-map (λ (ride : Ride). ride.id) rides row no_ride 0 row_in) in
      let node = sym (get_or-map (λ (ride : Ride). ride.from) rides row no_ride 0 row_in) in
      let vehicle = id-read column no_standby column_in in
      let version = read (λ (standby : Standby). standby.version) column no_standby column_in in
      let order_of : ℕ → Move = λ amount. record {
        request = get_or (ride_ids rides) row 0;
        vehicle = get_or (vehicle_ids fleet) column 0;
        version = get_or (map (λ (v : Vehicle). v.version) fleet) column 0;
        node = get_or (map (λ (ride : Ride). ride.from) rides) row 0;
        seconds = amount;
      } in
      (λ i. Some (record { request = request i; vehicle = vehicle i; version = version i; node = node i; seconds = seconds }))
      ∙ ap (option_map order_of) (sym cell_is)
      ∙ ap (order_at grid rides fleet row) (sym given_is)
