-- What a rider asks for.
use Rattle.std.specs.Prelude.{◌≡◌, ◌+◌, ◌<◌, ◌≤◌, ◌^◌, ◌==◌, ◌&&◌, ◌||◌, Bool, nat_lt, List, length, None}
use Rattle.ride_model.specs.declared.vehicle.Ride.{Ride}
use Rattle.ride_model.specs.Road.{RoadMap}
use Rattle.ride_model.specs.State.{State, AcceptedRequest}
use Rattle.ride_model.specs.Step.{Answered, is_node, request_step}
use Rattle.ride_model.specs.declared.limits.TheConstants.{LATEST_TIME, LONGEST_RIDE, MOST_CHAIRS, MOST_REQUESTS, MOST_SEATS}
use Rattle.board_core.specs.inner.request_book.Book.{request_of}
use Rattle.board_core.specs.declared.wishes.Wish.{Wish}

-- the ride that is asked for
abbrev pub ride_of : Wish → Ride
ride_of wish = record {
  id = wish.id;
  from = wish.from;
  to = wish.to;
  seats = wish.seats;
  chairs = wish.chairs;
  latest = wish.latest;
  longest = wish.longest;
  picked = None;
}

-- the answer to a wish
abbrev pub wish_step : State → Wish → Answered
wish_step s wish = request_step s wish.id wish.from wish.to wish.seats wish.latest wish.longest wish.chairs

-- a wish that a book of requests may take
pub record MayBeAccepted (requests : List AcceptedRequest) (wish : Wish) : Type 0 where
  pub from_limit : wish.from < 2 ^ 32
  pub to_limit : wish.to < 2 ^ 32
  pub seats_limit : wish.seats ≤ MOST_SEATS
  pub chairs_limit : wish.chairs ≤ MOST_CHAIRS
  pub room : length requests < MOST_REQUESTS
  pub fresh : request_of requests wish.id ≡ None

-- whether it joins two nodes of the map
abbrev pub joins_nodes : RoadMap → Wish → Bool
joins_nodes roads wish = is_node roads wish.from && is_node roads wish.to

-- whether there are too many seats or chairs, or none
abbrev pub has_odd_load : Wish → Bool
has_odd_load wish = nat_lt MOST_SEATS wish.seats || nat_lt MOST_CHAIRS wish.chairs || wish.seats + wish.chairs == 0

-- whether a limit is out of its range
abbrev pub has_odd_limits : Wish → Bool
has_odd_limits wish = nat_lt LATEST_TIME wish.latest || wish.longest == 0 || nat_lt LONGEST_RIDE wish.longest
