-- A wish against which nothing speaks may be accepted.
use Rattle.board_core.proofs.Common.{◌≡◌, ℕ, ◌+◌, ◌^◌, ◌<◌, ◌||◌, true, false, List, length, eqb, leb, ltb, ltb-false, refl, arith, Option, Some, None, is_some, leb-false, or_parts, and_parts, RoadMap, IsRoadMap, IsNode, AcceptedRequest, request_of, node_is, Wish, joins_nodes, has_odd_load, MayBeAccepted}

pub may-be_accepted : (roads : RoadMap) (requests : List AcceptedRequest) (wish : Wish) → IsRoadMap roads
    → is_some (request_of requests wish.id) ≡ false
    → joins_nodes roads wish ≡ true → has_odd_load wish ≡ false → leb 100000 (length requests) ≡ false → MayBeAccepted requests wish
may-be_accepted roads requests wish fits unknown joined load full =
    let (from, to) = and_parts _ _ joined in
    let (seats_chairs, some) = or_parts (ltb 8 wish.seats || ltb 4 wish.chairs) (eqb (wish.seats + wish.chairs) 0) load in
    let (seats, chairs) = or_parts (ltb 8 wish.seats) (ltb 4 wish.chairs) seats_chairs in
    record {
      from_limit = below roads wish.from fits (node_is roads wish.from from);
      to_limit = below roads wish.to fits (node_is roads wish.to to);
      seats_limit = ltb-false 8 wish.seats seats;
      chairs_limit = ltb-false 4 wish.chairs chairs;
      room = leb-false 100000 (length requests) full;
      fresh = none (request_of requests wish.id) unknown;
    }
  where
    below : (m : RoadMap) (x : ℕ) → IsRoadMap m → IsNode m x → x < 2 ^ 32
    below m x limits node = omega (arith, limits.nodes_limit, node)

    none : (o : Option AcceptedRequest) → is_some o ≡ false → o ≡ None
    none None h = refl
    none (Some r) h = absurd (cc h)
