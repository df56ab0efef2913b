use Rattle.board_core.proofs.Common.{◌≡◌, ◌≤◌, ◌-◌, length, map, take, slice_get, requests_in}
use Rattle.board_core.proofs.request_book.Taken.{ride_at}
use Rattle.board_core.proofs.request_book.RequestBook.first_waiting.Given as goal

-- the rides at the first places that wait are taken, and the next place comes then
abbrev pub invariant-loop-next : goal.invariant-loop-next
invariant-loop-next l =
    (l.rides.items ≡ map (ride_at (requests_in l.self-inside.requests.entries)) (take (length l.rides.items) l.self-inside.waiting.places))
    × (l.next ≡ slice_get l.self-inside.waiting.places (length l.rides.items))
    × (length l.rides.items ≤ l.most)

abbrev pub decreases-loop-next : goal.decreases-loop-next
decreases-loop-next l = l.most - length l.rides.items
