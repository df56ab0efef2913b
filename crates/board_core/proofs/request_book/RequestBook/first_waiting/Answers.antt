use Rattle.board_core.proofs.Common.{◌≡◌, ◌<◌, ◌++◌, ◌∷◌, [], suc, length, map, take, slice_get, Some, sym, ap, subst, ◌∙◌, arith, length-map, length-append, Rises, waiting_of, request_in, requests_in, waiting_places}
use Rattle.board_core.proofs.request_book.Changes.{requests-at}
use Rattle.board_core.proofs.request_book.Taken.{ride_at, places-rise, next-above, place-within, take-next, take-whole, first-rides, ride-of}
use Rattle.board_core.proofs.request_book.RequestBook.first_waiting.Goals as goal
use Rattle.board_core.proofs.request_book.RequestBook.first_waiting.Goals.{in-Some+then-len-most, in_default}

pub index-requires : goal.index-requires
index-requires c =
    let entries = c.self.inside.requests.entries in
    let at : slice_get (waiting_places 0 (requests_in entries)) (length c.loop-next.rides.items) ≡ Some c.in-Some.place =
    ap (λ ps. slice_get ps (length c.loop-next.rides.items)) (sym c.self.invariant.places_are) ∙ sym c.loop-next.invariant.1 ∙ c.in-Some.is in
    subst (λ n. c.in-Some.place < n) (length-map entries request_in) (place-within (requests_in entries) (length c.loop-next.rides.items) c.in-Some.place at)

pub after-next-requires : goal.after-next-requires
after-next-requires c =
    let entries = c.self.inside.requests.entries in
    let at : slice_get (waiting_places 0 (requests_in entries)) (length c.loop-next.rides.items) ≡ Some c.in-Some.place =
    ap (λ ps. slice_get ps (length c.loop-next.rides.items)) (sym c.self.invariant.places_are) ∙ sym c.loop-next.invariant.1 ∙ c.in-Some.is in
    let within = place-within (requests_in entries) (length c.loop-next.rides.items) c.in-Some.place at in
    omega (arith, within, c.self.invariant.book.few, c.self.invariant.room)

pub loop-next-preserved : goal.loop-next-preserved
loop-next-preserved c =
    let entries = c.self.inside.requests.entries in
    let requests = requests_in entries in
    let places = c.self.inside.waiting.places in
    let n = length c.loop-next.rides.items in
    let at : slice_get places n ≡ Some c.in-Some.place = sym c.loop-next.invariant.1 ∙ c.in-Some.is in
    let ride : c.index.result.now.ride ≡ ride_at requests c.in-Some.place =
    ride-of requests c.in-Some.place (record { ride = c.index.result.now.ride; state = c.index.result.now.state })
    (requests-at entries c.in-Some.place c.index.result.now c.index.ensures) in
    let grown = c.in_ok-push.ensures.items in
    let counted = ap length grown ∙ length-append c.loop-next.rides.items (c.index.result.now.ride ∷ []) in
    let count : length c.push.new.self.items ≡ suc n = omega (arith, counted) in
    let rides : c.push.new.self.items ≡ map (ride_at requests) (take (suc n) places) =
    grown ∙ ap (λ xs. xs ++ c.index.result.now.ride ∷ []) c.loop-next.invariant.0
    ∙ ap (λ x. map (ride_at requests) (take n places) ++ x ∷ []) ride ∙ take-next (ride_at requests) places n c.in-Some.place at in
    let rises : Rises places = subst Rises (sym c.self.invariant.places_are) (places-rise 0 requests) in
    let next : c.after-next.result ≡ slice_get places (suc n) = c.after-next.ensures.next ∙ next-above n c.in-Some.place places rises at in
    rw count (rides, next, omega (arith, c.loop-next.invariant.2, c.if-len-most.false, c.len.ensures))

-- the rides that are taken are the first that wait, where the list ends or there are as many as asked for
pub returns : goal.returns
returns c =
    let entries = c.self.inside.requests.entries in
    let requests = requests_in entries in
    let places = c.self.inside.waiting.places in
    let n = length c.loop-next.rides.items in
    let from_most : take n places ≡ take c.args.most places → c.loop-next.rides.items ≡ take c.args.most (waiting_of c.args.self.now) =
    λ same. c.loop-next.invariant.0 ∙ ap (map (ride_at requests)) same
    ∙ ap (λ ps. map (ride_at requests) (take c.args.most ps)) c.self.invariant.places_are ∙ first-rides requests c.args.most
    ∙ ap (λ rs. take c.args.most (waiting_of rs)) c.self.view_is in
    elim c.match-next.branch [
      | in-Some+then-len-most w ↦
          let enough : n ≡ c.args.most = omega (arith, w.len.ensures, w.if-len-most.true) in
          from_most (ap (λ k. take k places) enough)
      | in_default w ↦ from_most (take-whole places n (sym c.loop-next.invariant.1 ∙ w.in_default.is) c.args.most c.loop-next.invariant.2)
    ]
