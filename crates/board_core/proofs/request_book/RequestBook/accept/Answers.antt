use Rattle.board_core.proofs.Common.{◌≡◌, ◌<◌, ◌++◌, ◌∷◌, [], length, All, None, eqb, sym, ap, subst, ◌∙◌, arith, length-map, recursion_from_All, All-from_recursion, request_of, request_in, requests_in, waiting_places}
use Rattle.indexmap.proofs.CallerLemmas.{insert_entry-new}
use Rattle.board_core.proofs.request_book.Entries.{IsKeyed, absent-key}
use Rattle.board_core.proofs.request_book.Changes.{waiting_entry, requests-push, kept-push}
use Rattle.board_core.proofs.request_book.Places.{places-below}
use Rattle.board_core.proofs.request_book.RequestBook.accept.Goals as goal

pub add-requires-clause-last : goal.add-requires-clause-last
add-requires-clause-last c =
    let requests = requests_in c.self.inside.requests.entries in
    let count : c.len-place.result ≡ length requests = c.len-place.ensures.len ∙ sym (length-map c.self.inside.requests.entries request_in) in
    let below : All (λ other. other < length requests) (waiting_places 0 requests) =
    All-from_recursion (λ other. other < length requests) (waiting_places 0 requests) (places-below 0 (length requests) requests (omega arith)) in
    rw (count, c.self.invariant.places_are) below

pub invariant_of-self-2 : goal.invariant_of-self-2
invariant_of-self-2 c =
    let entries = c.self.inside.requests.entries in
    let requests = requests_in entries in
    let keyed = recursion_from_All IsKeyed entries c.self.invariant.keys_are in
    let fresh : request_of requests c.args.ride.id ≡ None = ap (λ rs. request_of rs c.args.ride.id) c.self.view_is ∙ c.requires.fresh in
    let room : length requests < 100000 = subst (λ rs. length rs < 100000) (sym c.self.view_is) c.requires.room in
    let pushed : c.insert.new.self.entries ≡ entries ++ waiting_entry c.args.ride ∷ [] =
    c.in_ok-insert.ensures.entries
    ∙ insert_entry-new eqb c.self.inside.requests c.args.ride.id (waiting_entry c.args.ride).1 (absent-key c.args.ride.id entries keyed fresh) in
    let count : c.len-place.result ≡ length requests = c.len-place.ensures.len ∙ sym (length-map entries request_in) in
    let places = c.add.ensures.added ∙ ap (λ n. c.self.inside.waiting.places ++ n ∷ []) count in
    rw pushed (kept-push entries c.args.ride c.self.inside.waiting c.add.new.self c.self.invariant room fresh places c.add.ensures.capacity)

pub returns-clause-accepted : goal.returns-clause-accepted
returns-clause-accepted c =
    let entries = c.self.inside.requests.entries in
    let keyed = recursion_from_All IsKeyed entries c.self.invariant.keys_are in
    let fresh : request_of (requests_in entries) c.args.ride.id ≡ None = ap (λ rs. request_of rs c.args.ride.id) c.self.view_is ∙ c.requires.fresh in
    let pushed : c.insert.new.self.entries ≡ entries ++ waiting_entry c.args.ride ∷ [] =
    c.in_ok-insert.ensures.entries
    ∙ insert_entry-new eqb c.self.inside.requests c.args.ride.id (waiting_entry c.args.ride).1 (absent-key c.args.ride.id entries keyed fresh) in
    ap requests_in pushed ∙ requests-push entries c.args.ride ∙ ap (λ rs. rs ++ request_in (waiting_entry c.args.ride) ∷ []) c.self.view_is
