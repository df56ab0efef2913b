use Rattle.board_core.proofs.Common.{◌≡◌, Some, None, eqb, refl, sym, ap, ◌∙◌, is_some, false, arith, option_map, Option, keys_of, lookup, position-Some, recursion_from_All, none_from_not_some, none_from_is_some, is_waiting, request_of, with_state, requests_in, marked}
use Rattle.board_core.proofs.request_book.Entries.{IsKeyed, request_by, looked-up, absent-stays, set-at}
use Rattle.board_core.proofs.request_book.Changes.{requests-at, kept-set}
use Rattle.board_core.proofs.request_book.Places.{waits-there}
use Rattle.board_core.proofs.request_book.RequestBook.set_state.Goals as goal

pub returns-in_default : goal.returns-in_default
returns-in_default c =
    let entries = c.self.inside.requests.entries in
    let keyed = recursion_from_All IsKeyed entries c.self.invariant.keys_are in
    let nothing : c.get_index_of.result ≡ None = none_from_not_some c.get_index_of.result c.in_default.not-Some in
    let none : lookup (eqb c.args.id) entries ≡ None = none_from_is_some (lookup (eqb c.args.id) entries)
    (sym c.get_index_of.ensures.found ∙ ap is_some nothing) in
    let absent : request_of c.args.self.now c.args.id ≡ None =
    ap (λ rs. request_of rs c.args.id) (sym c.self.view_is) ∙ sym (looked-up c.args.id entries keyed) ∙ ap (option_map request_by) none in
    absent-stays c.args.id c.args.state c.args.self.now absent

pub mark-requires-clause-known : goal.mark-requires-clause-known
mark-requires-clause-known c =
    let entries = c.self.inside.requests.entries in
    let i = c.in-Some.index in
    let there = waits-there i i 0 (requests_in entries) (request_by c.index.result.now) (omega arith)
    (requests-at entries i c.index.result.now c.index.ensures) in
    rw (c.is_waiting.ensures, c.self.invariant.places_are) there

pub invariant_of-self : goal.invariant_of-self
invariant_of-self c =
    let entries = c.self.inside.requests.entries in
    let i = c.in-Some.index in
    let found = position-Some (eqb c.args.id) (keys_of entries) i 0 (sym c.get_index_of.ensures.index ∙ c.in-Some.is) in
    let places = c.mark.ensures.places
    ∙ ap (λ b. marked b c.is_waiting-2.result i c.self.inside.waiting.places) c.is_waiting.ensures
    ∙ ap (λ b. marked (is_waiting c.index.result.now.state) b i c.self.inside.waiting.places) c.is_waiting-2.ensures in
    let same : c.index_mut.result.now ≡ c.index.result.now = cc (c.index.ensures, c.index_mut.ensures.value) in
    rw same (kept-set entries i c.args.id c.index.result.now c.args.state c.self.inside.waiting c.mark.new.list c.self.invariant
    c.index.ensures found.1 places c.mark.ensures.capacity)

pub returns : goal.returns
returns c =
    let entries = c.self.inside.requests.entries in
    let keyed = recursion_from_All IsKeyed entries c.self.invariant.keys_are in
    let i = c.in-Some.index in
    let found = position-Some (eqb c.args.id) (keys_of entries) i 0 (sym c.get_index_of.ensures.index ∙ c.in-Some.is) in
    set-at i c.args.id entries c.index_mut.result.now c.args.state c.index_mut.ensures.value found.1 keyed c.self.invariant.book.ids_differ
    ∙ ap (with_state c.args.id c.args.state) c.self.view_is
