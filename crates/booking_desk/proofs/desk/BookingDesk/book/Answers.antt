use Rattle.booking_desk.proofs.Common.{◌≡◌, ◌+◌, ◌≤◌, ℕ, Bool, true, false, cond, None, List, [], ◌∷◌, ◌++◌, eqb, length, is_some, sym, ap, ◌∙◌, arith, keys_of, lookup, length-append, length-map, recursion_from_All, All-from_recursion, none_from_is_some, DeskState, request_id, put_in, IsHeldEntry, bookings_in}
use Rattle.indexmap.proofs.CallerLemmas.{insert_entry-new}
use Rattle.booking_desk.proofs.Bookings.{known, refused-again, refused-full, made-now, made-held, after-refusal, after-now, after-held}
use Rattle.booking_desk.proofs.HeldEntries.{unbooked-others, inserted}
use Rattle.booking_desk.proofs.Entered.{others-absent, keyed-from_kept, found-new, kept-on, All-inserted, popped, ids-pushed}
use Rattle.booking_desk.proofs.desk.BookingDesk.book.Goals as goal

-- how many ids the desk has
ids-count : (desk : DeskState) (booked : List (ℕ × ℕ)) → keys_of booked ≡ desk.booked → length desk.booked ≡ length booked
ids-count desk booked keys = ap length (sym keys) ∙ length-map booked (λ (e : ℕ × ℕ). e.0)

at-most-one : (b : Bool) → cond b 0 1 ≤ 1
at-most-one true = omega arith
at-most-one false = omega arith

pub returns-then-contains_key-clause-reply : goal.returns-then-contains_key-clause-reply
returns-then-contains_key-clause-reply c =
    let booked = known c.args.self.now c.self.inside.booked.entries c.args.request.now c.request_id-id.result c.contains_key.result
    (ap (λ (d : DeskState). d.booked) c.self.view_is) c.request_id-id.ensures c.contains_key.ensures ∙ c.if-contains_key.true in
    sym (refused-again c.args.self.now c.args.release c.args.request.now (omega arith) booked)

pub returns-then-contains_key-clause-booked : goal.returns-then-contains_key-clause-booked
returns-then-contains_key-clause-booked c =
    let booked = known c.args.self.now c.self.inside.booked.entries c.args.request.now c.request_id-id.result c.contains_key.result
    (ap (λ (d : DeskState). d.booked) c.self.view_is) c.request_id-id.ensures c.contains_key.ensures ∙ c.if-contains_key.true in
    after-refusal c.args.self.now c.args.release c.args.request.now 19
    (refused-again c.args.self.now c.args.release c.args.request.now (omega arith) booked)

pub returns-then-len-self-clause-reply : goal.returns-then-len-self-clause-reply
returns-then-len-self-clause-reply c =
    let keys = ap (λ (d : DeskState). d.booked) c.self.view_is in
    let most = ap (λ (d : DeskState). d.most) c.self.view_is in
    let count = ids-count c.args.self.now c.self.inside.booked.entries keys in
    let booked = known c.args.self.now c.self.inside.booked.entries c.args.request.now c.request_id-id.result c.contains_key.result
    keys c.request_id-id.ensures c.contains_key.ensures ∙ c.if-contains_key.false in
    sym (refused-full c.args.self.now c.args.release c.args.request.now (omega arith) booked (omega (arith, count, most, c.len.ensures.len)))

pub returns-then-len-self-clause-booked : goal.returns-then-len-self-clause-booked
returns-then-len-self-clause-booked c =
    let keys = ap (λ (d : DeskState). d.booked) c.self.view_is in
    let most = ap (λ (d : DeskState). d.most) c.self.view_is in
    let count = ids-count c.args.self.now c.self.inside.booked.entries keys in
    let booked = known c.args.self.now c.self.inside.booked.entries c.args.request.now c.request_id-id.result c.contains_key.result
    keys c.request_id-id.ensures c.contains_key.ensures ∙ c.if-contains_key.false in
    after-refusal c.args.self.now c.args.release c.args.request.now 22
    (refused-full c.args.self.now c.args.release c.args.request.now (omega arith) booked (omega (arith, count, most, c.len.ensures.len)))

pub returns-then-release-self-clause-reply : goal.returns-then-release-self-clause-reply
returns-then-release-self-clause-reply c =
    let keys = ap (λ (d : DeskState). d.booked) c.self.view_is in
    let most = ap (λ (d : DeskState). d.most) c.self.view_is in
    let clock = ap (λ (d : DeskState). d.clock) c.self.view_is in
    let count = ids-count c.args.self.now c.self.inside.booked.entries keys in
    let booked = known c.args.self.now c.self.inside.booked.entries c.args.request.now c.request_id-id.result c.contains_key.result
    keys c.request_id-id.ensures c.contains_key.ensures ∙ c.if-contains_key.false in
    sym (made-now c.args.self.now c.args.release c.args.request.now (omega arith) booked (omega (arith, count, most, c.len.ensures.len)) (omega (arith, clock)))

-- the ids and releases after an insertion of a new one
pub returns-then-release-self-clause-booked : goal.returns-then-release-self-clause-booked
returns-then-release-self-clause-booked c =
    let keys = ap (λ (d : DeskState). d.booked) c.self.view_is in
    let most = ap (λ (d : DeskState). d.most) c.self.view_is in
    let clock = ap (λ (d : DeskState). d.clock) c.self.view_is in
    let count = ids-count c.args.self.now c.self.inside.booked.entries keys in
    let booked = known c.args.self.now c.self.inside.booked.entries c.args.request.now c.request_id-id.result c.contains_key.result
    keys c.request_id-id.ensures c.contains_key.ensures ∙ c.if-contains_key.false in
    let none : lookup (eqb c.request_id-id.result) c.self.inside.booked.entries ≡ None =
    none_from_is_some (lookup (eqb c.request_id-id.result) c.self.inside.booked.entries) (sym c.contains_key.ensures ∙ c.if-contains_key.false) in
    let pushed = c.in_ok-insert.ensures.entries ∙ insert_entry-new eqb c.self.inside.booked c.request_id-id.result c.args.release none in
    let reply = made-now c.args.self.now c.args.release c.args.request.now (omega arith) booked (omega (arith, count, most, c.len.ensures.len)) (omega (arith, clock)) in
    after-now c.args.self.now c.args.release c.args.request.now
    (record { most = c.self.inside.most; clock = c.self.inside.clock; booked = keys_of c.self.inside.booked.entries; held = bookings_in c.self.inside.held.entries })
    (keys_of c.insert.new.self.entries) c.self.view_is
    (ids-pushed c.self.inside.booked.entries c.insert.new.self.entries c.request_id-id.result c.args.release (request_id c.args.request.now) c.args.self.now.booked keys pushed c.request_id-id.ensures)
    reply

pub invariant_of-self-in-Ok : goal.invariant_of-self-in-Ok
invariant_of-self-in-Ok c =
    let id = c.request_id-id.result in
    let entries = c.self.inside.held.entries in
    let old = c.self.inside.booked.entries in
    let none : lookup (eqb id) old ≡ None = none_from_is_some (lookup (eqb id) old) (sym c.contains_key.ensures ∙ c.if-contains_key.false) in
    let pushed : c.insert.new.self.entries ≡ old ++ (id, c.args.release) ∷ [] =
    c.in_ok-insert.ensures.entries ∙ insert_entry-new eqb c.self.inside.booked id c.args.release none in
    let count : length c.insert.new.self.entries ≡ length old + 1 = ap length pushed ∙ length-append old ((id, c.args.release) ∷ []) in
    let kept = recursion_from_All (IsHeldEntry old) entries c.self.invariant.entries in
    let absent = others-absent id c.args.release entries (unbooked-others old id none entries kept) (keyed-from_kept old entries kept) in
    let here : IsHeldEntry (old ++ (id, c.args.release) ∷ []) ((c.args.release, id), c.args.request.now) =
    record { request = c.requires; id = c.request_id-id.ensures; release = found-new id c.args.release old none } in
    let all = All-inserted (IsHeldEntry (old ++ (id, c.args.release) ∷ [])) ((c.args.release, id), c.args.request.now) entries absent
    (kept-on (id, c.args.release) old entries kept) here in
    record {
      few = omega (arith, count, c.len.ensures.len);
      most_few = c.self.invariant.most_few;
      few_held = omega (arith, count, c.in-Ok.ensures.len, at-most-one (is_some c.in-Ok.field-0), c.self.invariant.few_held);
      in_order = c.in-Ok.ensures.ordered;
      entries = rw (pushed, c.in-Ok.ensures.entries) (All-from_recursion (IsHeldEntry (old ++ (id, c.args.release) ∷ [])) _ all);
    }

pub invariant_of-self-in-Err : goal.invariant_of-self-in-Err
invariant_of-self-in-Err c =
    let id = c.request_id-id.result in
    let old = c.self.inside.booked.entries in
    let none : lookup (eqb id) old ≡ None = none_from_is_some (lookup (eqb id) old) (sym c.contains_key.ensures ∙ c.if-contains_key.false) in
    let pushed : c.insert.new.self.entries ≡ old ++ (id, c.args.release) ∷ [] =
    c.in_ok-insert.ensures.entries ∙ insert_entry-new eqb c.self.inside.booked id c.args.release none in
    let back = popped old c.pop.new.self.entries c.insert.new.self.entries (id, c.args.release) c.pop.result pushed c.pop.ensures.entries c.pop.ensures.found in
    rw (back, c.in-Err.ensures.err) c.self.invariant

pub returns-in-Ok-clause-reply : goal.returns-in-Ok-clause-reply
returns-in-Ok-clause-reply c =
    let keys = ap (λ (d : DeskState). d.booked) c.self.view_is in
    let most = ap (λ (d : DeskState). d.most) c.self.view_is in
    let clock = ap (λ (d : DeskState). d.clock) c.self.view_is in
    let count = ids-count c.args.self.now c.self.inside.booked.entries keys in
    let booked = known c.args.self.now c.self.inside.booked.entries c.args.request.now c.request_id-id.result c.contains_key.result
    keys c.request_id-id.ensures c.contains_key.ensures ∙ c.if-contains_key.false in
    sym (made-held c.args.self.now c.args.release c.args.request.now (omega arith) booked (omega (arith, count, most, c.len.ensures.len)) (omega (arith, clock)))

pub returns-in-Ok-clause-booked : goal.returns-in-Ok-clause-booked
returns-in-Ok-clause-booked c =
    let id = c.request_id-id.result in
    let entries = c.self.inside.held.entries in
    let old = c.self.inside.booked.entries in
    let keys = ap (λ (d : DeskState). d.booked) c.self.view_is in
    let most = ap (λ (d : DeskState). d.most) c.self.view_is in
    let clock = ap (λ (d : DeskState). d.clock) c.self.view_is in
    let count = ids-count c.args.self.now old keys in
    let booked = known c.args.self.now old c.args.request.now id c.contains_key.result
    keys c.request_id-id.ensures c.contains_key.ensures ∙ c.if-contains_key.false in
    let none : lookup (eqb id) old ≡ None = none_from_is_some (lookup (eqb id) old) (sym c.contains_key.ensures ∙ c.if-contains_key.false) in
    let pushed = c.in_ok-insert.ensures.entries ∙ insert_entry-new eqb c.self.inside.booked id c.args.release none in
    let kept = recursion_from_All (IsHeldEntry old) entries c.self.invariant.entries in
    let keyed = keyed-from_kept old entries kept in
    let absent = others-absent id c.args.release entries (unbooked-others old id none entries kept) keyed in
    let put = ap bookings_in c.in-Ok.ensures.entries
    ∙ inserted ((c.args.release, id), c.args.request.now) c.request_id-id.ensures entries c.self.invariant.in_order keyed absent
    ∙ ap (λ (d : DeskState). put_in (record { release = c.args.release; request = c.args.request.now }) d.held) c.self.view_is in
    let reply = made-held c.args.self.now c.args.release c.args.request.now (omega arith) booked (omega (arith, count, most, c.len.ensures.len)) (omega (arith, clock)) in
    after-held c.args.self.now c.args.release c.args.request.now
    (record { most = c.self.inside.most; clock = c.self.inside.clock; booked = keys_of old; held = bookings_in entries })
    (keys_of c.insert.new.self.entries) (bookings_in c.insert-2.new.self.entries) c.self.view_is
    (ids-pushed old c.insert.new.self.entries id c.args.release (request_id c.args.request.now) c.args.self.now.booked keys pushed c.request_id-id.ensures)
    put reply

pub returns-in-Err-clause-no_memory : goal.returns-in-Err-clause-no_memory
returns-in-Err-clause-no_memory c =
    let id = c.request_id-id.result in
    let old = c.self.inside.booked.entries in
    let none : lookup (eqb id) old ≡ None = none_from_is_some (lookup (eqb id) old) (sym c.contains_key.ensures ∙ c.if-contains_key.false) in
    let pushed : c.insert.new.self.entries ≡ old ++ (id, c.args.release) ∷ [] =
    c.in_ok-insert.ensures.entries ∙ insert_entry-new eqb c.self.inside.booked id c.args.release none in
    let back = popped old c.pop.new.self.entries c.insert.new.self.entries (id, c.args.release) c.pop.result pushed c.pop.ensures.entries c.pop.ensures.found in
    rw (back, c.in-Err.ensures.err) c.self.view_is
