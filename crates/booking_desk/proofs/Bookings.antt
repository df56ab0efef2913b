-- How a booking is answered, and what becomes of the desk.
use Rattle.booking_desk.proofs.Common.{◌≡◌, ℕ, ◌<◌, ◌≤◌, Bool, true, false, eqb, leb, ltb, List, [], ◌∷◌, ◌++◌, length, is_some, refl, sym, ap, ◌∙◌, arith, keys_of, lookup, Command, Held, Now, Refused, Booking, DeskState, is_booked, put_in, reply_to_book, request_id, after_book, after_reply}

-- a look-up finds an id where it was booked
booked-found : (id : ℕ) (booked : List (ℕ × ℕ)) → is_booked id (keys_of booked) ≡ is_some (lookup (eqb id) booked)
booked-found id [] = refl
booked-found id (e ∷ booked) = by (booked-found id booked) (eqb id e.0) refl
  where
    by : is_booked id (keys_of booked) ≡ is_some (lookup (eqb id) booked) → (b : Bool) → eqb id e.0 ≡ b
        → is_booked id (keys_of (e ∷ booked)) ≡ is_some (lookup (eqb id) (e ∷ booked))
    by ih true at = rw at refl
    by ih false at = rw at ih

-- whether the id of a request was booked, from a look-up
pub known : (desk : DeskState) (booked : List (ℕ × ℕ)) (request : Command) (id : ℕ) (found : Bool) → keys_of booked ≡ desk.booked
    → id ≡ request_id request → found ≡ is_some (lookup (eqb id) booked) → is_booked (request_id request) desk.booked ≡ found
known desk booked request id found keys is looked =
    ap (λ n. is_booked n desk.booked) (sym is) ∙ ap (is_booked id) (sym keys) ∙ booked-found id booked ∙ sym looked

module _ (desk : DeskState) (release : ℕ) (request : Command) where
  pub refused-late : 1000000000 < release → reply_to_book desk release request ≡ Refused 20
  refused-late late =
      let range : ltb 1000000000 release ≡ true = grind arith in
      rw range refl

  pub refused-again : release ≤ 1000000000 → is_booked (request_id request) desk.booked ≡ true
      → reply_to_book desk release request ≡ Refused 19
  refused-again in_range booked =
      let range : ltb 1000000000 release ≡ false = grind arith in
      rw (range, booked) refl

  pub refused-full : release ≤ 1000000000 → is_booked (request_id request) desk.booked ≡ false
      → desk.most ≤ length desk.booked → reply_to_book desk release request ≡ Refused 22
  refused-full in_range booked full =
      let range : ltb 1000000000 release ≡ false = grind arith in
      let is_full : leb desk.most (length desk.booked) ≡ true = grind arith in
      rw (range, booked, is_full) refl

  pub made-now : release ≤ 1000000000 → is_booked (request_id request) desk.booked ≡ false
      → length desk.booked < desk.most → release ≤ desk.clock → reply_to_book desk release request ≡ Now
  made-now in_range booked room past =
      let range : ltb 1000000000 release ≡ false = grind arith in
      let not_full : leb desk.most (length desk.booked) ≡ false = grind arith in
      let is_past : leb release desk.clock ≡ true = grind arith in
      rw (range, booked, not_full, is_past) refl

  pub made-held : release ≤ 1000000000 → is_booked (request_id request) desk.booked ≡ false
      → length desk.booked < desk.most → desk.clock < release → reply_to_book desk release request ≡ Held
  made-held in_range booked room ahead =
      let range : ltb 1000000000 release ≡ false = grind arith in
      let not_full : leb desk.most (length desk.booked) ≡ false = grind arith in
      let is_ahead : leb release desk.clock ≡ false = grind arith in
      rw (range, booked, not_full, is_ahead) refl

  pub after-refusal : (code : ℕ) → reply_to_book desk release request ≡ Refused code → desk ≡ after_book desk release request
  after-refusal code is = sym (ap (λ reply. after_reply reply desk release request) is)

  pub after-now : (view : DeskState) (booked : List ℕ) → view ≡ desk → booked ≡ desk.booked ++ request_id request ∷ []
      → reply_to_book desk release request ≡ Now → record view { booked = booked } ≡ after_book desk release request
  after-now view booked viewed more is =
      ap (λ (d : DeskState). record d { booked = booked }) viewed ∙ ap (λ ids. record desk { booked = ids }) more
      ∙ sym (ap (λ reply. after_reply reply desk release request) is)

  pub after-held : (view : DeskState) (booked : List ℕ) (held : List Booking) → view ≡ desk
      → booked ≡ desk.booked ++ request_id request ∷ []
      → held ≡ put_in (record { release = release; request = request }) desk.held
      → reply_to_book desk release request ≡ Held → record view { booked = booked; held = held } ≡ after_book desk release request
  after-held view booked held viewed more put is =
      ap (λ (d : DeskState). record d { booked = booked; held = held }) viewed
      ∙ ap (λ ids. record desk { booked = ids; held = held }) more
      ∙ ap (λ bookings. record desk { booked = desk.booked ++ request_id request ∷ []; held = bookings }) put
      ∙ sym (ap (λ reply. after_reply reply desk release request) is)
