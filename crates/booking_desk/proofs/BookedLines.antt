-- What the lines of a feed ask and give, one after the other.
use Rattle.booking_desk.proofs.Common.{◌≡◌, ℕ, ◌+◌, Bool, true, false, cond, List, [], ◌∷◌, ◌++◌, Option, Some, None, length, take, take_all, refl, ap, sym, subst, ◌∙◌, append_assoc, append-nil, arith, filter, nat_lt, ◌≤◌, OnOk, Result, Ok, Err, cons_option, flat_map_more, filter_map-append, fields_of, is_over_long, Command, IsSpelledCommand, BookReply, Held, Now, Refused, call_of, call_of_fields, calls_in, asked_text, over_long_line, part_of, parts_after, refusal_line, released_text, reply_text, request_line, text_of_lines, with_lf, Booking, DeskState, is_before, is_held, reply_to_book, MOST_REQUESTS, IsRequest, after_book, after_reply, after_unbook, AreSpelled, HasBooked, IsSpelledBooking, PutsOn, new_desk, DeskCall, book, unbook, clock, desk_after, released_at, each-append, each-filter}
use Rattle.booking_desk.proofs.AfterCalls.{booked-is, unbooked-is}

-- a fact, where a call went well
on-ok : {T E A : Type 0} (r : Result T E) → A → OnOk r A
on-ok (Ok x) fact = fact
on-ok (Err e) fact = tt

on-ok-then : {T E A B : Type 0} (r : Result T E) → (A → B) → OnOk r A → OnOk r B
on-ok-then (Ok x) then fact = then fact
on-ok-then (Err e) then fact = tt

pub over_long-take : (line : List ℕ) → over_long_line (take 200 line) ≡ over_long_line line
over_long-take [] = refl
over_long-take (b ∷ line) = refl

-- what is held after a booking has a text
pub spelled-book : (desk : DeskState) (release : ℕ) (request : Command) → IsRequest request → IsSpelledCommand 2 request → AreSpelled desk.held
    → AreSpelled (after_book desk release request).held
spelled-book desk release request is spelled held = by (reply_to_book desk release request)
  where
    booking : Booking
    booking = record { release = release; request = request }

    by : (reply : BookReply) → AreSpelled (after_reply reply desk release request).held
    by Now = held
    by (Refused code) = held
    by Held =
        each-append IsSpelledBooking (filter (λ other. is_before other booking) desk.held) (booking ∷ filter (λ other. is_before booking other) desk.held)
        (each-filter IsSpelledBooking (λ other. is_before other booking) desk.held held)
        (record { request = is; spelled = spelled }, each-filter IsSpelledBooking (λ other. is_before booking other) desk.held held)

-- what lines give, and one more
parts-push : (before lines : List (List ℕ)) (line : List ℕ) → parts_after before (lines ++ line ∷ [])
    ≡ parts_after before lines ++ part_of (calls_in (before ++ lines)) (length (before ++ lines) + 1) line
unfolding parts_after
parts-push before [] line =
    append-nil (part_of (calls_in before) (length before + 1) line)
    ∙ ap (λ ls. part_of (calls_in ls) (length ls + 1) line) (sym (append-nil before))
parts-push before (first ∷ lines) line =
    let rest : parts_after (before ++ first ∷ []) (lines ++ line ∷ [])
    ≡ parts_after (before ++ first ∷ []) lines ++ part_of (calls_in (before ++ first ∷ lines)) (length (before ++ first ∷ lines) + 1) line
    = parts-push (before ++ first ∷ []) lines line
    ∙ ap (λ ls. parts_after (before ++ first ∷ []) lines ++ part_of (calls_in ls) (length ls + 1) line) (append_assoc before (first ∷ []) lines) in
    ap (λ t. part_of (calls_in before) (length before + 1) first ++ t) rest
    ∙ sym (append_assoc (part_of (calls_in before) (length before + 1) first) (parts_after (before ++ first ∷ []) lines)
    (part_of (calls_in (before ++ first ∷ lines)) (length (before ++ first ∷ lines) + 1) line))

pub text-push : (lines : List (List ℕ)) (line : List ℕ) → text_of_lines (lines ++ line ∷ [])
    ≡ text_of_lines lines ++ part_of (calls_in lines) (length lines + 1) line
text-push lines line = parts-push [] lines line

-- what an over-long line asks and gives
pub calls-over_long : (lines : List (List ℕ)) (line : List ℕ) → is_over_long line ≡ true → calls_in (lines ++ line ∷ []) ≡ calls_in lines
calls-over_long lines line over =
    filter_map-append call_of lines (line ∷ [])
    ∙ ap (λ (v : Bool). calls_in lines ++ cons_option (cond v None (call_of_fields (fields_of line))) []) over
    ∙ append-nil (calls_in lines)

pub part-over_long : (calls : List DeskCall) (number : ℕ) (line : List ℕ) → is_over_long line ≡ true → part_of calls number line ≡ over_long_line line
part-over_long calls number line over = ap (λ (v : Bool). cond v (over_long_line line) (asked_text calls number line (call_of line))) over

-- what a line asks and gives that is not over-long
module _ (line : List ℕ) (short : is_over_long line ≡ false) where
  call-is : call_of line ≡ call_of_fields (fields_of line)
  call-is = ap (λ (v : Bool). cond v None (call_of_fields (fields_of line))) short

  pub calls-short : (lines : List (List ℕ)) (asked : Option DeskCall) → asked ≡ call_of_fields (fields_of line)
      → calls_in (lines ++ line ∷ []) ≡ calls_in lines ++ cons_option asked []
  calls-short lines asked is =
      filter_map-append call_of lines (line ∷ []) ∙ ap (λ (o : Option DeskCall). calls_in lines ++ cons_option o []) (call-is ∙ sym is)

  pub part-short : (calls : List DeskCall) (number : ℕ) (asked : Option DeskCall) → asked ≡ call_of_fields (fields_of line)
      → part_of calls number line ≡ asked_text calls number line asked
  part-short calls number asked is =
      ap (λ (v : Bool). cond v (over_long_line line) (asked_text calls number line (call_of line))) short
      ∙ ap (asked_text calls number line) (call-is ∙ sym is)

-- a line that is not over-long is shown whole
pub short-whole : (line whole : List ℕ) → line ≡ take 200 whole → is_over_long whole ≡ false → line ≡ whole
short-whole line whole is short = is ∙ take_all 200 whole (nat_lt_false-le 200 (length whole) short)
  where
    nat_lt_false-le : (a b : ℕ) → nat_lt a b ≡ false → b ≤ a
    nat_lt_false-le a b h = grind arith

-- one more line was booked
module _ (lines : List (List ℕ)) (text : List ℕ) (desk : DeskState) (whole : List ℕ) (number : ℕ) (has : HasBooked lines text desk)
    (numbered : number ≡ length lines + 1) where
  -- what is on a page then, where memory was not wanting
  abbrev pub TakesIt : List ℕ → List ℕ → DeskState → Type 0
  TakesIt before after new = (more : List ℕ) × (after ≡ before ++ more) × HasBooked (lines ++ whole ∷ []) (text ++ more) new

  pub takes-part : {T E : Type 0} (r : Result T E) (before after part : List ℕ) (new : DeskState) → part ≡ part_of (calls_in lines) (length lines + 1) whole
      → OnOk r (new ≡ desk_after MOST_REQUESTS (calls_in (lines ++ whole ∷ []))) → OnOk r (AreSpelled new.held) → PutsOn r before after part
      → OnOk r (TakesIt before after new)
  takes-part (Err e) before after part new is after_is spelled put = tt
  takes-part (Ok x) before after part new is after_is spelled put = (
    part,
    put,
    record {
      text_is = (λ i. has.text_is i ++ is i) ∙ sym (text-push lines whole);
      desk_is = after_is;
      spelled = spelled;
    },
  )

  pub takes-over : {T E : Type 0} (r : Result T E) (before after : List ℕ) → is_over_long whole ≡ true → PutsOn r before after (over_long_line whole)
      → OnOk r (TakesIt before after desk)
  takes-over r before after over put =
      takes-part r before after (over_long_line whole) desk (sym (part-over_long (calls_in lines) (length lines + 1) whole over))
      (on-ok r (has.desk_is ∙ ap (desk_after MOST_REQUESTS) (sym (calls-over_long lines whole over)))) (on-ok r has.spelled) put

  -- what it asks
  module _ (short : is_over_long whole ≡ false) (asked : Option DeskCall) (is : asked ≡ call_of_fields (fields_of whole)) where
    part-is : asked_text (calls_in lines) number whole asked ≡ part_of (calls_in lines) (length lines + 1) whole
    part-is =
        ap (λ n. asked_text (calls_in lines) n whole asked) numbered ∙ sym (part-short whole short (calls_in lines) (length lines + 1) asked is)

    calls-are : (new : DeskState) → new ≡ desk_after MOST_REQUESTS (calls_in lines ++ cons_option asked [])
        → new ≡ desk_after MOST_REQUESTS (calls_in (lines ++ whole ∷ []))
    calls-are new after_is = after_is ∙ ap (desk_after MOST_REQUESTS) (sym (calls-short whole short lines asked is))

    pub takes-asked : {T E : Type 0} (r : Result T E) (before after : List ℕ) (new : DeskState)
        → OnOk r (new ≡ desk_after MOST_REQUESTS (calls_in lines ++ cons_option asked [])) → OnOk r (AreSpelled new.held)
        → PutsOn r before after (asked_text (calls_in lines) number whole asked) → OnOk r (TakesIt before after new)
    takes-asked (Err e) before after new after_is spelled put = tt
    takes-asked (Ok x) before after new after_is spelled put =
        takes-part {E = Unit {0}} (Ok x) before after (asked_text (calls_in lines) number whole asked) new part-is (calls-are new after_is) spelled put

  module _ (short : is_over_long whole ≡ false) {T E : Type 0} (r : Result T E) (before after : List ℕ) (new : DeskState) where
    -- a line that asks nothing
    pub takes-plain : None ≡ call_of_fields (fields_of whole) → PutsOn r before after (with_lf whole) → OnOk r (TakesIt before after desk)
    takes-plain is put =
        takes-asked short None is r before after desk
        (on-ok r (has.desk_is ∙ ap (desk_after MOST_REQUESTS) (sym (append-nil (calls_in lines))))) (on-ok r has.spelled) put

    -- a booking
    pub takes-book : (release : ℕ) (request : Command) → Some (book release request) ≡ call_of_fields (fields_of whole)
        → OnOk r (new ≡ after_book desk release request) → OnOk r (AreSpelled new.held)
        → PutsOn r before after (reply_text (reply_to_book desk release request) number request) → OnOk r (TakesIt before after new)
    takes-book release request is after_is spelled put =
        takes-asked short (Some (book release request)) is r before after new
        (on-ok-then r (λ (same : new ≡ after_book desk release request). same ∙ ap (λ (d : DeskState). after_book d release request) has.desk_is
        ∙ booked-is MOST_REQUESTS (calls_in lines) release request) after_is) spelled
        (subst (λ (d : DeskState). PutsOn r before after (reply_text (reply_to_book d release request) number request)) has.desk_is put)

    -- an unbooking
    pub takes-unbook : (id : ℕ) → Some (unbook id) ≡ call_of_fields (fields_of whole) → new ≡ after_unbook desk id → AreSpelled new.held
        → PutsOn r before after (cond (is_held id desk.held) [] (refusal_line 21 number)) → OnOk r (TakesIt before after new)
    takes-unbook id is after_is spelled put =
        takes-asked short (Some (unbook id)) is r before after new
        (on-ok r (after_is ∙ ap (λ (d : DeskState). after_unbook d id) has.desk_is ∙ unbooked-is MOST_REQUESTS (calls_in lines) id)) (on-ok r spelled)
        (subst (λ (d : DeskState). PutsOn r before after (cond (is_held id d.held) [] (refusal_line 21 number))) has.desk_is put)

    -- a moment
    pub takes-clock : (time : ℕ) → Some (clock time) ≡ call_of_fields (fields_of whole)
        → OnOk r (new ≡ desk_after MOST_REQUESTS (calls_in lines ++ clock time ∷ [])) → OnOk r (AreSpelled new.held)
        → PutsOn r before after (with_lf whole ++ released_text (released_at MOST_REQUESTS (calls_in lines) time)) → OnOk r (TakesIt before after new)
    takes-clock time is after_is spelled put = takes-asked short (Some (clock time)) is r before after new after_is spelled put

-- what was released so far, and one more
pub due-step : (text : List ℕ) (gone : List Booking) (b : Booking)
    → text ++ released_text gone ++ request_line b.request ≡ text ++ released_text (gone ++ b ∷ [])
due-step text gone b = flat_map_more (λ (x : Booking). request_line x.request) text gone b

-- no line was booked yet
pub booked-nothing : HasBooked [] [] (new_desk MOST_REQUESTS)
unfolding parts_after
booked-nothing = record { text_is = refl; desk_is = refl; spelled = tt }

-- what no lines give
pub text-nothing : text_of_lines [] ≡ []
unfolding parts_after
text-nothing = refl
