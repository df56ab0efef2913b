use Rattle.booking_desk.proofs.Common.{◌≡◌, ◌++◌, false, List, ℕ, Option, Some, None, sym, ap, subst, ◌∙◌, fields_of, is_over_long, call_of_fields, calls_in, over_long_line, released_text, with_lf, PutsOn, DeskCall, book, clock, unbook, MOST_REQUESTS, released_at}
use Rattle.booking_desk.specs.declared.asked.Asked.{Asked}
use Rattle.booking_desk.specs.inner.Asked.{as_call}
use Rattle.booking_desk.proofs.BookedLines.{over_long-take, short-whole, takes-book, takes-clock, takes-over, takes-plain, takes-unbook}
use Rattle.booking_desk.proofs.PagePuts.{puts-kept, puts-more}
use Rattle.booking_desk.proofs.feed_desk.BookingDeskLineTaker.take_line.Goals as goal

pub returns-then-over-clause-taken : goal.returns-then-over-clause-taken
returns-then-over-clause-taken c first lines text whole has numbered line over =
    takes-over lines text c.args.self.now whole c.args.number has numbered c.put_over_long.result c.args.page.now.text c.put_over_long.new.page.text
    (sym over ∙ c.if-over.true)
    (subst (λ (l : List ℕ). PutsOn c.put_over_long.result c.args.page.now.text c.put_over_long.new.page.text l)
    (ap over_long_line line ∙ over_long-take whole) c.put_over_long.ensures)

pub returns-then-over-clause-kept : goal.returns-then-over-clause-kept
returns-then-over-clause-kept c =
    puts-kept c.put_over_long.result c.args.page.now.text c.put_over_long.new.page.text (over_long_line c.args.line.now) c.put_over_long.ensures

pub returns-in-None-clause-taken : goal.returns-in-None-clause-taken
returns-in-None-clause-taken c first lines text whole has numbered line over =
    let short : is_over_long whole ≡ false = sym over ∙ c.if-over.false in
    let is : c.args.line.now ≡ whole = short-whole c.args.line.now whole line short in
    let asked : ◌≡◌ {A = Option DeskCall} None (call_of_fields (fields_of whole)) = c.in-None.ensures.call ∙ ap (λ l. call_of_fields (fields_of l)) is in
    takes-plain lines text c.args.self.now whole c.args.number has numbered short c.put_line.result c.args.page.now.text c.put_line.new.page.text c.args.self.now asked
    (subst (λ (l : List ℕ). PutsOn c.put_line.result c.args.page.now.text c.put_line.new.page.text (with_lf l)) is c.put_line.ensures)

pub returns-in-Some-Book-clause-taken : goal.returns-in-Some-Book-clause-taken
returns-in-Some-Book-clause-taken c first lines text whole has numbered line over =
    let short : is_over_long whole ≡ false = sym over ∙ c.if-over.false in
    let is : c.args.line.now ≡ whole = short-whole c.args.line.now whole line short in
    let asked : Some (book c.in-Some-Book.release c.in-Some-Book.request) ≡ call_of_fields (fields_of whole)
    = ap (λ (a : Asked). Some (as_call a)) (sym c.in-Some-Book.field-0-is) ∙ c.in-Some-Book.ensures.call ∙ ap (λ l. call_of_fields (fields_of l)) is in
    takes-book lines text c.args.self.now whole c.args.number has numbered short c.book.result c.args.page.now.text c.book.new.page.text c.book.new.desk
    c.in-Some-Book.release c.in-Some-Book.request asked c.book.ensures.desk c.book.ensures.spelled c.book.ensures.put

pub returns-in-Some-Unbook-clause-taken : goal.returns-in-Some-Unbook-clause-taken
returns-in-Some-Unbook-clause-taken c first lines text whole has numbered line over =
    let short : is_over_long whole ≡ false = sym over ∙ c.if-over.false in
    let is : c.args.line.now ≡ whole = short-whole c.args.line.now whole line short in
    let asked : Some (unbook c.in-Some-Unbook.id) ≡ call_of_fields (fields_of whole)
    = ap (λ (a : Asked). Some (as_call a)) (sym c.in-Some-Unbook.field-0-is) ∙ c.in-Some-Unbook.ensures.call ∙ ap (λ l. call_of_fields (fields_of l)) is in
    takes-unbook lines text c.args.self.now whole c.args.number has numbered short c.unbook.result c.args.page.now.text c.unbook.new.page.text c.unbook.new.desk
    c.in-Some-Unbook.id asked c.unbook.ensures.desk c.unbook.ensures.spelled c.unbook.ensures.put

pub returns-in_ok-put_line-in-Some-Clock-clause-taken : goal.returns-in_ok-put_line-in-Some-Clock-clause-taken
returns-in_ok-put_line-in-Some-Clock-clause-taken c first lines text whole has numbered line over =
    let short : is_over_long whole ≡ false = sym over ∙ c.if-over.false in
    let is : c.args.line.now ≡ whole = short-whole c.args.line.now whole line short in
    let asked : Some (clock c.in-Some-Clock.time) ≡ call_of_fields (fields_of whole)
    = ap (λ (a : Asked). Some (as_call a)) (sym c.in-Some-Clock.field-0-is) ∙ c.in-Some-Clock.ensures.call ∙ ap (λ l. call_of_fields (fields_of l)) is in
    takes-clock lines text c.args.self.now whole c.args.number has numbered short c.set_clock.result c.args.page.now.text c.set_clock.new.page.text c.set_clock.new.desk
    c.in-Some-Clock.time asked (c.set_clock.ensures.desk (calls_in lines) has.desk_is) c.set_clock.ensures.spelled
    (puts-more c.set_clock.result c.args.page.now.text c.put_line-in-Some-Clock.new.page.text c.set_clock.new.page.text (with_lf whole)
    (released_text (released_at MOST_REQUESTS (calls_in lines) c.in-Some-Clock.time))
    (c.in_ok-put_line-in-Some-Clock.ensures ∙ ap (λ l. c.args.page.now.text ++ with_lf l) is)
    (c.set_clock.ensures.put (calls_in lines) has.desk_is))
