-- What a desk has submitted so far.
use Rattle.booking_desk.proofs.Common.{◌≡◌, ℕ, ◌≤◌, ◌+◌, Bool, true, false, leb, List, [], ◌∷◌, ◌++◌, Some, None, length, All, refl, sym, ap, subst, ◌∙◌, arith, append_assoc, append-nil, filter, find, AllByRecursion, AllZip, length-append, All-rest, filter-append, filter_map-append, Feed, Entry, Fed, Reply, command_of, IsSpelledCommand, Known, AddsEntry, AddsNone, commands_in, root_of, Booking, DeskState, after_take, due_of, is_due, filter-all, each-append, found_among}
use Rattle.turn_lock.proofs.Lists.{prefix_self, prefix_trans}
use Rattle.booking_desk.specs.inner.Releases.{HasSubmitted, IsAnswerTo, all_due}
use Rattle.booking_desk.proofs.Due.{taken-rest}

-- these bookings were due and are submitted, and few enough are left
pub record ReleasesSoFar (desk new_desk : DeskState) (pass new_pass : Known) (count : ℕ) : Type 0 where
  pub released : List Booking
  pub submitted : HasSubmitted desk new_desk pass new_pass released
  pub due : AllByRecursion (λ (b : Booking). leb b.release desk.clock ≡ true) released
  pub counted : count ≡ length released
  pub spelled : All (λ (b : Booking). IsSpelledCommand (root_of new_pass).start.settings.log b.request) new_desk.held
  pub few : length (commands_in new_pass.own) ≤ 900000000 + count
  pub most : count + length new_desk.held ≤ 100000

none-due : (p : Booking → Bool) (bs : List Booking) → find p bs ≡ None → filter p bs ≡ []
none-due p [] h = refl
none-due p (b ∷ bs) h = by (none-due p bs) (p b) refl
  where
    by : (find p bs ≡ None → filter p bs ≡ []) → (x : Bool) → p b ≡ x → filter p (b ∷ bs) ≡ []
    by ih true at = absurd (let some : Some b ≡ None = rw at at h in cc)
    by ih false at = rw at (ih (rw at at h))

pub releases-none : (desk : DeskState) (pass : Known) → length (commands_in pass.own) ≤ 900000000 → length desk.held ≤ 100000
    → All (λ (b : Booking). IsSpelledCommand (root_of pass).start.settings.log b.request) desk.held → ReleasesSoFar desk desk pass pass 0
releases-none desk pass few most spelled = record {
  released = [];
  submitted = record {
    answers = [];
    own_is = sym (append-nil pass.own);
    answered = tt;
    goes_on = prefix_self pass.seen;
    rest = refl;
    held_were = refl;
    desk_rest = refl;
  };
  due = tt;
  counted = refl;
  spelled = spelled;
  few = omega arith;
  most = omega arith;
}

zip-push : {A B : Type 0} (R : A → B → Type 0) (xs : List A) (ys : List B) (x : A) (y : B) → AllZip R xs ys → R x y
    → AllZip R (xs ++ x ∷ []) (ys ++ y ∷ [])
zip-push R [] [] x y h here = (here, tt)
zip-push R [] (z ∷ ys) x y h here = absurd h
zip-push R (z ∷ xs) [] x y h here = absurd h
zip-push R (z ∷ xs) (w ∷ ys) x y (first, h) here = (first, zip-push R xs ys x y h here)

module _ (desk now : DeskState) (pass seen : Known) (count : ℕ) (so_far : ReleasesSoFar desk now pass seen count) where
  clock-is : now.clock ≡ desk.clock
  clock-is = ap (λ (d : DeskState). d.clock) so_far.submitted.desk_rest

  number-is : seen.number ≡ pass.number
  number-is = ap (λ (k : Known). k.number) so_far.submitted.rest

  -- one more was submitted and taken
  pub releases-more : (b : Booking) (reply : Reply) (next : DeskState) (after : Known) → due_of now ≡ Some b
      → AddsEntry seen after (record { actor = Feed seen.number; event = Fed b.request reply })
      → next ≡ after_take now → now.held ≡ b ∷ next.held → ReleasesSoFar desk next pass after (count + 1)
  releases-more b reply next after due adds taken stood =
      let done = so_far.released in
      let entry : Entry = record { actor = Feed seen.number; event = Fed b.request reply } in
      let (between, is) = adds.appends.goes_on in
      let answer : IsAnswerTo pass.number b entry = (reply, ap (λ n. record { actor = Feed n; event = Fed b.request reply }) number-is) in
      let more : length (commands_in after.own) ≡ length (commands_in seen.own) + 1 =
      ap (λ own. length (commands_in own)) adds.appends.own_grows
      ∙ ap length (filter_map-append (λ (e : Entry). command_of e.event) seen.own (entry ∷ []))
      ∙ length-append (commands_in seen.own) (b.request ∷ []) in
      let left : length now.held ≡ length next.held + 1 = ap length stood ∙ omega arith in
      record {
        released = done ++ b ∷ [];
        submitted = record {
          answers = so_far.submitted.answers ++ entry ∷ [];
          own_is = adds.appends.own_grows ∙ ap (λ (own : List Entry). own ++ entry ∷ []) so_far.submitted.own_is
              ∙ append_assoc pass.own so_far.submitted.answers (entry ∷ []);
          answered = zip-push (IsAnswerTo pass.number) done so_far.submitted.answers b entry so_far.submitted.answered answer;
          goes_on = prefix_trans pass.seen seen.seen after.seen so_far.submitted.goes_on
              (between ++ entry ∷ [], sym (append_assoc seen.seen between (entry ∷ [])) ∙ sym is);
          rest = adds.rest ∙ ap (λ (x : Known). record x { seen = after.seen; own = after.own }) so_far.submitted.rest;
          held_were = so_far.submitted.held_were ∙ ap (λ bs. done ++ bs) stood ∙ sym (append_assoc done (b ∷ []) next.held);
          desk_rest = taken-rest now next b due taken ∙ ap (λ (d : DeskState). record d { held = next.held }) so_far.submitted.desk_rest;
        };
        due = each-append (λ (x : Booking). leb x.release desk.clock ≡ true) done (b ∷ []) so_far.due
            (subst (λ n. leb b.release n ≡ true) clock-is (found_among (is_due now.clock) now.held b due).1, tt);
        counted = ap (λ n. n + 1) so_far.counted ∙ sym (length-append done (b ∷ []));
        spelled = subst (λ (k : Known). All (λ (x : Booking). IsSpelledCommand (root_of k).start.settings.log x.request) next.held) (sym adds.rest)
            (All-rest (λ (x : Booking). IsSpelledCommand (root_of seen).start.settings.log x.request) b next.held now.held stood so_far.spelled);
        few = omega (arith, more, so_far.few);
        most = omega (arith, left, so_far.most);
      }

  -- what is due is what was submitted and what is still due
  due-parts : all_due desk ≡ so_far.released ++ filter (is_due desk.clock) now.held
  due-parts =
      ap (filter (is_due desk.clock)) so_far.submitted.held_were
      ∙ filter-append (is_due desk.clock) so_far.released now.held
      ∙ ap (λ bs. bs ++ filter (is_due desk.clock) now.held) (filter-all (is_due desk.clock) so_far.released so_far.due)

  pub all-released : due_of now ≡ None → so_far.released ≡ all_due desk
  all-released none =
      let rest : filter (is_due desk.clock) now.held ≡ [] =
      ap (λ n. filter (is_due n) now.held) (sym clock-is) ∙ none-due (is_due now.clock) now.held none in
      sym (due-parts ∙ ap (λ bs. so_far.released ++ bs) rest ∙ append-nil so_far.released)

  pub some-released : (left : List Booking) × (all_due desk ≡ so_far.released ++ left)
  some-released = (filter (is_due desk.clock) now.held, due-parts)

  -- where memory was wanting, the pass has only seen more
  pub submitted-none : (after : Known) → AddsNone seen after → HasSubmitted desk now pass after so_far.released
  submitted-none after adds =
      let (between, is) = adds.sees.goes_on in
      record {
        answers = so_far.submitted.answers;
        own_is = adds.sees.own_stays ∙ so_far.submitted.own_is;
        answered = so_far.submitted.answered;
        goes_on = prefix_trans pass.seen seen.seen after.seen so_far.submitted.goes_on (between, sym is);
        rest = adds.rest ∙ ap (λ (x : Known). record x { seen = after.seen }) so_far.submitted.rest
            ∙ (λ i. record pass { seen = after.seen; own = sym adds.sees.own_stays i });
        held_were = so_far.submitted.held_were;
        desk_rest = so_far.submitted.desk_rest;
      }
