-- What is due at a desk.
use Rattle.booking_desk.proofs.Common.{◌≡◌, true, leb, List, [], ◌∷◌, ◌++◌, Option, Some, None, refl, sym, ap, subst, ◌∙◌, append_assoc, append-nil, option_map, IfSome, option_map_or, Command, Booking, DeskState, id_of, MOST_REQUESTS, after_take, after_unbook, due_of, AreDue, with_due, DeskCall, clock_of, desk_after}
use Rattle.booking_desk.proofs.Moments.{due-first, none-else}

-- the booking of which a request is
pub booking-of : (o : Option Booking) (request : Command) → option_map (λ (b : Booking). b.request) o ≡ Some request
    → (b : Booking) × (o ≡ Some b) × (b.request ≡ request)
booking-of None request is = absurd (cc is)
booking-of (Some b) request is = (b, refl, cc is)

pub none-of : (o : Option Booking) → option_map (λ (b : Booking). b.request) o ≡ None → o ≡ None
none-of None is = refl
none-of (Some b) is = absurd (cc is)

-- taking the first booking changes nothing else
pub taken-rest : (desk new : DeskState) (b : Booking) → due_of desk ≡ Some b → new ≡ after_take desk → new ≡ record desk { held = new.held }
taken-rest desk new b due is =
    let taken : new ≡ after_unbook desk (id_of b) =
    is ∙ ap (λ (o : Option Booking). option_map_or (λ (x : Booking). after_unbook desk (id_of x)) o desk) due in
    taken ∙ ap (λ bs. record desk { held = bs }) (sym (ap (λ (d : DeskState). d.held) taken))

-- the first booking that is due is taken
pub first-taken_due : (calls : List DeskCall) (b : Booking) (due : List Booking) (desk new : DeskState) → desk ≡ with_due calls (b ∷ due)
    → leb b.release (clock_of calls) ≡ true → new ≡ after_take desk → IfSome (due_of desk) (λ (x : Booking). desk.held ≡ x ∷ new.held)
    → new ≡ with_due calls due
first-taken_due calls b due desk new is late taken stood =
    let found : due_of desk ≡ Some b = ap due_of is ∙ due-first MOST_REQUESTS calls b due late in
    let left : desk.held ≡ b ∷ new.held = subst (λ (o : Option Booking). IfSome o (λ (x : Booking). desk.held ≡ x ∷ new.held)) found stood in
    let both : b ∷ new.held ≡ b ∷ due ++ (desk_after MOST_REQUESTS calls).held = sym left ∙ ap (λ (d : DeskState). d.held) is in
    let held : new.held ≡ due ++ (desk_after MOST_REQUESTS calls).held = cc both in
    taken-rest desk new b found taken
    ∙ ap (λ (d : DeskState). record d { held = new.held }) is
    ∙ ap (λ bs. record (with_due calls due) { held = bs }) held

-- the first of the bookings that were due are gone
pub record Releases (calls : List DeskCall) (due : List Booking) (desk : DeskState) (Gives : List Booking → Type 0) : Type 0 where
  pub gone : List Booking
  pub left : List Booking
  pub parts : due ≡ gone ++ left
  pub desk_is : desk ≡ with_due calls left
  pub late : AreDue (clock_of calls) left
  pub gives : Gives gone

module _ (calls : List DeskCall) (due : List Booking) (desk : DeskState) (Gives : List Booking → Type 0) (so_far : Releases calls due desk Gives) where
  -- one more is gone
  pub release-step : (new : DeskState) (request : Command) (After : List Booking → Type 0)
      → option_map (λ (b : Booking). b.request) (due_of desk) ≡ Some request → new ≡ after_take desk
      → IfSome (due_of desk) (λ (b : Booking). desk.held ≡ b ∷ new.held)
      → ((gone : List Booking) (b : Booking) → b.request ≡ request → Gives gone → After (gone ++ b ∷ []))
      → Releases calls due new After
  release-step new request After is taken stood more = by so_far.left so_far.parts so_far.desk_is so_far.late
    where
      found : (b : Booking) × (due_of desk ≡ Some b) × (b.request ≡ request)
      found = booking-of (due_of desk) request is

      by : (left : List Booking) → due ≡ so_far.gone ++ left → desk ≡ with_due calls left → AreDue (clock_of calls) left → Releases calls due new After
      by [] parts now late =
          absurd (let none : due_of desk ≡ None = ap due_of now ∙ none-else MOST_REQUESTS calls in let some : due_of desk ≡ Some found.0 = found.1 in cc)
      by (b ∷ left) parts now (first, late) =
          let first_is : due_of desk ≡ Some b = ap due_of now ∙ due-first MOST_REQUESTS calls b left first in
          let same : Some found.0 ≡ Some b = sym found.1 ∙ first_is in
          let here : found.0 ≡ b = cc same in
          record {
            gone = so_far.gone ++ b ∷ [];
            left = left;
            parts = parts ∙ sym (append_assoc so_far.gone (b ∷ []) left);
            desk_is = first-taken_due calls b left desk new now first taken stood;
            late = late;
            gives = more so_far.gone b (ap (λ (x : Booking). x.request) (sym here) ∙ found.2) so_far.gives;
          }

  -- where none is due any more, all are gone
  pub release-done : due_of desk ≡ None → (desk ≡ desk_after MOST_REQUESTS calls) × Gives due
  release-done none = by so_far.left so_far.parts so_far.desk_is so_far.late
    where
      by : (left : List Booking) → due ≡ so_far.gone ++ left → desk ≡ with_due calls left → AreDue (clock_of calls) left
          → (desk ≡ desk_after MOST_REQUESTS calls) × Gives due
      by [] parts now late = (now, subst Gives (sym (parts ∙ append-nil so_far.gone)) so_far.gives)
      by (b ∷ left) parts now (first, late) =
          absurd (let some : due_of desk ≡ Some b = ap due_of now ∙ due-first MOST_REQUESTS calls b left first in cc)
