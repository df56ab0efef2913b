use Rattle.booking_desk.proofs.Common.{◌≡◌, ◌≤◌, Some, None, eqb, length, sym, ap, subst, ◌∙◌, is_some, arith, keys_of, lookup, recursion_from_All, All-from_recursion, none_from_not_some, DeskState, is_held, after_unbook, IsHeldEntry}
use Rattle.booking_desk.proofs.HeldEntries.{others-not_held, others-stay, unbooked-others, removed, left-kept}
use Rattle.booking_desk.proofs.desk.BookingDesk.unbook.Goals as goal

pub returns-in_default-clause-held : goal.returns-in_default-clause-held
returns-in_default-clause-held c =
    let booked = c.self.inside.booked.entries in
    let entries = c.self.inside.held.entries in
    let kept = recursion_from_All (IsHeldEntry booked) entries c.self.invariant.entries in
    let none : lookup (eqb c.args.id) booked ≡ None =
    sym c.get.ensures.value ∙ sym c.copied.ensures ∙ none_from_not_some c.copied.result c.in_default.not-Some in
    sym (ap (λ (d : DeskState). is_held c.args.id d.held) (sym c.self.view_is)
    ∙ others-not_held c.args.id entries (unbooked-others booked c.args.id none entries kept))

pub returns-in_default-clause-unbooked : goal.returns-in_default-clause-unbooked
returns-in_default-clause-unbooked c =
    let booked = c.self.inside.booked.entries in
    let entries = c.self.inside.held.entries in
    let kept = recursion_from_All (IsHeldEntry booked) entries c.self.invariant.entries in
    let none : lookup (eqb c.args.id) booked ≡ None =
    sym c.get.ensures.value ∙ sym c.copied.ensures ∙ none_from_not_some c.copied.result c.in_default.not-Some in
    let stay = others-stay c.args.id entries (unbooked-others booked c.args.id none entries kept) in
    let P : DeskState → Type 0 = λ d. d ≡ after_unbook d c.args.id in
    subst P c.self.view_is (ap (λ bs. record { most = c.self.inside.most; clock = c.self.inside.clock; booked = keys_of booked; held = bs }) (sym stay))

pub invariant_of-self : goal.invariant_of-self
invariant_of-self c =
    let booked = c.self.inside.booked.entries in
    let entries = c.self.inside.held.entries in
    let kept = recursion_from_All (IsHeldEntry booked) entries c.self.invariant.entries in
    let fewer : length c.remove.new.self.entries ≤ length entries = omega (arith, c.remove.ensures.len) in
    record {
      few = c.self.invariant.few;
      most_few = c.self.invariant.most_few;
      few_held = omega arith;
      in_order = c.remove.ensures.ordered;
      entries = rw c.remove.ensures.entries (All-from_recursion (IsHeldEntry booked) _ (left-kept booked _ entries kept));
    }

pub returns-clause-held : goal.returns-clause-held
returns-clause-held c =
    let booked = c.self.inside.booked.entries in
    let entries = c.self.inside.held.entries in
    let kept = recursion_from_All (IsHeldEntry booked) entries c.self.invariant.entries in
    let found : lookup (eqb c.args.id) booked ≡ Some c.in-Some.release = sym c.get.ensures.value ∙ sym c.copied.ensures ∙ c.in-Some.is in
    c.is_some.ensures ∙ ap is_some c.remove.ensures.value
    ∙ (removed booked c.args.id c.in-Some.release found entries c.self.invariant.in_order kept).1
    ∙ ap (λ (d : DeskState). is_held c.args.id d.held) c.self.view_is

pub returns-clause-unbooked : goal.returns-clause-unbooked
returns-clause-unbooked c =
    let booked = c.self.inside.booked.entries in
    let entries = c.self.inside.held.entries in
    let kept = recursion_from_All (IsHeldEntry booked) entries c.self.invariant.entries in
    let found : lookup (eqb c.args.id) booked ≡ Some c.in-Some.release = sym c.get.ensures.value ∙ sym c.copied.ensures ∙ c.in-Some.is in
    let gone = (removed booked c.args.id c.in-Some.release found entries c.self.invariant.in_order kept).0 in
    rw (c.remove.ensures.entries, gone) (ap (λ (d : DeskState). after_unbook d c.args.id) c.self.view_is)
