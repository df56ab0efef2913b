-- Rides and stops are the same where their fields are.
use Rattle.pricing_workers.proofs.Common.{◌≡◌, ℕ, true≢false, refl, sym, ap, rules, ◌==◌, ◌&&◌, Option, Some, None, is_some, option_eq, Decides-and, Decides-eqb, Decides-like, same_Some, Kind, Ride, Stop}
use Rattle.std.specs.Bool.{Decides}
use Rattle.ride_model.specs.contracts.vehicle.Kind.{the_type}
use denote.Enum.Bare.{sameb, same_true, true_same}

kind-decides : (a b : Kind) → Decides (sameb the_type a b) (a ≡ b)
kind-decides a b = (same_true the_type (search rules) a b, true_same the_type a b)

picked-decides : (a b : Option ℕ) → Decides (option_eq (λ x y. x == y) a b) (a ≡ b)
picked-decides None None = (λ _. refl, λ _. refl)
picked-decides None (Some y) = (λ e. absurd (true≢false (sym e)), λ e. ap is_some e)
picked-decides (Some x) None = (λ e. absurd (true≢false (sym e)), λ e. ap is_some (sym e))
picked-decides (Some x) (Some y) = Decides-like (x == y) (ap Some) (same_Some x y) (Decides-eqb x y)

-- the fields of a stop, and of a ride, by which it is compared
abbrev SameStop : Stop → Stop → Type 0
SameStop a b = (a.ride ≡ b.ride) × ((a.kind ≡ b.kind) × ((a.node ≡ b.node) × (a.leg ≡ b.leg)))

abbrev SameRide : Ride → Ride → Type 0
SameRide a b =
    (a.id ≡ b.id) × ((a.from ≡ b.from) × ((a.to ≡ b.to) × ((a.seats ≡ b.seats) × ((a.chairs ≡ b.chairs)
    × ((a.latest ≡ b.latest) × ((a.longest ≡ b.longest) × (a.picked ≡ b.picked)))))))

same-stop : (a b : Stop) → SameStop a b → a ≡ b
same-stop a b (ride, (kind, (node, leg))) =
    let copy : Stop = record { ride = a.ride; kind = a.kind; node = a.node; leg = a.leg } in
    let same : copy ≡ record { ride = b.ride; kind = b.kind; node = b.node; leg = b.leg } = rw (ride, kind, node, leg) refl in
    same

same-ride : (a b : Ride) → SameRide a b → a ≡ b
same-ride a b (id, (from, (to, (seats, (chairs, (latest, (longest, picked))))))) =
    let copy : Ride = record {
      id = a.id;
      from = a.from;
      to = a.to;
      seats = a.seats;
      chairs = a.chairs;
      latest = a.latest;
      longest = a.longest;
      picked = a.picked;
    } in
    let same : copy ≡ record {
      id = b.id;
      from = b.from;
      to = b.to;
      seats = b.seats;
      chairs = b.chairs;
      latest = b.latest;
      longest = b.longest;
      picked = b.picked;
    } = rw (id, from, to, seats, chairs, latest, longest, picked) refl in
    same

-- two stops are the same where their fields are
pub stop-decides : (a b : Stop)
    → Decides ((a.ride == b.ride) && (sameb the_type a.kind b.kind && ((a.node == b.node) && (a.leg == b.leg)))) (a ≡ b)
stop-decides a b = Decides-like _ (same-stop a b)
    (λ e. rw e (refl, (refl, (refl, refl))))
    (Decides-and _ _ (Decides-eqb a.ride b.ride) (Decides-and _ _ (kind-decides a.kind b.kind)
    (Decides-and _ _ (Decides-eqb a.node b.node) (Decides-eqb a.leg b.leg))))

-- two rides are the same where their fields are
pub ride-decides : (a b : Ride)
    → Decides ((a.id == b.id) && ((a.from == b.from) && ((a.to == b.to) && ((a.seats == b.seats) && ((a.chairs == b.chairs)
    && ((a.latest == b.latest) && ((a.longest == b.longest) && option_eq (λ x y. x == y) a.picked b.picked))))))) (a ≡ b)
ride-decides a b = Decides-like _ (same-ride a b)
    (λ e. rw e (refl, (refl, (refl, (refl, (refl, (refl, (refl, refl))))))))
    (Decides-and _ _ (Decides-eqb a.id b.id) (Decides-and _ _ (Decides-eqb a.from b.from) (Decides-and _ _ (Decides-eqb a.to b.to)
    (Decides-and _ _ (Decides-eqb a.seats b.seats) (Decides-and _ _ (Decides-eqb a.chairs b.chairs)
    (Decides-and _ _ (Decides-eqb a.latest b.latest) (Decides-and _ _ (Decides-eqb a.longest b.longest)
    (picked-decides a.picked b.picked))))))))
