-- What drivers report: it asks for nothing, and its numbers have a text.
use Rattle.session_run.proofs.Common.{◌≡◌, ℕ, ◌+◌, ◌-◌, Bool, true, false, cond, List, [], ◌∷◌, Option, Some, None, refl, subst, not, ◌==◌, nat_lt, nat_le, Command, At, Done, Late, OnMap, Kind, Dropoff, Pickup, Vehicle, next_report, report_of, broken_of, travel, State, placed_vehicle, at_found, done_at_stop, done_found, is_node, report, report_driving, served_reply, step, is_asked}
use Rattle.ride_model.specs.declared.vehicle.Stop.{Stop}
use Rattle.ride_model.specs.Step.{Answered, reported}

-- one of two answers
either-asks_none : (b : Bool) (x y : Answered) → is_asked x.reply ≡ false → is_asked y.reply ≡ false → is_asked (cond b x y).reply ≡ false
either-asks_none true x y first second = first
either-asks_none false x y first second = second

-- a report of where a vehicle is
driving-asks_none : (s : State) (place : ℕ) (v after : Vehicle) (old : ℕ) (leg : Option ℕ) → is_asked (report_driving s place v after old leg).reply ≡ false
driving-asks_none s place v after old None = refl
driving-asks_none s place v after old (Some leg) = by_test (nat_le (after.ready + leg) old)
  where
    by_test : (b : Bool) → is_asked (cond b OnMap (Late ((after.ready + leg) - old) (broken_of after s.settings.dwell))) ≡ false
    by_test true = refl
    by_test false = refl

report-asks_none : (s : State) (place : ℕ) (v after : Vehicle) (stops : List Stop) → is_asked (report s place v after stops).reply ≡ false
report-asks_none s place v after [] = refl
report-asks_none s place v after (first ∷ more) =
    driving-asks_none s place v after (v.ready + first.leg) (travel s.roads after.at first.node)

at-asks_none : (s : State) (node time : ℕ) (placed : Option (ℕ × Vehicle)) → is_asked (at_found s node time placed).reply ≡ false
at-asks_none s node time None = refl
at-asks_none s node time (Some placed) =
    either-asks_none (not (is_node s.roads node)) _ _ refl
    (either-asks_none (nat_lt 1000000000 time) _ _ refl
    (either-asks_none (nat_lt time placed.1.ready) _ _ refl
    (report-asks_none s placed.0 placed.1 (reported s node time placed.1) placed.1.stops.items)))

-- a stop that was served
served-asks_none : (stop : Stop) (kind : Kind) → is_asked (served_reply stop kind) ≡ false
served-asks_none stop Pickup = refl
served-asks_none stop Dropoff = refl

done-asks_none : (s : State) (placed : Option (ℕ × Vehicle)) → is_asked (done_found s placed).reply ≡ false
done-asks_none s None = refl
done-asks_none s (Some placed) = by_stops placed.1.stops.items
  where
    by_stops : (stops : List Stop) → is_asked (done_at_stop s placed.0 placed.1 stops).reply ≡ false
    by_stops [] = refl
    by_stops (stop ∷ rest) =
        either-asks_none (not (placed.1.at == stop.node)) _ _ refl
        (either-asks_none (nat_lt 1000003600 (placed.1.ready + s.settings.dwell)) _ _ refl (served-asks_none stop stop.kind))

-- what holds of each command that a driver may report
pub report-cases : (P : Command → Type 0) (v : Vehicle) (clock : ℕ) (command : Command) → next_report v clock ≡ Some command
    → ((first : Stop) (rest : List Stop) → v.stops.items ≡ first ∷ rest → P (At v.id first.node (v.ready + first.leg))) → P (Done v.id) → P command
report-cases P v clock command is at_stop served = by_stops v.stops.items refl is
  where
    by_tests : (first : Stop) → P (At v.id first.node (v.ready + first.leg)) → (there due left : Bool)
        → cond due (cond there (Some (Done v.id)) (Some (At v.id first.node (v.ready + first.leg))))
        (cond left (Some (At v.id first.node (v.ready + first.leg))) None) ≡ Some command → P command
    by_tests first at_it true true left e = subst P (cc e) served
    by_tests first at_it false true left e = subst P (cc e) at_it
    by_tests first at_it there false true e = subst P (cc e) at_it
    by_tests first at_it there false false e = absurd (cc e)

    by_stops : (stops : List Stop) → v.stops.items ≡ stops → report_of v clock stops ≡ Some command → P command
    by_stops [] stops_are e = absurd (cc e)
    by_stops (first ∷ rest) stops_are e =
        by_tests first (at_stop first rest stops_are) (v.at == first.node) (nat_le (v.ready + first.leg) clock) (nat_lt v.ready clock) e

-- a driver asks for no batch
pub report-asks_for_none : (s : State) (v : Vehicle) (clock : ℕ) (command : Command) → next_report v clock ≡ Some command
    → is_asked (step s command).reply ≡ false
report-asks_for_none s v clock command is =
    report-cases (λ c. is_asked (step s c).reply ≡ false) v clock command is
    (λ first rest stops_are. at-asks_none s first.node (v.ready + first.leg) (placed_vehicle s v.id)) (done-asks_none s (placed_vehicle s v.id))
