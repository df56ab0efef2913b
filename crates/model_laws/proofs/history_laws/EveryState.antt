-- The state of every legal history is consistent, and each vehicle goes on from state to state.
use Rattle.model_laws.proofs.Common.{◌≡◌, ℕ, ◌+◌, List, [], ◌∷◌, ◌++◌, sym, ◌∙◌, ap, subst, arith, Some, All, Contains, ⊤, All-head, All-tail, sum_by-cons, same_Some, Request, Cancel, At, Done, On, Off, Clock, Ask, Bad, Entry, Event, Fed, Finish, Opened, Committed, Abandoned, Vehicle, IsLegal, after_entry, replay, find_vehicle, State, IsStart, fed_total, IsConsistent}
use Rattle.model_laws.proofs.plain.Among.{among_from_contains}
use Rattle.model_laws.proofs.plain.Each.{all_of}
use Rattle.model_laws.proofs.Histories.{replay-append, IsLegal-parts}
use Rattle.model_laws.proofs.history_laws.Lookups.{found_by}
use Rattle.model_laws.proofs.history_laws.Earlier.{later_of}
use Rattle.model_laws.proofs.history_laws.Invariant.{Inv, Goes, fleet_of, consistent_by}
use Rattle.model_laws.proofs.history_laws.Committing.{stays, goes_then}
use Rattle.model_laws.proofs.history_laws.Entries.{start_inv, IsFineEvent, fed_in, event_goes}

-- what is kept is kept by a history
pub history_goes : (feeds desks fed : ℕ) (ok : ℕ → Type 0) (start s : State) (entries : List Entry) → IsStart start
    → Inv desks fed ok start s
    → IsLegal feeds desks s entries → All (λ (entry : Entry). IsFineEvent ok entry.event) entries
    → Goes desks (fed + fed_total entries) ok start s (replay s entries)
unfolding IsLegal replay
history_goes feeds desks fed ok start s [] begins inv legal fine =
    subst (λ n. Goes desks n ok start s s) (same fed) (stays desks fed ok start s inv)
  where
    same : (n : ℕ) → n ≡ n + 0
    same n = omega arith
history_goes feeds desks fed ok start s (entry ∷ entries) begins inv (legal, rest) fine =
    let first = event_goes feeds desks fed ok start s entry.actor entry.event begins inv legal
    (All-head (λ (e : Entry). IsFineEvent ok e.event) entry entries fine) in
    let others = history_goes feeds desks (fed + fed_in entry.event) ok start (after_entry s entry) entries begins first.inv rest
    (All-tail (λ (e : Entry). IsFineEvent ok e.event) entry entries fine) in
    subst (λ n. Goes desks n ok start s (replay (after_entry s entry) entries))
    (added (fed_in entry.event) (fed_total entries) (fed_total (entry ∷ entries))
    (sum_by-cons (λ (e : Entry). fed_in e.event) entry entries))
    (goes_then desks fed (fed + fed_in entry.event) (fed + fed_in entry.event + fed_total entries) ok start s (after_entry s entry)
    (replay (after_entry s entry) entries) first others)
  where
    added : (a b c : ℕ) → c ≡ a + b → fed + a + b ≡ fed + c
    added a b c h = omega (arith, h)

-- any id is fine
abbrev pub any_id : ℕ → Type 0
any_id _ = ⊤

-- every event asks only under such ids
pub any_fine : (event : Event) → IsFineEvent any_id event
any_fine (Fed (Request id from to seats latest longest chairs) reply) = tt
any_fine (Fed (Cancel id) reply) = tt
any_fine (Fed (At vehicle node time) reply) = tt
any_fine (Fed (Done vehicle) reply) = tt
any_fine (Fed (On vehicle) reply) = tt
any_fine (Fed (Off vehicle) reply) = tt
any_fine (Fed (Clock time) reply) = tt
any_fine (Fed Ask reply) = tt
any_fine (Fed (Bad line) reply) = tt
any_fine (Finish ending) = tt
any_fine (Opened batch time requests plans) = tt
any_fine (Committed batch cost seats prices pays outcomes) = tt
any_fine (Abandoned batch) = tt

-- what is kept holds after every legal history
pub legal_goes : (feeds desks : ℕ) (start : State) (entries : List Entry) → IsStart start → IsLegal feeds desks start entries
    → Goes desks (0 + fed_total entries) any_id start start (replay start entries)
legal_goes feeds desks start entries begins legal =
    history_goes feeds desks 0 any_id start start entries begins (start_inv desks any_id start begins) legal
    (all_of (λ (entry : Entry). IsFineEvent any_id entry.event) entries (λ entry there. any_fine entry.event))

-- the state of every legal history is consistent
pub consistent : (feeds desks : ℕ) (start : State) (entries : List Entry) → IsStart start → IsLegal feeds desks start entries
    → IsConsistent desks (fed_total entries) start (replay start entries)
consistent feeds desks start entries begins legal =
    subst (λ n. IsConsistent desks n start (replay start entries)) (none_more (fed_total entries))
    (consistent_by desks (0 + fed_total entries) any_id start (replay start entries)
    (legal_goes feeds desks start entries begins legal).inv)
  where
    none_more : (n : ℕ) → 0 + n ≡ n
    none_more n = omega arith

-- two records of a vehicle with equal versions are equal
pub equal_records : (feeds desks : ℕ) (start : State) (first second : List Entry) → IsStart start
    → IsLegal feeds desks start (first ++ second)
    → (earlier later : Vehicle) → Contains (replay start first).vehicles earlier
    → Contains (replay start (first ++ second)).vehicles later
    → earlier.id ≡ later.id → earlier.version ≡ later.version → earlier ≡ later
equal_records feeds desks start first second begins legal earlier later earlier_there later_there ids versions =
    let (legal_first, legal_second) = IsLegal-parts feeds desks start first second legal in
    let middle : State = replay start first in
    let goes = legal_goes feeds desks start first begins legal_first in
    let on = history_goes feeds desks (0 + fed_total first) any_id start middle second begins goes.inv legal_second
    (all_of (λ (entry : Entry). IsFineEvent any_id entry.event) second (λ entry there. any_fine entry.event)) in
    let found = found_by (λ (v : Vehicle). v.id) middle.vehicles earlier
    (fleet_of desks (0 + fed_total first) any_id start middle begins goes.inv).ids_differ
    (among_from_contains middle.vehicles earlier earlier_there) in
    let (w, w_found, goes_on) = later_of middle.vehicles (replay middle second).vehicles earlier.id earlier on.earlier found in
    let w_is : w ≡ later = same_Some w later (sym w_found ∙ ap (find_vehicle (replay middle second).vehicles) ids
    ∙ found_by (λ (v : Vehicle). v.id) (replay middle second).vehicles later
    (fleet_of desks (0 + fed_total first + fed_total second) any_id start (replay middle second) begins on.inv).ids_differ
    (among_from_contains (replay middle second).vehicles later
    (subst (λ (s : State). Contains s.vehicles later) (replay-append start first second) later_there))) in
    goes_on.same (versions ∙ ap (λ (v : Vehicle). v.version) (sym w_is)) ∙ w_is
