-- The open batches of a log's desks, entry by entry.
use Rattle.log_audit.proofs.Common.{◌≡◌, ℕ, Bool, true, false, not, cond, List, [], ◌∷◌, ◌++◌, eqb, refl, sym, ap, subst, ◌∙◌, ◌==◌, ◌&&◌, map, find, filter, nat_lt, is_some, Option, Some, None, IsTrue, AllByRecursion, IsDistinct, eqb-true, eqb-false, eq-eqb, ne_eqb, and_parts, IsDistinct-head, IsDistinct-tail, same_Some, Actor, Desk, Command, Ending, may_open, next_batch, after_opening, after_commit, after_abandon, after_entry, replay, IsLegal, BatchCopy, State, has_ended, is_batch, open_batch_of, open_batch_numbered, IsOneOrTwo, SolvedBatch, IsPriceable, Among, found_among, IsStart, consistent, for_one_or_two, Recorded, state_of, end_entry, opened_entry, fed_entry, committed_entry, abandoned_entry, state-push, none-numbered, open-priceable, batch_of, with_batch, AreOpen}
use Rattle.model_laws.proofs.RequestStates.{others-opening, abandon-is}
use Rattle.model_laws.proofs.history_laws.Untouched.{leaves-step, stays-outcomes}
use Rattle.model_laws.proofs.history_laws.Lookups.{found_by}
use Rattle.board_core.proofs.Closed.{find-without}
use Rattle.board_core.proofs.Opened.{open-with}
use Rattle.log_audit.specs.declared.open_batches.OpenBatches.{OpenBatches}

-- the batch of a desk after that of one was put in or taken out
pub batch-with : (desk other : ℕ) (batch : Option BatchCopy) (batches : OpenBatches) → IsOneOrTwo desk → IsOneOrTwo other
    → batch_of (with_batch desk batch batches) other ≡ cond (eqb desk other) batch (batch_of batches other)
batch-with desk other batch batches one two =
    for_one_or_two (λ d. batch_of (with_batch d batch batches) other ≡ cond (eqb d other) batch (batch_of batches other))
    (for_one_or_two (λ o. batch_of (with_batch 1 batch batches) o ≡ cond (eqb 1 o) batch (batch_of batches o)) refl refl other two)
    (for_one_or_two (λ o. batch_of (with_batch 2 batch batches) o ≡ cond (eqb 2 o) batch (batch_of batches o)) refl refl other two)
    desk one

-- the open batches stay
pub open-same : (s t : State) (batches : OpenBatches) → t.batches ≡ s.batches → AreOpen s batches → AreOpen t batches
open-same s t batches same held desk fits = held desk fits ∙ sym (ap (find (λ (b : BatchCopy). b.desk == desk)) same)

-- a command opens and closes none
pub open-fed : (old new : Recorded) (feed : ℕ) (command : Command) (batches : OpenBatches) → new.start ≡ old.start
    → new.history ≡ old.history ++ fed_entry (state_of old) feed command ∷ [] → AreOpen (state_of old) batches
    → AreOpen (state_of new) batches
open-fed old new feed command batches start history =
    open-same (state_of old) (state_of new) batches
    (ap (λ (t : State). t.batches) (state-push old new (fed_entry (state_of old) feed command) start history)
    ∙ (leaves-step (state_of old) command).batches)

-- nor does an end
pub open-ended : (old new : Recorded) (actor : Actor) (ending : Ending) (batches : OpenBatches) → new.start ≡ old.start
    → new.history ≡ old.history ++ end_entry actor ending ∷ [] → AreOpen (state_of old) batches → AreOpen (state_of new) batches
open-ended old new actor ending batches start history =
    open-same (state_of old) (state_of new) batches
    (ap (λ (t : State). t.batches) (state-push old new (end_entry actor ending) start history))

-- a batch that is opened
pub open-opened : (old new : Recorded) (desk : ℕ) (batch : BatchCopy) (batches : OpenBatches) → new.start ≡ old.start
    → IsOneOrTwo desk → open_batch_of (state_of old) desk ≡ None → batch ≡ next_batch (state_of old) desk
    → new.history ≡ old.history ++ opened_entry batch ∷ [] → AreOpen (state_of old) batches
    → AreOpen (state_of new) (with_batch desk (Some batch) batches)
open-opened old new desk batch batches start fits none is history held other two =
    let s : State = state_of old in
    let desk_is : batch.desk ≡ desk = ap (λ (b : BatchCopy). b.desk) is in
    let more : (state_of new).batches ≡ s.batches ++ batch ∷ []
    = ap (λ (t : State). t.batches) (state-push old new (opened_entry batch) start history)
    ∙ ap (λ (b : BatchCopy). (after_opening s (next_batch s b.desk)).batches) is
    ∙ ap (λ (b : BatchCopy). (after_opening s b).batches) (sym is)
    ∙ ap (λ (t : State). t.batches) (others-opening s batch) in
    batch-with desk other (Some batch) batches fits two
    ∙ ap (cond (eqb desk other) (Some batch)) (held other two)
    ∙ sym (open-with desk other batch s.batches desk_is none)
    ∙ sym (ap (find (λ (b : BatchCopy). b.desk == other)) more)

-- no other batch is of the first one's desk
no-other : (desk other : ℕ) (batches : List BatchCopy) → AllByRecursion (λ k. eqb desk k ≡ false) (map (λ (b : BatchCopy). b.desk) batches)
    → desk ≡ other → find (λ (b : BatchCopy). b.desk == other) batches ≡ None
no-other desk other [] differ is = refl
no-other desk other (b ∷ batches) (first, rest) is =
    let apart : eqb b.desk other ≡ false = ne_eqb b.desk other (λ same. eqb-false desk b.desk first (is ∙ sym same)) in
    rw apart (no-other desk other batches rest is)

-- the open batch of a desk, where it has this number
pub numbered-of : (desk number : ℕ) (batches : List BatchCopy) (batch : BatchCopy) → IsDistinct eqb (map (λ (b : BatchCopy). b.desk) batches)
    → find (λ (b : BatchCopy). b.desk == desk) batches ≡ Some batch
    → find (is_batch desk number) batches ≡ cond (eqb batch.number number) (Some batch) None
numbered-of desk number [] batch differ found = absurd (cc found)
numbered-of desk number (b ∷ batches) batch differ found =
    by_test (λ other. numbered-of desk number batches batch (IsDistinct-tail eqb b.desk (map (λ (x : BatchCopy). x.desk) batches) differ)
    (sym (ap (λ t. cond t (Some b) (find (λ (x : BatchCopy). x.desk == desk) batches)) other) ∙ found)) (eqb b.desk desk) refl
  where
    by_number : b ≡ batch → eqb b.desk desk ≡ true → (t : Bool) → eqb b.number number ≡ t
        → cond (eqb b.number number) (Some b) (find (is_batch desk number) batches) ≡ cond (eqb b.number number) (Some batch) None
    by_number same here true is = rw is (ap (λ (x : BatchCopy). Some x) same)
    by_number same here false is =
        rw is (none-numbered desk number batches (no-other b.desk desk batches
        (IsDistinct-head eqb b.desk (map (λ (x : BatchCopy). x.desk) batches) differ) (eqb-true b.desk desk here)))

    by_test : (eqb b.desk desk ≡ false → find (is_batch desk number) batches ≡ cond (eqb batch.number number) (Some batch) None)
        → (t : Bool) → eqb b.desk desk ≡ t → find (is_batch desk number) (b ∷ batches) ≡ cond (eqb batch.number number) (Some batch) None
    by_test later true here =
        let same : b ≡ batch
        = same_Some b batch (sym (ap (λ t. cond t (Some b) (find (λ (x : BatchCopy). x.desk == desk) batches)) here) ∙ found) in
        rw here (by_number same here (eqb b.number number) refl ∙ ap (λ (x : BatchCopy). cond (eqb x.number number) (Some batch) None) same)
    by_test later false other = rw other (later other)

-- what is known of an open batch of a desk: it is the one of its number, and it fits the map
pub record OpenOne (board : Recorded) (desk number : ℕ) (batch : BatchCopy) : Type 0 where
  pub desk_is : batch.desk ≡ desk
  pub number_is : batch.number ≡ number
  pub of_desk : open_batch_of (state_of board) batch.desk ≡ Some batch
  pub numbered : open_batch_numbered (state_of board) batch.desk batch.number ≡ Some batch
  pub priceable : IsPriceable board.start.roads batch
  pub roads_stay : (state_of board).roads ≡ board.start.roads
  pub desks_differ : IsDistinct eqb (map (λ (b : BatchCopy). b.desk) (state_of board).batches)

pub open-one : (board : Recorded) (desk number : ℕ) (batch : BatchCopy) → IsStart board.start
    → IsLegal board.feeds board.desks board.start board.history
    → open_batch_numbered (state_of board) desk number ≡ Some batch → OpenOne board desk number batch
open-one board desk number batch begins legal found =
    let s : State = state_of board in
    let c = consistent board.feeds board.desks board.start board.history begins legal in
    let (there, is) = found_among (is_batch desk number) s.batches batch found in
    let both = and_parts (eqb batch.desk desk) (eqb batch.number number) is in
    let desk_is : batch.desk ≡ desk = eqb-true batch.desk desk both.0 in
    let number_is : batch.number ≡ number = eqb-true batch.number number both.1 in
    record {
      desk_is = desk_is;
      number_is = number_is;
      of_desk = found_by (λ (b : BatchCopy). b.desk) s.batches batch c.desks_differ there;
      numbered = (λ i. open_batch_numbered s (desk_is i) (number_is i)) ∙ found;
      priceable = open-priceable board desk number batch begins legal found;
      roads_stay = c.roads_stay;
      desks_differ = c.desks_differ;
    }

-- a batch that is closed
open-closed : (s t : State) (batch : BatchCopy) (batches : OpenBatches) → IsOneOrTwo batch.desk
    → IsDistinct eqb (map (λ (b : BatchCopy). b.desk) s.batches) → open_batch_of s batch.desk ≡ Some batch
    → t.batches ≡ filter (λ other. not (is_batch batch.desk batch.number other)) s.batches
    → AreOpen s batches → AreOpen t (with_batch batch.desk None batches)
open-closed s t batch batches fits differ found less held other two =
    batch-with batch.desk other None batches fits two
    ∙ ap (cond (eqb batch.desk other) None) (held other two)
    ∙ sym (find-without batch.desk batch.number other s.batches same)
    ∙ sym (ap (find (λ (b : BatchCopy). b.desk == other)) less)
  where
    same : (b : BatchCopy) → Among b s.batches → eqb b.desk batch.desk ≡ true → eqb b.number batch.number ≡ true
    same b there here =
        let is : b ≡ batch = same_Some b batch (sym (found_by (λ (x : BatchCopy). x.desk) s.batches b differ there)
        ∙ ap (open_batch_of s) (eqb-true b.desk batch.desk here) ∙ found) in
        eq-eqb b.number batch.number (ap (λ (x : BatchCopy). x.number) is)

-- a batch that is committed
pub open-committed : (old new : Recorded) (desk number : ℕ) (solved : SolvedBatch) (batches : OpenBatches) → new.start ≡ old.start → IsOneOrTwo desk
    → OpenOne old desk number solved.batch → new.history ≡ old.history ++ committed_entry (state_of old) solved ∷ []
    → AreOpen (state_of old) batches → AreOpen (state_of new) (with_batch desk None batches)
open-committed old new desk number solved batches start fits one history held =
    let s : State = state_of old in
    let batch : BatchCopy = solved.batch in
    let committed : after_entry s (committed_entry s solved) ≡ after_commit batch solved.answer.seating s = by_found one.numbered in
    let less : (state_of new).batches ≡ filter (λ other. not (is_batch batch.desk batch.number other)) s.batches
    = ap (λ (t : State). t.batches) (state-push old new (committed_entry s solved) start history ∙ committed)
    ∙ ap (filter (λ other. not (is_batch batch.desk batch.number other)))
    (stays-outcomes batch solved.answer.seating s batch.requests s).batches in
    subst (λ d. AreOpen (state_of new) (with_batch d None batches)) one.desk_is
    (open-closed s (state_of new) batch batches (subst IsOneOrTwo (sym one.desk_is) fits) one.desks_differ one.of_desk less held)
  where
    by_found : open_batch_numbered (state_of old) solved.batch.desk solved.batch.number ≡ Some solved.batch
        → after_entry (state_of old) (committed_entry (state_of old) solved) ≡ after_commit solved.batch solved.answer.seating (state_of old)
    by_found found = rw found refl

-- a batch that is given up
pub open-abandoned : (old new : Recorded) (desk number : ℕ) (batch : BatchCopy) (batches : OpenBatches) → new.start ≡ old.start → IsOneOrTwo desk
    → OpenOne old desk number batch → new.history ≡ old.history ++ abandoned_entry batch ∷ []
    → AreOpen (state_of old) batches → AreOpen (state_of new) (with_batch desk None batches)
open-abandoned old new desk number batch batches start fits one history held =
    let s : State = state_of old in
    let less : (state_of new).batches ≡ filter (λ other. not (is_batch batch.desk batch.number other)) s.batches
    = ap (λ (t : State). t.batches) (state-push old new (abandoned_entry batch) start history ∙ by_found one.numbered ∙ abandon-is s batch) in
    subst (λ d. AreOpen (state_of new) (with_batch d None batches)) one.desk_is
    (open-closed s (state_of new) batch batches (subst IsOneOrTwo (sym one.desk_is) fits) one.desks_differ one.of_desk less held)
  where
    by_found : open_batch_numbered (state_of old) batch.desk batch.number ≡ Some batch
        → after_entry (state_of old) (abandoned_entry batch) ≡ after_abandon batch (state_of old)
    by_found found = rw found refl

-- nothing is open before the first entry
pub open-nothing : (start : State) (batches : OpenBatches) → start.batches ≡ [] → batches ≡ record { first = None; second = None } → AreOpen (replay start []) batches
unfolding replay
open-nothing start batches none is desk fits = by_desk (eqb desk 1) (eqb desk 2)
  where
    by_desk : (t u : Bool) → cond t batches.first (cond u batches.second None) ≡ find (λ (b : BatchCopy). b.desk == desk) start.batches
    by_desk true u = ap (λ (o : OpenBatches). o.first) is ∙ sym (ap (find (λ (b : BatchCopy). b.desk == desk)) none)
    by_desk false true = ap (λ (o : OpenBatches). o.second) is ∙ sym (ap (find (λ (b : BatchCopy). b.desk == desk)) none)
    by_desk false false = sym (ap (find (λ (b : BatchCopy). b.desk == desk)) none)

-- a desk that may open a batch has none open
pub none-open : (s : State) (desk : ℕ) → IsTrue (may_open s desk) → open_batch_of s desk ≡ None
none-open s desk may =
    let both = and_parts (not (has_ended s (Desk desk)) && not (is_some (open_batch_of s desk))) (nat_lt s.opened s.asked) may in
    let each = and_parts (not (has_ended s (Desk desk))) (not (is_some (open_batch_of s desk))) both.0 in
    by_case (open_batch_of s desk) each.1
  where
    by_case : (o : Option BatchCopy) → not (is_some o) ≡ true → o ≡ None
    by_case None h = refl
    by_case (Some b) h = absurd (cc h)
