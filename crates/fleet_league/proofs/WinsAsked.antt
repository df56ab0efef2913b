-- A board on which wins are requested, one after another.
use Rattle.fleet_league.proofs.Common.{◌≡◌, ℕ, ◌+◌, ◌<◌, ◌≤◌, inl, inr, false, cond, List, [], ◌∷◌, ◌++◌, length, take, drop, get_or, refl, sym, ap, subst, ◌∙◌, arith, append_assoc, length-append, map, find, nat_le, ◌==◌, IsNone, list_any, cases_lt, length-map, get_or-map, take_more, drop_more, take_all, take-map, take-append-le, map-append, take-append_seam, Actor, Feed, Command, Ask, Ending, Entry, Fed, Asked, Refused, Ride, BatchCopy, IsSpelledCommand, entries_of, fed_commands, after_entry, replay, State, has_ended, is_actor, open_batch_of, Answered, with_accepted, ask_step, step, replay-append, replay-push, Recorded, state_of, fed_entry, fed_commands-append, state-push, Win, won_rides, request_of, request_entries, asking_entries, AreNew, MayAsk, requested_state, asked_state}
use Rattle.ride_model.specs.declared.reply.Reply.TheVariants.{Waiting}
use Rattle.fleet_league.proofs.Reports.{fed-push}
use Rattle.fleet_league.proofs.Requested.{new-first, new-room, new-rest, request-taken, requested}

-- nobody has ended
pub none-ended : (s : State) (actor : Actor) → s.ended ≡ [] → has_ended s actor ≡ false
none-ended s actor none = ap (λ ended. list_any (λ (end : Actor × Ending). is_actor end.0 actor) ended) none

-- no batch is open
pub none-open : (s : State) (desk : ℕ) → s.batches ≡ [] → IsNone (open_batch_of s desk)
none-open s desk none = subst (λ batches. IsNone (find (λ (batch : BatchCopy). batch.desk == desk) batches)) (sym none) refl

-- the first wins are requested on a board, and it takes the others
pub record IsRequestedTo (old : Recorded) (wins : List Win) (reached : ℕ) (now : Recorded) : Type 0 where
  pub others : now ≡ record old { history = now.history; spare = now.spare }
  pub history : now.history ≡ old.history ++ request_entries (take reached wins)
  pub none_ended : (state_of now).ended ≡ []
  pub fed : length (fed_commands 1 now.history) ≡ length (fed_commands 1 old.history) + reached
  pub new : AreNew (state_of now) (won_rides (drop reached wins))

-- one more
pub requested-more : (old now after : Recorded) (wins : List Win) (reached : ℕ) (d : Win) → IsRequestedTo old wins reached now
    → reached < length wins → after ≡ record now { history = after.history; spare = after.spare }
    → after.history ≡ now.history ++ fed_entry (state_of now) 1 (request_of (get_or wins reached d).ride) ∷ []
    → IsRequestedTo old wins (reached + 1) after
requested-more old now after wins reached d to low others history =
    let s : State = state_of now in
    let win : Win = get_or wins reached d in
    let command : Command = request_of win.ride in
    let left : drop reached wins ≡ win ∷ drop (reached + 1) wins
    = drop_more wins reached d low in
    let new : AreNew s (win.ride ∷ won_rides (drop (reached + 1) wins))
    = subst (λ ws. AreNew s (won_rides ws)) left to.new in
    let taken = request-taken s win.ride (new-first s win.ride (won_rides (drop (reached + 1) wins)) new)
    (new-room s win.ride (won_rides (drop (reached + 1) wins)) new) in
    let state_is : state_of after ≡ with_accepted s win.ride
    = state-push now after (fed_entry s 1 command) (ap (λ (b : Recorded). b.start) others) history ∙ ap (λ (a : Answered). a.state) taken in
    let entry : Entry = record { actor = Feed 1; event = Fed command Waiting } in
    let entry_is : fed_entry s 1 command ≡ entry
    = ap (λ (a : Answered). record { actor = Feed 1; event = Fed command a.reply }) taken in
    let more : request_entries (take (reached + 1) wins) ≡ request_entries (take reached wins) ++ entry ∷ []
    = ap request_entries (take_more wins reached d low)
    ∙ map-append (λ (w : Win). record { actor = Feed 1; event = Fed (request_of w.ride) Waiting }) (take reached wins) (win ∷ []) in
    record {
      others = others ∙ ap (λ (b : Recorded). record b { history = after.history; spare = after.spare }) to.others;
      history = history ∙ (λ i. to.history i ++ entry_is i ∷ [])
          ∙ append_assoc old.history (request_entries (take reached wins)) (entry ∷ [])
          ∙ ap (λ entries. old.history ++ entries) (sym more);
      none_ended = ap (λ (t : State). t.ended) state_is ∙ to.none_ended;
      fed = omega (
        arith,
        to.fed,
        ap length (fed-push s now.history after.history command history),
        length-append (fed_commands 1 now.history) (command ∷ []),
      );
      new = subst (λ (t : State). AreNew t (won_rides (drop (reached + 1) wins))) (sym state_is)
          (new-rest s win.ride (won_rides (drop (reached + 1) wins)) new);
    }

-- the next win's request is spelled
pub next-spelled : (old now : Recorded) (wins : List Win) (reached : ℕ) (d : Win) → MayAsk old (won_rides wins) → IsRequestedTo old wins reached now
    → reached < length wins → IsSpelledCommand now.start.settings.log (request_of (get_or wins reached d).ride)
next-spelled old now wins reached d may to low =
    let first : IsSpelledCommand old.start.settings.log (request_of (get_or (won_rides wins) reached d.ride))
    = may.spelled reached d.ride (omega (arith, low, length-map wins (λ (w : Win). w.ride))) in
    subst (λ (b : Recorded). IsSpelledCommand b.start.settings.log (request_of (get_or wins reached d).ride)) (sym to.others)
    (subst (λ (ride : Ride). IsSpelledCommand old.start.settings.log (request_of ride))
    (get_or-map (λ (w : Win). w.ride) wins reached d d.ride low) first)

-- the first entries are the first of the requests, and of the asking
pub requests-cut : (wins : List Win) (reached : ℕ) → request_entries (take reached wins) ≡ take reached (request_entries wins)
requests-cut wins reached = sym (take-map (λ (w : Win). record { actor = Feed 1; event = Fed (request_of w.ride) Waiting }) reached wins)

pub cut-longer : (first second : List Entry) (many : ℕ) → (more : ℕ) × (take many first ≡ take more (first ++ second))
cut-longer first second many = elim (cases_lt (length first) many) [
  | inl beyond ↦ (length first, take_all many first (omega (arith, beyond)) ∙ sym (take-append_seam first second))
  | inr within ↦ (many, sym (take-append-le many first second within))
]

-- the commands of requests
pub fed-requests : (wins : List Win) → fed_commands 1 (request_entries wins) ≡ map (λ (w : Win). request_of w.ride) wins
unfolding entries_of
fed-requests [] = refl
fed-requests (win ∷ wins) = ap (λ commands. request_of win.ride ∷ commands) (fed-requests wins)

pub fed-requested : (old new : List Entry) (wins : List Win) → new ≡ old ++ request_entries wins
    → length (fed_commands 1 new) ≡ length (fed_commands 1 old) + length (won_rides wins)
fed-requested old new wins history =
    ap (λ h. length (fed_commands 1 h)) history
    ∙ ap length (fed_commands-append 1 old (request_entries wins))
    ∙ length-append (fed_commands 1 old) (fed_commands 1 (request_entries wins))
    ∙ ap (λ n. length (fed_commands 1 old) + n) (ap length (fed-requests wins)
    ∙ length-map wins (λ (w : Win). request_of w.ride) ∙ sym (length-map wins (λ (w : Win). w.ride)))

-- the state after wins were requested
pub requested-board : (old new : Recorded) (wins : List Win) → new.start ≡ old.start
    → new.history ≡ old.history ++ request_entries wins → AreNew (state_of old) (won_rides wins)
    → state_of new ≡ requested_state (state_of old) wins
requested-board old new wins start history new_rides =
    (λ i. replay (start i) (history i)) ∙ replay-append old.start old.history (request_entries wins)
    ∙ requested (state_of old) wins new_rides

-- an accepted ask
pub asked-now : (s : State) → s.asked + 1 ≤ 2000 → step s Ask ≡ record { state = record s { asked = s.asked + 1 }; reply = Asked (s.asked + 1) }
unfolding ask_step
asked-now s few = ap (λ b. cond b (record { state = s; reply = Refused 16 }) (record { state = record s { asked = s.asked + 1 }; reply = Asked (s.asked + 1) }))
    (few_test s.asked few)
  where
    few_test : (n : ℕ) → n + 1 ≤ 2000 → nat_le 2000 n ≡ false
    few_test n h = grind (arith, h)

-- after it the history has the entries of an asking
pub asking-are : (old middle new : Recorded) (wins : List Win) → middle.history ≡ old.history ++ request_entries wins
    → state_of middle ≡ requested_state (state_of old) wins → (state_of old).asked + 1 ≤ 2000
    → new.history ≡ middle.history ++ fed_entry (state_of middle) 1 Ask ∷ []
    → new.history ≡ old.history ++ asking_entries (state_of old) wins
asking-are old middle new wins first state_is few second =
    let asked : Entry = record { actor = Feed 1; event = Fed Ask (Asked ((state_of old).asked + 1)) } in
    let entry : fed_entry (state_of middle) 1 Ask ≡ asked
    = ap (λ s. fed_entry s 1 Ask) state_is
    ∙ ap (λ (a : Answered). record { actor = Feed 1; event = Fed Ask a.reply }) (asked-now (requested_state (state_of old) wins) few) in
    second ∙ (λ i. first i ++ entry i ∷ []) ∙ append_assoc old.history (request_entries wins) (asked ∷ [])

-- and the board the state of one
pub asked-board : (old new : Recorded) (wins : List Win) → new.start ≡ old.start → new.history ≡ old.history ++ asking_entries (state_of old) wins
    → AreNew (state_of old) (won_rides wins) → (state_of old).asked + 1 ≤ 2000 → state_of new ≡ asked_state (state_of old) wins
asked-board old new wins start history new_rides few =
    let s : State = state_of old in
    let asked : Entry = record { actor = Feed 1; event = Fed Ask (Asked (s.asked + 1)) } in
    (λ i. replay (start i) (history i)) ∙ replay-append old.start old.history (asking_entries s wins)
    ∙ replay-push s (request_entries wins) asked
    ∙ ap (λ t. after_entry t asked) (requested s wins new_rides)
    ∙ ap (λ (a : Answered). a.state) (asked-now (requested_state s wins) few)
