-- A board that answers a command.
use Rattle.session_run.proofs.Common.{◌≡◌, ℕ, ◌+◌, inl, inr, Bool, true, false, cond, [], ◌∷◌, ◌++◌, Some, refl, sym, ap, ◌∙◌, append-nil, append_assoc, ◌≢◌, option_and_then, IsFalse, Command, Entry, Fed, Feed, Reply, Waiting, Cancelled, Freed, OnMap, Late, Picked, Dropped, Duty, Now, Asked, Noted, Refused, fed_commands, awaited_after, awaited_in, any, opening, State, step, AreFirst, Recorded, state_of, fed_entry, state-push, gave_up, GoesOn, IsSession, IsAsked, RunsBatch, Answers, Stops, is_asked, leaves-step}
use Rattle.session_run.proofs.OneMoreEntry.{settled-push, awaited-push, gave_up-push, fed-feed, fed-other, goes-then}

-- what is awaited after an answer
after-reply : (feed : ℕ) (command : Command) (reply : Reply) (b : Bool) → is_asked reply ≡ b
    → awaited_after any (Feed feed) (Fed command reply) ≡ Some (cond b opening any)
after-reply feed command (Asked count) b is = ap (λ t. Some (cond t opening any)) is
after-reply feed command Waiting b is = ap (λ t. Some (cond t opening any)) is
after-reply feed command Cancelled b is = ap (λ t. Some (cond t opening any)) is
after-reply feed command (Freed v) b is = ap (λ t. Some (cond t opening any)) is
after-reply feed command OnMap b is = ap (λ t. Some (cond t opening any)) is
after-reply feed command (Late a l) b is = ap (λ t. Some (cond t opening any)) is
after-reply feed command (Picked r) b is = ap (λ t. Some (cond t opening any)) is
after-reply feed command (Dropped r) b is = ap (λ t. Some (cond t opening any)) is
after-reply feed command Duty b is = ap (λ t. Some (cond t opening any)) is
after-reply feed command (Now t') b is = ap (λ t. Some (cond t opening any)) is
after-reply feed command Noted b is = ap (λ t. Some (cond t opening any)) is
after-reply feed command (Refused code) b is = ap (λ t. Some (cond t opening any)) is

-- a feed's command was answered
module _ (feed : ℕ) (old new : Recorded) (command : Command) (session : IsSession old) (start : new.start ≡ old.start)
    (feeds : new.feeds ≡ old.feeds) (desks : new.desks ≡ old.desks)
    (history : new.history ≡ old.history ++ fed_entry (state_of old) feed command ∷ []) where
  state-is : state_of new ≡ (step (state_of old) command).state
  state-is = state-push old new (fed_entry (state_of old) feed command) start history

  pub applied-goes_on : GoesOn old new
  applied-goes_on = record { start = start; feeds = feeds; more = fed_entry (state_of old) feed command ∷ []; grows = history }

  pub applied-session : IsSession new
  applied-session =
      let leaves = leaves-step (state_of old) command in
      record {
        desks_are = desks ∙ session.desks_are;
        none_ended = ap (λ (t : State). t.ended) state-is ∙ leaves.ended ∙ session.none_ended;
        none_open = ap (λ (t : State). t.batches) state-is ∙ leaves.batches ∙ session.none_open;
        settled = settled-push old.history new.history (fed_entry (state_of old) feed command) history session.settled refl;
      }

  pub applied-commands : fed_commands feed new.history ≡ fed_commands feed old.history ++ command ∷ []
  applied-commands = fed-feed feed old.history new.history (fed_entry (state_of old) feed command) command refl refl history

  pub applied-others : (other : ℕ) → other ≢ feed → fed_commands other new.history ≡ fed_commands other old.history
  applied-others other differs =
      fed-other other feed old.history new.history (fed_entry (state_of old) feed command) refl (λ is. differs (sym is)) history

  pub applied-awaited : (b : Bool) → is_asked (step (state_of old) command).reply ≡ b → awaited_in old.history ≡ Some any
      → awaited_in new.history ≡ Some (cond b opening any)
  applied-awaited b is direct =
      let entry : Entry = fed_entry (state_of old) feed command in
      awaited-push old.history new.history entry history
      ∙ ap (λ o. option_and_then (λ a. awaited_after a entry.actor entry.event) o) direct
      ∙ after-reply feed command (step (state_of old) command).reply b is

  pub applied-none_given_up : IsFalse (gave_up old.history) → IsFalse (gave_up new.history)
  applied-none_given_up none = gave_up-push old.history new.history (fed_entry (state_of old) feed command) history refl none

  pub applied-asked : (b : Bool) → is_asked (step (state_of old) command).reply ≡ b → (state_of old).opened ≡ (state_of old).asked
      → (state_of new).asked ≡ cond b ((state_of new).opened + 1) (state_of new).opened
  applied-asked b is all_opened =
      let leaves = leaves-step (state_of old) command in
      let opened : (state_of new).opened ≡ (state_of old).asked = ap (λ (t : State). t.opened) state-is ∙ leaves.opened ∙ all_opened in
      ap (λ (t : State). t.asked) state-is ∙ leaves.asked
      ∙ ap (λ t. cond t ((state_of old).asked + 1) (state_of old).asked) is
      ∙ ap (λ n. cond b (n + 1) n) (sym opened)

-- the first feed's command was answered
module _ (old new : Recorded) (command : Command) (session : IsSession old) (start : new.start ≡ old.start) (feeds : new.feeds ≡ old.feeds)
    (desks : new.desks ≡ old.desks) (history : new.history ≡ old.history ++ fed_entry (state_of old) 1 command ∷ []) where
  goes_on_now : GoesOn old new
  goes_on_now = applied-goes_on 1 old new command session start feeds desks history

  session_now : IsSession new
  session_now = applied-session 1 old new command session start feeds desks history

  commands_now : fed_commands 1 new.history ≡ fed_commands 1 old.history ++ command ∷ []
  commands_now = applied-commands 1 old new command session start feeds desks history

  others_now : (other : ℕ) → other ≢ 1 → fed_commands other new.history ≡ fed_commands other old.history
  others_now = applied-others 1 old new command session start feeds desks history

  awaited_now : (b : Bool) → is_asked (step (state_of old) command).reply ≡ b → awaited_in old.history ≡ Some any
      → awaited_in new.history ≡ Some (cond b opening any)
  awaited_now = applied-awaited 1 old new command session start feeds desks history

  none_given_up_now : IsFalse (gave_up old.history) → IsFalse (gave_up new.history)
  none_given_up_now = applied-none_given_up 1 old new command session start feeds desks history

  asked_now : (b : Bool) → is_asked (step (state_of old) command).reply ≡ b → (state_of old).opened ≡ (state_of old).asked
      → (state_of new).asked ≡ cond b ((state_of new).opened + 1) (state_of new).opened
  asked_now = applied-asked 1 old new command session start feeds desks history

  -- no ask was accepted
  pub answers-others : is_asked (step (state_of old) command).reply ≡ false → (state_of old).opened ≡ (state_of old).asked
      → Answers true command old new
  answers-others is all_opened = record {
    goes_on = goes_on_now;
    session = session_now;
    all_opened = sym (asked_now false is all_opened);
    commands = commands_now;
    others = others_now;
    entries = λ _. record { reply = (step (state_of old) command).reply; batch = []; of_batch = tt; grows = history };
    prompt = λ _ prompt. record {
      direct = awaited_now false is prompt.direct;
      none_given_up = none_given_up_now prompt.none_given_up;
    };
  }

  -- an ask was accepted
  pub asks : is_asked (step (state_of old) command).reply ≡ true → (state_of old).opened ≡ (state_of old).asked → IsAsked new
  asks is all_opened = record { session = session_now; one_more = asked_now true is all_opened }

  -- memory was wanting for the batch after it
  pub asks-stops : Stops command old new
  asks-stops = record { goes_on = goes_on_now; session = session_now; commands = inr commands_now }

  -- the batch after it was opened and closed
  pub answers-ask : (committed : Bool) (after : Recorded) → is_asked (step (state_of old) command).reply ≡ true
      → RunsBatch committed new after → Answers committed command old after
  answers-ask committed after is ran = record {
    goes_on = goes-then old new after goes_on_now ran.goes_on;
    session = ran.session;
    all_opened = ran.all_opened;
    commands = ran.commands 1 ∙ commands_now;
    others = λ feed other. ran.commands feed ∙ others_now feed other;
    entries = λ whole. let (opened, closed, grows, of_batch) = ran.entries whole in record {
      reply = (step (state_of old) command).reply;
      batch = opened ∷ closed ∷ [];
      of_batch = of_batch;
      grows = grows ∙ ap (λ h. h ++ opened ∷ closed ∷ []) history
          ∙ append_assoc old.history (fed_entry (state_of old) 1 command ∷ []) (opened ∷ closed ∷ []);
    };
    prompt = λ whole prompt. record {
      direct = ran.direct whole (awaited_now true is prompt.direct);
      none_given_up = ran.none_given_up whole (none_given_up_now prompt.none_given_up);
    };
  }

-- a reply that is not to an accepted ask
pub not_asked : (reply : Reply) → ((count : ℕ) → reply ≡ Asked count → ⊥) → is_asked reply ≡ false
not_asked reply others = by_test (is_asked reply) refl
  where
    count-of : (r : Reply) → is_asked r ≡ true → (count : ℕ) × (r ≡ Asked count)
    count-of (Asked count) h = (count, refl)
    count-of Waiting h = absurd (cc h)
    count-of Cancelled h = absurd (cc h)
    count-of (Freed v) h = absurd (cc h)
    count-of OnMap h = absurd (cc h)
    count-of (Late a l) h = absurd (cc h)
    count-of (Picked r) h = absurd (cc h)
    count-of (Dropped r) h = absurd (cc h)
    count-of Duty h = absurd (cc h)
    count-of (Now t) h = absurd (cc h)
    count-of Noted h = absurd (cc h)
    count-of (Refused code) h = absurd (cc h)

    by_test : (b : Bool) → is_asked reply ≡ b → b ≡ false
    by_test false is = refl
    by_test true is = let (count, asked) = count-of reply is in absurd (others count asked)

-- a board that stopped at a command has answered the first commands
pub stops-first : (command : Command) (old new : Recorded) → Stops command old new
    → AreFirst (fed_commands 1 new.history) (fed_commands 1 old.history ++ command ∷ [])
stops-first command old new stops = elim stops.commands [
  | inl none ↦ (command ∷ [], ap (λ cs. cs ++ command ∷ []) (sym none))
  | inr one ↦ ([], sym one ∙ sym (append-nil (fed_commands 1 new.history)))
]
