-- The steps of a drill, one after the other.
use Rattle.session_run.proofs.Common.{◌≡◌, ℕ, ◌+◌, ◌<◌, get_or, map, take, true, false, List, [], ◌∷◌, ◌++◌, Some, None, length, refl, sym, ap, subst, ◌∙◌, arith, append_assoc, append-nil, length-append, slice_get, flat_map, range_with_len, flat_map-append, take_more, Actor, Feed, Desk, Command, Ask, At, Bad, Cancel, Clock, Done, Off, On, Request, Entry, Event, Fed, Finish, Opened, Committed, Abandoned, Vehicle, DrillStep, Follows, give, drive, entry_of, next_report, done, given, reported, rested, ended, worked, fed_commands, after_entry, replay, State, step, Recorded, state_of, fed_entry, state-push, steps_with, GoesBy, IsDrilling, IsReporting, AddsAnswer, Answers, AreOfABatch, IsCommit, IsOpening, is_asked}
use Rattle.session_run.proofs.Answering.{applied-asked, applied-awaited, applied-none_given_up, applied-others, applied-session}

-- steps after others
pub follows-then : (ys : List DrillStep) (fs : List Entry) (s : State) (xs : List DrillStep) (es : List Entry) → Follows s xs es
    → Follows (replay s es) ys fs → Follows s (xs ++ ys) (es ++ fs)
unfolding replay
follows-then ys fs s xs es done rest = rest
follows-then ys fs s xs es (given more) rest = given (follows-then ys fs _ _ _ more rest)
follows-then ys fs s xs es (reported there next more) rest = reported there next (follows-then ys fs _ _ _ more rest)
follows-then ys fs s xs es (rested there none more) rest = rested there none (follows-then ys fs _ _ _ more rest)
follows-then ys fs s xs es (ended more) rest = ended (follows-then ys fs _ _ _ more rest)
follows-then ys fs s xs es (worked more) rest = worked (follows-then ys fs _ _ _ more rest)

-- what the first desk does may come before the next step
desk-first : (s : State) (entry : Entry) (steps : List DrillStep) (entries : List Entry) → entry.actor ≡ Desk 1
    → Follows (after_entry s entry) steps entries → Follows s steps (entry ∷ entries)
desk-first s entry steps entries is rest =
    subst (λ a. Follows (after_entry s (entry_of a entry.event)) steps entries → Follows s steps (entry_of a entry.event ∷ entries))
    (sym is) (λ more. worked more) rest

-- the entries of a batch
batch-follows : (s : State) (batch : List Entry) → AreOfABatch batch → Follows s [] batch
batch-follows s [] of_batch = done
batch-follows s (opening ∷ []) of_batch = absurd of_batch
batch-follows s (opening ∷ commit ∷ []) of_batch =
    desk-first s opening [] (commit ∷ []) of_batch.opener (desk-first (after_entry s opening) commit [] [] of_batch.committer done)
batch-follows s (opening ∷ commit ∷ other ∷ more) of_batch = absurd of_batch

-- a command is given
pub give-goes : (left : ℕ) (old new : Recorded) (command : Command) → IsDrilling old → Answers true command old new
    → GoesBy (give command ∷ []) 1 left left old new
give-goes left old new command drilling answers =
    let adds : AddsAnswer command old new = answers.entries refl in
    let fed : Entry = entry_of (Feed 1) (Fed command adds.reply) in
    record {
      start = answers.goes_on.start;
      drilling = record {
        session = answers.session;
        two_feeds = answers.goes_on.feeds ∙ drilling.two_feeds;
        all_opened = answers.all_opened;
        prompt = answers.prompt refl drilling.prompt;
      };
      follows = λ before so_far. subst (λ (s : State). Follows s (before ++ give command ∷ []) new.history) (sym answers.goes_on.start)
          (subst (λ h. Follows old.start (before ++ give command ∷ []) h) (sym adds.grows)
          (follows-then (give command ∷ []) (fed ∷ adds.batch) old.start before old.history so_far
          (given (batch-follows (after_entry (state_of old) fed) adds.batch adds.of_batch))));
      fed = ap length answers.commands ∙ length-append (fed_commands 1 old.history) (command ∷ []);
      reported = ap (λ cs. length cs + left) (answers.others 2 (λ is. absurd (cc is)));
    }

-- no step
pub goes-none : (left : ℕ) (board : Recorded) → IsDrilling board → GoesBy [] 0 left left board board
goes-none left board drilling = record {
  start = refl;
  drilling = drilling;
  follows = λ before so_far. subst (λ steps. Follows board.start steps board.history) (sym (append-nil before)) so_far;
  fed = omega arith;
  reported = refl;
}

-- steps after others
pub goes-then : (xs ys : List DrillStep) (m n l k j : ℕ) (a b c : Recorded) → GoesBy xs m l k a b → GoesBy ys n k j b c → GoesBy (xs ++ ys) (m + n) l j a c
goes-then xs ys m n l k j a b c first second = record {
  start = second.start ∙ first.start;
  drilling = second.drilling;
  follows = λ before so_far. subst (λ steps. Follows c.start steps c.history) (append_assoc before xs ys)
      (second.follows (before ++ xs) (first.follows before so_far));
  fed = omega (arith, first.fed, second.fed);
  reported = second.reported ∙ first.reported;
}

-- a driver has not reported yet
pub reporting-none : (place : ℕ) (board : Recorded) → IsDrilling board → IsReporting place board board
reporting-none place board drilling = record {
  start = refl;
  drilling = drilling;
  made = [];
  grows = sym (append-nil board.history);
  goes_on = λ later more. more;
  fed = refl;
}

-- a driver reports once more
pub reporting-then : (place : ℕ) (old middle new : Recorded) (command : Command) (v : Vehicle) → IsReporting place old middle
    → slice_get (state_of middle).vehicles place ≡ Some v → next_report v (state_of middle).clock ≡ Some command
    → is_asked (step (state_of middle) command).reply ≡ false → new.start ≡ middle.start → new.feeds ≡ middle.feeds → new.desks ≡ middle.desks
    → new.history ≡ middle.history ++ fed_entry (state_of middle) 2 command ∷ [] → IsReporting place old new
reporting-then place old middle new command v is there next none_asked start feeds desks history =
    let entry : Entry = fed_entry (state_of middle) 2 command in
    let session = is.drilling.session in
    record {
      start = start ∙ is.start;
      drilling = record {
        session = applied-session 2 middle new command session start feeds desks history;
        two_feeds = feeds ∙ is.drilling.two_feeds;
        all_opened = sym (applied-asked 2 middle new command session start feeds desks history false none_asked is.drilling.all_opened);
        prompt = record {
          direct = applied-awaited 2 middle new command session start feeds desks history false none_asked is.drilling.prompt.direct;
          none_given_up = applied-none_given_up 2 middle new command session start feeds desks history is.drilling.prompt.none_given_up;
        };
      };
      made = is.made ++ entry ∷ [];
      grows = history ∙ ap (λ h. h ++ entry ∷ []) is.grows ∙ append_assoc old.history is.made (entry ∷ []);
      goes_on = λ later more. subst (λ es. Follows (state_of old) (drive place ∷ []) es) (sym (append_assoc is.made (entry ∷ []) later))
          (is.goes_on (entry ∷ later) (reported there next
          (subst (λ (s : State). Follows s (drive place ∷ []) later) (state-push middle new entry start history) more)));
      fed = applied-others 2 middle new command session start feeds desks history 1 (λ one. absurd (cc one)) ∙ is.fed;
    }

-- a driver has nothing more to report
pub reporting-done : (place left_before left_now : ℕ) (old new : Recorded) (v : Vehicle) → IsReporting place old new
    → slice_get (state_of new).vehicles place ≡ Some v → next_report v (state_of new).clock ≡ None
    → length (fed_commands 2 new.history) + left_now ≡ length (fed_commands 2 old.history) + left_before
    → GoesBy (drive place ∷ []) 0 left_before left_now old new
reporting-done place left_before left_now old new v is there none counted = record {
  start = is.start;
  drilling = is.drilling;
  follows = λ before so_far. subst (λ (s : State). Follows s (before ++ drive place ∷ []) new.history) (sym is.start)
      (subst (λ h. Follows old.start (before ++ drive place ∷ []) h) (sym (is.grows ∙ ap (λ es. old.history ++ es) (sym (append-nil is.made))))
      (follows-then (drive place ∷ []) (is.made ++ []) old.start before old.history so_far (is.goes_on [] (rested there none done))));
  fed = let same : length (fed_commands 1 new.history) ≡ length (fed_commands 1 old.history) = ap length is.fed in omega (arith, same);
  reported = counted;
}

-- the steps of a clock, and of any other command
pub steps-of-clock : (vehicles : ℕ) (command : Command) (time : ℕ) → command ≡ Clock time
    → steps_with vehicles command ≡ give command ∷ map drive (range_with_len 0 vehicles)
steps-of-clock vehicles command time is =
    ap (steps_with vehicles) is ∙ sym (ap (λ c. give c ∷ map drive (range_with_len 0 vehicles)) is)

pub steps-of-other : (vehicles : ℕ) (command : Command) → ((time : ℕ) → command ≡ Clock time → ⊥) → steps_with vehicles command ≡ give command ∷ []
steps-of-other vehicles (Clock time) other = absurd (other time refl)
steps-of-other vehicles (Request id from to seats latest longest chairs) other = refl
steps-of-other vehicles (Cancel id) other = refl
steps-of-other vehicles (At vehicle node time) other = refl
steps-of-other vehicles (Done vehicle) other = refl
steps-of-other vehicles (On vehicle) other = refl
steps-of-other vehicles (Off vehicle) other = refl
steps-of-other vehicles Ask other = refl
steps-of-other vehicles (Bad line) other = refl

-- the steps of one command more
pub steps-more : (vehicles i : ℕ) (commands : List Command) (d : Command) → i < length commands
    → flat_map (steps_with vehicles) (take (i + 1) commands) ≡ flat_map (steps_with vehicles) (take i commands) ++ steps_with vehicles (get_or commands i d)
steps-more vehicles i commands d below =
    ap (flat_map (steps_with vehicles)) (take_more commands i d below)
    ∙ flat_map-append (steps_with vehicles) (take i commands) (get_or commands i d ∷ [])
    ∙ ap (λ steps. flat_map (steps_with vehicles) (take i commands) ++ steps) (append-nil (steps_with vehicles (get_or commands i d)))
