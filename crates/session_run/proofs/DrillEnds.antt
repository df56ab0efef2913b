-- A drill at its end.
use Rattle.session_run.proofs.Common.{◌≡◌, ◌≤◌, List, [], ◌∷◌, ◌++◌, refl, sym, ap, subst, ◌∙◌, arith, append_assoc, is_some, option_and_then, find, ◌==◌, ◌&&◌, IsFalse, list_all, list_any, range_with_len, Actor, Desk, Feed, Ending, Whole, Entry, DrillStep, Follows, IsDrilled, done, ended, awaited_after, IsLegal, MayEnd, after_entry, replay, BatchCopy, State, has_ended, is_actor, start_state, IsStart, Recorded, end_entry, state_of, state-push, last_steps, IsDrilling, IsPrompt, IsSettled}
use Rattle.ride_model.specs.History.{is_whole}
use Rattle.session_run.proofs.DrillSteps.{follows-then}
use Rattle.session_run.proofs.OneMoreEntry.{awaited-push, gave_up-push}

-- an actor ends whole
abbrev whole_end : Actor → Entry
whole_end actor = end_entry actor Whole

-- who has ended after the first feed, and after the second
ended-first : (old first : Recorded) → IsDrilling old → first.start ≡ old.start → first.history ≡ old.history ++ whole_end (Feed 1) ∷ []
    → (state_of first).ended ≡ (Feed 1, Whole) ∷ []
ended-first old first drilling start history =
    ap (λ (t : State). t.ended) (state-push old first (whole_end (Feed 1)) start history)
    ∙ ap (λ es. es ++ (Feed 1, Whole) ∷ []) drilling.session.none_ended

pub second-not_ended : (old first : Recorded) → IsDrilling old → first.start ≡ old.start → first.history ≡ old.history ++ whole_end (Feed 1) ∷ []
    → IsFalse (has_ended (state_of first) (Feed 2))
second-not_ended old first drilling start history =
    ap (list_any (λ (end : Actor × Ending). is_actor end.0 (Feed 2))) (ended-first old first drilling start history)

module _ (old first second : Recorded) (drilling : IsDrilling old) (first_start : first.start ≡ old.start)
    (first_history : first.history ≡ old.history ++ whole_end (Feed 1) ∷ []) (second_start : second.start ≡ first.start)
    (second_history : second.history ≡ first.history ++ whole_end (Feed 2) ∷ []) where
  to_first : state_of first ≡ after_entry (state_of old) (whole_end (Feed 1))
  to_first = state-push old first (whole_end (Feed 1)) first_start first_history

  to_second : state_of second ≡ after_entry (state_of first) (whole_end (Feed 2))
  to_second = state-push first second (whole_end (Feed 2)) second_start second_history

  ended-second : (state_of second).ended ≡ (Feed 1, Whole) ∷ (Feed 2, Whole) ∷ []
  ended-second =
      ap (λ (t : State). t.ended) to_second ∙ ap (λ es. es ++ (Feed 2, Whole) ∷ []) (ended-first old first drilling first_start first_history)

  -- the desk may end whole
  pub desk-may_end_whole : second.feeds ≡ old.feeds → second.desks ≡ old.desks
      → ((1 ≤ 1) × (1 ≤ second.desks)) × IsFalse (has_ended (state_of second) (Desk 1)) × MayEnd second.feeds (state_of second) 1 Whole
  desk-may_end_whole feeds desks =
      let one_desk : second.desks ≡ 1 = desks ∙ drilling.session.desks_are in
      let two_feeds : second.feeds ≡ 2 = feeds ∙ drilling.two_feeds in (
        (omega arith, omega arith),
        ap (list_any (λ (end : Actor × Ending). is_actor end.0 (Desk 1))) ended-second,
        record {
          none_open = ap (λ bs. is_some (find (λ (batch : BatchCopy). batch.desk == 1) bs))
              (ap (λ (t : State). t.batches) to_second ∙ ap (λ (t : State). t.batches) to_first ∙ drilling.session.none_open);
          whole = λ _. (
            ap (λ (t : State). t.opened) to_second ∙ ap (λ (t : State). t.opened) to_first ∙ drilling.all_opened
                ∙ sym (ap (λ (t : State). t.asked) to_second ∙ ap (λ (t : State). t.asked) to_first),
            (λ i. list_all (λ feed. list_any (λ (end : Actor × Ending). is_actor end.0 (Feed feed)) (ended-second i)) (range_with_len 1 (two_feeds i))),
          );
        },
      )

  -- a history of a drill, once all have ended
  pub drilled : (new : Recorded) → new.start ≡ second.start → new.history ≡ second.history ++ whole_end (Desk 1) ∷ []
      → new.feeds ≡ old.feeds → new.desks ≡ old.desks → IsLegal new.feeds new.desks new.start new.history
      → (steps : List DrillStep) → Follows old.start steps old.history → IsDrilled new.start (steps ++ last_steps) new.history
  drilled new new_start new_history feeds desks legal steps so_far =
      let to_new = state-push second new (whole_end (Desk 1)) new_start new_history in
      let start : new.start ≡ old.start = new_start ∙ second_start ∙ first_start in
      let ends : List Entry = whole_end (Feed 1) ∷ whole_end (Feed 2) ∷ whole_end (Desk 1) ∷ [] in
      let grows : new.history ≡ old.history ++ ends
      = new_history ∙ ap (λ h. h ++ whole_end (Desk 1) ∷ []) (second_history ∙ ap (λ h. h ++ whole_end (Feed 2) ∷ []) first_history
      ∙ append_assoc old.history (whole_end (Feed 1) ∷ []) (whole_end (Feed 2) ∷ []))
      ∙ append_assoc old.history (whole_end (Feed 1) ∷ whole_end (Feed 2) ∷ []) (whole_end (Desk 1) ∷ []) in
      let has_ended_all : (state_of new).ended ≡ (Feed 1, Whole) ∷ (Feed 2, Whole) ∷ (Desk 1, Whole) ∷ []
      = ap (λ (t : State). t.ended) to_new ∙ ap (λ es. es ++ (Desk 1, Whole) ∷ []) ended-second in
      let awaited = awaited-push second.history new.history (whole_end (Desk 1)) new_history
      ∙ ap (λ o. option_and_then (λ a. awaited_after a (Desk 1) (whole_end (Desk 1)).event) o)
      (awaited-push first.history second.history (whole_end (Feed 2)) second_history
      ∙ ap (λ o. option_and_then (λ a. awaited_after a (Feed 2) (whole_end (Feed 2)).event) o)
      (awaited-push old.history first.history (whole_end (Feed 1)) first_history
      ∙ ap (λ o. option_and_then (λ a. awaited_after a (Feed 1) (whole_end (Feed 1)).event) o) drilling.prompt.direct)) in
      record {
        legal = subst (λ n. IsLegal n 1 new.start new.history) (feeds ∙ drilling.two_feeds)
            (subst (λ n. IsLegal new.feeds n new.start new.history) (desks ∙ drilling.session.desks_are) legal);
        direct = awaited;
        finished = record {
          feeds_whole = (λ i. list_all (λ feed. list_any (λ (end : Actor × Ending). is_actor end.0 (Feed feed) && is_whole end.1) (has_ended_all i)) (range_with_len 1 2));
          desks_whole = (λ i. list_all (λ desk. list_any (λ (end : Actor × Ending). is_actor end.0 (Desk desk) && is_whole end.1) (has_ended_all i)) (range_with_len 1 1));
          all_opened = ap (λ (t : State). t.opened) (to_new ∙ ap (λ (t : State). record t { ended = t.ended ++ (Desk 1, Whole) ∷ [] }) to_second)
              ∙ ap (λ (t : State). t.opened) to_first ∙ drilling.all_opened
              ∙ sym (ap (λ (t : State). t.asked) (to_new ∙ ap (λ (t : State). record t { ended = t.ended ++ (Desk 1, Whole) ∷ [] }) to_second)
              ∙ ap (λ (t : State). t.asked) to_first);
          none_open = ap (λ (t : State). t.batches) to_new ∙ ap (λ (t : State). t.batches) to_second ∙ ap (λ (t : State). t.batches) to_first
              ∙ drilling.session.none_open;
          none_given_up = gave_up-push second.history new.history (whole_end (Desk 1)) new_history refl
              (gave_up-push first.history second.history (whole_end (Feed 2)) second_history refl
              (gave_up-push old.history first.history (whole_end (Feed 1)) first_history refl drilling.prompt.none_given_up));
        };
        in_order = subst (λ (s : State). Follows s (steps ++ last_steps) new.history) (sym start)
            (subst (λ h. Follows old.start (steps ++ last_steps) h) (sym grows)
            (follows-then last_steps ends old.start steps old.history so_far (ended (ended (ended done)))));
      }

-- a board of two feeds and one desk before anything happened
pub drilling-at-start : (board : Recorded) → IsStart board.start → board.feeds ≡ 2 → board.desks ≡ 1 → board.history ≡ [] → IsDrilling board
unfolding replay
drilling-at-start board begins feeds desks history =
    let at_start : state_of board ≡ start_state board.start.roads board.start.settings board.start.vehicles
    = ap (replay board.start) history ∙ begins.nothing_yet in
    record {
      session = record {
        desks_are = desks;
        none_ended = ap (λ (s : State). s.ended) at_start;
        none_open = ap (λ (s : State). s.batches) at_start;
        settled = subst IsSettled (sym history) refl;
      };
      two_feeds = feeds;
      all_opened = ap (λ (s : State). s.opened) at_start ∙ sym (ap (λ (s : State). s.asked) at_start);
      prompt = subst IsPrompt (sym history) (record { direct = refl; none_given_up = refl });
    }
