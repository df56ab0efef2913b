-- A board whose feed and desk end.
use Rattle.session_run.proofs.Common.{◌≡◌, ◌≤◌, List, [], ◌∷◌, ◌++◌, refl, sym, ap, ◌∙◌, append_assoc, arith, is_some, IsFalse, find, option_and_then, ◌==◌, list_any, list_all, range_with_len, Actor, Feed, Desk, Ending, Whole, Entry, awaited_after, MayEnd, BatchCopy, State, has_ended, is_actor, Recorded, state_of, end_entry, state-push, IsPrompt, IsSession}
use Rattle.session_run.proofs.OneMoreEntry.{awaited-push, gave_up-push}

-- the ends of the feed and the desk leave a history prompt
pub ends-prompt : (old new : List Entry) (ending desk_ending : Ending)
    → new ≡ old ++ end_entry (Feed 1) ending ∷ end_entry (Desk 1) desk_ending ∷ [] → IsPrompt old → IsPrompt new
ends-prompt old new ending desk_ending history prompt =
    let first : Entry = end_entry (Feed 1) ending in
    let last : Entry = end_entry (Desk 1) desk_ending in
    let middle : List Entry = old ++ first ∷ [] in
    let grows : new ≡ middle ++ last ∷ [] = history ∙ sym (append_assoc old (first ∷ []) (last ∷ [])) in
    record {
      direct = awaited-push middle new last grows
          ∙ ap (λ o. option_and_then (λ a. awaited_after a last.actor last.event) o)
          (awaited-push old middle first refl ∙ ap (λ o. option_and_then (λ a. awaited_after a first.actor first.event) o) prompt.direct);
      none_given_up = gave_up-push middle new last grows refl (gave_up-push old middle first refl refl prompt.none_given_up);
    }

-- the desk may end after the feed
pub desk-may_end : (old new : Recorded) (ending desk_ending : Ending) → IsSession old → old.feeds ≡ 1 → new.start ≡ old.start → new.feeds ≡ old.feeds
    → new.desks ≡ old.desks → new.history ≡ old.history ++ end_entry (Feed 1) ending ∷ []
    → (desk_ending ≡ Whole → (state_of old).opened ≡ (state_of old).asked)
    → ((1 ≤ 1) × (1 ≤ new.desks)) × IsFalse (has_ended (state_of new) (Desk 1)) × MayEnd new.feeds (state_of new) 1 desk_ending
desk-may_end old new ending desk_ending session one_feed start feeds desks history whole =
    let is = state-push old new (end_entry (Feed 1) ending) start history in
    let ended : (state_of new).ended ≡ (Feed 1, ending) ∷ []
    = ap (λ (t : State). t.ended) is ∙ ap (λ es. es ++ (Feed 1, ending) ∷ []) session.none_ended in
    let one_desk : new.desks ≡ 1 = desks ∙ session.desks_are in
    let still_one : new.feeds ≡ 1 = feeds ∙ one_feed in (
      (omega arith, omega arith),
      ap (list_any (λ (end : Actor × Ending). is_actor end.0 (Desk 1))) ended,
      record {
        none_open = ap (λ bs. is_some (find (λ (batch : BatchCopy). batch.desk == 1) bs)) (ap (λ (t : State). t.batches) is ∙ session.none_open);
        whole = λ is_whole. (
          ap (λ (t : State). t.opened) is ∙ whole is_whole ∙ sym (ap (λ (t : State). t.asked) is),
          (λ i. list_all (λ feed. list_any (λ (end : Actor × Ending). is_actor end.0 (Feed feed)) (ended i)) (range_with_len 1 (still_one i))),
        );
      },
    )
