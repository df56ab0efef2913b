-- What a session's history gives at its end.
use Rattle.session_run.proofs.Common.{◌≡◌, ℕ, Bool, true, false, cond, List, [], ◌∷◌, ◌++◌, Option, Some, None, eqb, eq-eqb, refl, sym, ap, subst, ◌∙◌, append_assoc, append-nil, inl, true≢false, arith, IfSome, IsTrue, filter_map, ◌&&◌, list_any, list_all, range_with_len, Actor, Feed, Desk, Command, Ending, Whole, Cut, Entry, Settings, Vehicle, IsFleet, MayStart, ended_whole, fed_commands, entries_of, command_of, IsLegal, replay, RoadMap, IsRoadMap, State, start_state, is_actor, Reads-to_end, Reads, Ran, HasText, SourceFailed, TooLong, AreFirst, ended_commands, feed_limits, new_feed, IsStart, Recorded, state_of, end_entry, state-push, fed_commands-append, HasPut, OutputState, written-prefix, written-whole, Stop, NoMemory, OfFeed, IsLogged, is_source_failed, is_too_long, AreFirstOf, ending_of, HasEnded, IsPrompt, IsSession, IsRunning, IsSettled}
use Rattle.ride_model.specs.History.{is_whole}
use Rattle.command_lines.specs.Commands.{commands_of}
use Rattle.line_text.specs.line_reader.Limits.{IsTooLong, IsWithinLimits}
use Rattle.model_laws.proofs.history_laws.KeptHistory.{keeps_promises}
use Rattle.line_text.specs.line_reader.FeedRuns.{IsReadWhole}
use Rattle.session_run.specs.Replay.{IsReplay}
use Rattle.session_run.proofs.Ends.{ends-prompt}
use Rattle.session_run.proofs.OneMoreEntry.{settled-push}

-- where a session starts
pub is-start : (roads : RoadMap) (settings : Settings) (fleet : List Vehicle) → IsRoadMap roads → IsFleet fleet
    → MayStart roads settings fleet → IsStart (start_state roads settings fleet)
is-start roads settings fleet map fits start = record {
  map_fits = map;
  fleet_fits = fits;
  may_start = start;
  nothing_yet = refl;
}

-- what the ends of the feed and the desk leave
record EndsSo (old new : Recorded) (ending desk_ending : Ending) : Type 0 where
  ended : (state_of new).ended ≡ (Feed 1, ending) ∷ (Desk 1, desk_ending) ∷ []
  batches : (state_of new).batches ≡ []
  opened : (state_of new).opened ≡ (state_of old).opened
  asked : (state_of new).asked ≡ (state_of old).asked
  settled : IsSettled new.history
  commands : fed_commands 1 new.history ≡ fed_commands 1 old.history
  prompt : IsPrompt old.history → IsPrompt new.history

-- an end is no command
fed-end : (entries : List Entry) (actor : Actor) (ending : Ending) → fed_commands 1 (entries ++ end_entry actor ending ∷ []) ≡ fed_commands 1 entries
unfolding entries_of
fed-end entries actor ending =
    fed_commands-append 1 entries (end_entry actor ending ∷ [])
    ∙ ap (λ cs. fed_commands 1 entries ++ cs) (none (is_actor actor (Feed 1)))
    ∙ append-nil (fed_commands 1 entries)
  where
    none : (b : Bool) → filter_map (λ (e : Entry). command_of e.event) (cond b (end_entry actor ending ∷ []) []) ≡ []
    none true = refl
    none false = refl

ends-so : (old new : Recorded) (ending desk_ending : Ending) → IsSession old → new.start ≡ old.start
    → new.history ≡ old.history ++ end_entry (Feed 1) ending ∷ end_entry (Desk 1) desk_ending ∷ [] → EndsSo old new ending desk_ending
ends-so old new ending desk_ending session start history =
    let first : Entry = end_entry (Feed 1) ending in
    let last : Entry = end_entry (Desk 1) desk_ending in
    let middle : Recorded = record old { history = old.history ++ first ∷ [] } in
    let grows : new.history ≡ middle.history ++ last ∷ [] = history ∙ sym (append_assoc old.history (first ∷ []) (last ∷ [])) in
    let to_middle = state-push old middle first refl refl in
    let to_new = state-push middle new last start grows in
    record {
      ended = ap (λ (t : State). t.ended) to_new ∙ ap (λ (t : State). t.ended ++ (Desk 1, desk_ending) ∷ []) to_middle
          ∙ ap (λ es. (es ++ (Feed 1, ending) ∷ []) ++ (Desk 1, desk_ending) ∷ []) session.none_ended;
      batches = ap (λ (t : State). t.batches) to_new ∙ ap (λ (t : State). t.batches) to_middle ∙ session.none_open;
      opened = ap (λ (t : State). t.opened) to_new ∙ ap (λ (t : State). t.opened) to_middle;
      asked = ap (λ (t : State). t.asked) to_new ∙ ap (λ (t : State). t.asked) to_middle;
      settled = settled-push middle.history new.history last grows (settled-push old.history middle.history first refl session.settled refl) refl;
      commands = ap (fed_commands 1) grows ∙ fed-end middle.history (Desk 1) desk_ending ∙ fed-end old.history (Feed 1) ending;
      prompt = ends-prompt old.history new.history ending desk_ending history;
    }

-- a feed that was cut did not end whole
cut-not_whole : (s : State) (desk_ending : Ending) → s.ended ≡ (Feed 1, Cut) ∷ (Desk 1, desk_ending) ∷ [] → IsTrue (ended_whole s (Feed 1)) → ⊥
cut-not_whole s desk_ending is whole =
    true≢false (sym whole ∙ ap (list_any (λ (end : Actor × Ending). is_actor end.0 (Feed 1) && is_whole end.1)) is)

-- the desk ends whole where all was opened
whole-desk : (opened asked : ℕ) → opened ≡ asked → cond (eqb opened asked) Whole Cut ≡ Whole
whole-desk opened asked is = ap (λ b. cond b Whole Cut) (eq-eqb opened asked is)

module _ (start : State) (begins : IsStart start) (ran : Ran) (feed : Option (List ℕ)) (taken : List ℕ) (old new : Recorded) (no_memory : Bool)
    (old_start : old.start ≡ start) (new_start : new.start ≡ old.start) (feeds : new.feeds ≡ old.feeds) (desks : new.desks ≡ old.desks)
    (legal : IsLegal new.feeds new.desks new.start new.history) (text : HasText new.start.settings.log new.feeds new.desks new.history)
    (first : AreFirstOf (new_feed old.start.settings.log) feed taken (fed_commands 1 old.history)) (wanting : ran.no_memory ≡ no_memory) where
  legal_one : IsSession old → old.feeds ≡ 1 → IsLegal 1 1 start new.history
  legal_one session one_feed =
      subst (λ n. IsLegal n 1 start new.history) (feeds ∙ one_feed)
      (subst (λ n. IsLegal new.feeds n start new.history) (desks ∙ session.desks_are)
      (subst (λ (s : State). IsLegal new.feeds new.desks s new.history) (new_start ∙ old_start) legal))

  text_one : IsSession old → old.feeds ≡ 1 → HasText start.settings.log 1 1 new.history
  text_one session one_feed =
      subst (λ n. HasText start.settings.log n 1 new.history) (feeds ∙ one_feed)
      (subst (λ n. HasText start.settings.log new.feeds n new.history) (desks ∙ session.desks_are)
      (subst (λ (s : State). HasText s.settings.log new.feeds new.desks new.history) (new_start ∙ old_start) text))

  -- the commands are those of before the ends
  first_now : fed_commands 1 new.history ≡ fed_commands 1 old.history → AreFirstOf (new_feed start.settings.log) feed taken (fed_commands 1 new.history)
  first_now same =
      subst (λ (cs : List Command). AreFirstOf (new_feed start.settings.log) feed taken cs) (sym same)
      (subst (λ (s : State). AreFirstOf (new_feed s.settings.log) feed taken (fed_commands 1 old.history)) old_start first)

  -- a feed that was cut is not said to end whole
  not_whole_end : {Said : Type 0} (ending desk_ending : Ending) → ending ≡ Cut → (state_of new).ended ≡ (Feed 1, ending) ∷ (Desk 1, desk_ending) ∷ []
      → IsTrue (ended_whole (replay start new.history) (Feed 1)) → Said
  not_whole_end ending desk_ending is_cut ended whole =
      absurd (cut-not_whole (replay start new.history) desk_ending (ap (λ (s : State). (replay s new.history).ended) (sym (new_start ∙ old_start))
      ∙ ended ∙ ap (λ e. (Feed 1, e) ∷ (Desk 1, desk_ending) ∷ []) is_cut) whole)

  -- a replay that was cut
  cut-replay : (ending : Ending) → ending ≡ Cut → IsRunning old no_memory
      → new.history ≡ old.history ++ end_entry (Feed 1) ending ∷ end_entry (Desk 1) (cond (eqb (state_of old).opened (state_of old).asked) Whole Cut) ∷ []
      → (IsReadWhole ran → ⊥) → (ran.too_long ≡ false → IsWithinLimits feed_limits taken) → (ran.too_long ≡ true → IsTooLong feed_limits taken)
      → fed_commands 1 old.history ≡ ended_commands (new_feed old.start.settings.log) taken → IsReplay start ran feed taken new.history
  cut-replay ending is_cut running history not_whole within too_long fed =
      let ends = ends-so old new ending (cond (eqb (state_of old).opened (state_of old).asked) Whole Cut) running.session new_start history in
      let lawful = legal_one running.session running.one_feed in
      let commands : fed_commands 1 new.history ≡ ended_commands (new_feed start.settings.log) taken
      = ends.commands ∙ fed ∙ ap (λ (s : State). ended_commands (new_feed s.settings.log) taken) old_start in
      record {
        begins = begins;
        legal = lawful;
        text = text_one running.session running.one_feed;
        promises = keeps_promises 1 1 start new.history begins lawful;
        settled = ends.settled;
        first = first_now ends.commands;
        whole = λ _ whole. absurd (not_whole whole);
        cut = λ memory _. (
          commands,
          ends.prompt (running.prompt (sym wanting ∙ memory)),
          ap (λ (s : State). (replay s new.history).ended) (sym (new_start ∙ old_start)) ∙ ends.ended
              ∙ ap (λ e. (Feed 1, e) ∷ (Desk 1, cond (eqb (state_of old).opened (state_of old).asked) Whole Cut) ∷ []) is_cut
              ∙ ap (λ e. (Feed 1, Cut) ∷ (Desk 1, e) ∷ []) (whole-desk (state_of old).opened (state_of old).asked running.all_opened),
        );
        within = λ _. within;
        too_long = too_long;
        ended_whole = not_whole_end ending _ is_cut ends.ended;
      }

  -- a replay to the end of the feed
  whole-replay : (ending : Ending) → ending ≡ Whole → IsRunning old no_memory
      → new.history ≡ old.history ++ end_entry (Feed 1) ending ∷ end_entry (Desk 1) (cond (eqb (state_of old).opened (state_of old).asked) Whole Cut) ∷ []
      → IsReadWhole ran → IsWithinLimits feed_limits taken → IfSome feed (λ bytes. taken ≡ bytes)
      → fed_commands 1 old.history ≡ commands_of old.start.settings.log taken → IsReplay start ran feed taken new.history
  whole-replay ending is_whole_end running history read within all_taken fed =
      let ends = ends-so old new ending (cond (eqb (state_of old).opened (state_of old).asked) Whole Cut) running.session new_start history in
      let lawful = legal_one running.session running.one_feed in
      let commands : fed_commands 1 new.history ≡ commands_of start.settings.log taken
      = ends.commands ∙ fed ∙ ap (λ (s : State). commands_of s.settings.log taken) old_start in
      let at : replay start new.history ≡ state_of new = ap (λ (s : State). replay s new.history) (sym (new_start ∙ old_start)) in
      let ended : (replay start new.history).ended ≡ (Feed 1, Whole) ∷ (Desk 1, Whole) ∷ []
      = ap (λ (s : State). s.ended) at ∙ ends.ended
      ∙ ap (λ e. (Feed 1, e) ∷ (Desk 1, cond (eqb (state_of old).opened (state_of old).asked) Whole Cut) ∷ []) is_whole_end
      ∙ ap (λ e. (Feed 1, Whole) ∷ (Desk 1, e) ∷ []) (whole-desk (state_of old).opened (state_of old).asked running.all_opened) in
      record {
        begins = begins;
        legal = lawful;
        text = text_one running.session running.one_feed;
        promises = keeps_promises 1 1 start new.history begins lawful;
        settled = ends.settled;
        first = first_now ends.commands;
        whole = λ memory _. (
          within,
          commands,
          record {
            feeds_whole = (λ i. list_all (λ feed. list_any (λ (end : Actor × Ending). is_actor end.0 (Feed feed) && is_whole end.1) (ended i)) (range_with_len 1 1));
            desks_whole = (λ i. list_all (λ desk. list_any (λ (end : Actor × Ending). is_actor end.0 (Desk desk) && is_whole end.1) (ended i)) (range_with_len 1 1));
            all_opened = ap (λ (s : State). s.opened) at ∙ ends.opened ∙ running.all_opened ∙ sym (ap (λ (s : State). s.asked) at ∙ ends.asked);
            none_open = ap (λ (s : State). s.batches) at ∙ ends.batches;
            none_given_up = (ends.prompt (running.prompt (sym wanting ∙ memory))).none_given_up;
          },
          (ends.prompt (running.prompt (sym wanting ∙ memory))).direct,
        );
        cut = λ _ not_whole. absurd (not_whole read);
        within = λ _ _. within;
        too_long = λ is. absurd (cc (is, read.1));
        ended_whole = λ _. (within, all_taken, commands);
      }

  -- a replay that was stopped by want of memory
  stopped-replay : (ending : Ending) → ending ≡ Cut → no_memory ≡ true → IsSession old → old.feeds ≡ 1
      → new.history ≡ old.history ++ end_entry (Feed 1) ending ∷ end_entry (Desk 1) (cond (eqb (state_of old).opened (state_of old).asked) Whole Cut) ∷ []
      → (ran.too_long ≡ true → IsTooLong feed_limits taken) → IsReplay start ran feed taken new.history
  stopped-replay ending is_cut none session one_feed history too_long =
      let ends = ends-so old new ending (cond (eqb (state_of old).opened (state_of old).asked) Whole Cut) session new_start history in
      let lawful = legal_one session one_feed in
      record {
        begins = begins;
        legal = lawful;
        text = text_one session one_feed;
        promises = keeps_promises 1 1 start new.history begins lawful;
        settled = ends.settled;
        first = first_now ends.commands;
        whole = λ memory _. absurd (cc (memory, wanting, none));
        cut = λ memory _. absurd (cc (memory, wanting, none));
        within = λ memory _. absurd (cc (memory, wanting, none));
        too_long = too_long;
        ended_whole = not_whole_end ending _ is_cut ends.ended;
      }

  -- each replay
  pub is-replay : (stop : Option Stop) → ran.source_failed ≡ is_source_failed stop → ran.too_long ≡ is_too_long stop
      → new.history ≡ old.history ++ end_entry (Feed 1) (ending_of stop) ∷ end_entry (Desk 1) (cond (eqb (state_of old).opened (state_of old).asked) Whole Cut) ∷ []
      → (left : Option (List ℕ)) → Reads feed left taken → HasEnded old.start.settings.log left stop old no_memory taken → IsReplay start ran feed taken new.history
  is-replay None source long history left reads (running, whole) =
      whole-replay Whole refl running history (source, long) whole.within (Reads-to_end reads whole.to_end) whole.commands_are
  is-replay (Some NoMemory) source long history left reads (session, one_feed, none) = stopped-replay Cut refl none session one_feed history (λ is. absurd (cc (is, long)))
  is-replay (Some (OfFeed TooLong)) source long history left reads (running, (many, fed)) =
      cut-replay Cut refl running history (λ whole. absurd (cc (whole.1, long))) (λ is. absurd (cc (is, long))) (λ _. many) fed
  is-replay (Some (OfFeed SourceFailed)) source long history left reads (running, (within, fed)) =
      cut-replay Cut refl running history (λ whole. absurd (cc (whole.0, source))) (λ _. within) (λ is. absurd (cc (is, long))) fed

-- a replay for which there was no memory
pub no-replay : (start : State) (ran : Ran) (feed : Option (List ℕ)) → IsStart start → HasText start.settings.log 1 1 [] → ran.no_memory ≡ true
    → ran.too_long ≡ false → IsReplay start ran feed [] []
unfolding IsLegal entries_of replay
no-replay start ran feed begins text none long =
    record {
      begins = begins;
      legal = tt;
      text = text;
      promises = keeps_promises 1 1 start [] begins tt;
      settled = refl;
      first = record { of_taken = (commands_of start.settings.log [], refl); of_feed = each feed; few = omega arith };
      whole = λ memory _. absurd (cc (memory, none));
      cut = λ memory _. absurd (cc (memory, none));
      within = λ memory _. absurd (cc (memory, none));
      too_long = λ is. absurd (cc (is, long));
      ended_whole = λ whole. absurd (true≢false (sym whole ∙ ap (λ (s : State). ended_whole s (Feed 1)) begins.nothing_yet));
    }
  where
    each : (o : Option (List ℕ)) → IfSome o (λ bytes. AreFirst [] (commands_of start.settings.log bytes))
    each None = tt
    each (Some bytes) = (commands_of start.settings.log bytes, refl)

-- a log at its end
pub is-logged : (ran : Ran) (taken : List ℕ) (before after : Option (List ℕ)) (faults n : ℕ) (log : OutputState) (text : List ℕ) → ran.sink_failed ≡ log.failed
    → (log.failed ≡ false → log.page ≡ []) → HasPut before after faults n log text → IsLogged ran taken before after text
is-logged ran taken before after faults n log text failed nothing_left has = record {
  whole = λ stands. inl (written-whole before after faults n log text has (sym failed ∙ stands) nothing_left);
  prefix = λ fell. written-prefix before after faults n log text has (sym failed ∙ fell);
}
