-- Histories that go on by an entry.
use Rattle.session_run.proofs.Common.{◌≡◌, ℕ, Bool, true, false, cond, List, [], ◌∷◌, ◌++◌, Option, Some, refl, ap, ◌∙◌, append_assoc, append-nil, ◌≢◌, filter_map, option_and_then, ◌&&◌, ◌||◌, cons_option, list_all, eq-eqb, ne_eqb, and_from, list_any-append, list_all-append, fold-append, Feed, Desk, Command, Entry, Awaited, entries_of, command_of, fed_commands, is_abandoned, awaited_after, awaited_in, any, is_actor, Recorded, fed_commands-append, gave_up, GoesOn, settles, IsSettled}

-- no outcome of one more entry is stale
pub settled-push : (old new : List Entry) (entry : Entry) → new ≡ old ++ entry ∷ [] → IsSettled old → settles entry.event ≡ true
    → IsSettled new
settled-push old new entry history settled fine =
    ap (list_all (λ (e : Entry). settles e.event)) history
    ∙ list_all-append (λ (e : Entry). settles e.event) old (entry ∷ [])
    ∙ and_from (list_all (λ (e : Entry). settles e.event) old) (settles entry.event && true) settled
    (and_from (settles entry.event) true fine refl)

-- what is awaited after one more entry
pub awaited-push : (old new : List Entry) (entry : Entry) → new ≡ old ++ entry ∷ []
    → awaited_in new ≡ option_and_then (λ awaited. awaited_after awaited entry.actor entry.event) (awaited_in old)
awaited-push old new entry history =
    ap awaited_in history
    ∙ fold-append (λ (so_far : Option Awaited) (e : Entry). option_and_then (λ awaited. awaited_after awaited e.actor e.event) so_far)
    (Some any) old (entry ∷ [])

-- one more entry gives no batch up
pub gave_up-push : (old new : List Entry) (entry : Entry) → new ≡ old ++ entry ∷ [] → is_abandoned entry.event ≡ false
    → gave_up old ≡ false → gave_up new ≡ false
gave_up-push old new entry history fine none =
    ap gave_up history ∙ list_any-append (λ (e : Entry). is_abandoned e.event) old (entry ∷ [])
    ∙ both (gave_up old) (is_abandoned entry.event) none fine
  where
    both : (a b : Bool) → a ≡ false → b ≡ false → (a || (b || false)) ≡ false
    both true b h k = absurd (cc h)
    both false true h k = absurd (cc k)
    both false false h k = refl

-- an entry of a desk is no command
pub fed-desk : (feed : ℕ) (old new : List Entry) (entry : Entry) (desk : ℕ) → entry.actor ≡ Desk desk → new ≡ old ++ entry ∷ []
    → fed_commands feed new ≡ fed_commands feed old
unfolding entries_of
fed-desk feed old new entry desk actor history =
    ap (fed_commands feed) history ∙ fed_commands-append feed old (entry ∷ [])
    ∙ ap (λ a. fed_commands feed old ++ filter_map (λ (e : Entry). command_of e.event) (cond (is_actor a (Feed feed)) (entry ∷ []) [])) actor
    ∙ append-nil (fed_commands feed old)

-- an entry of another feed adds no command of a feed
pub fed-other : (feed other : ℕ) (old new : List Entry) (entry : Entry) → entry.actor ≡ Feed other → other ≢ feed → new ≡ old ++ entry ∷ []
    → fed_commands feed new ≡ fed_commands feed old
unfolding entries_of
fed-other feed other old new entry actor differs history =
    ap (fed_commands feed) history ∙ fed_commands-append feed old (entry ∷ [])
    ∙ ap (λ a. fed_commands feed old ++ filter_map (λ (e : Entry). command_of e.event) (cond (is_actor a (Feed feed)) (entry ∷ []) [])) actor
    ∙ ap (λ b. fed_commands feed old ++ filter_map (λ (e : Entry). command_of e.event) (cond b (entry ∷ []) [])) (ne_eqb other feed differs)
    ∙ append-nil (fed_commands feed old)

-- an entry of the feed with a command
pub fed-feed : (feed : ℕ) (old new : List Entry) (entry : Entry) (command : Command) → entry.actor ≡ Feed feed → command_of entry.event ≡ Some command
    → new ≡ old ++ entry ∷ [] → fed_commands feed new ≡ fed_commands feed old ++ command ∷ []
unfolding entries_of
fed-feed feed old new entry command actor event history =
    ap (fed_commands feed) history ∙ fed_commands-append feed old (entry ∷ [])
    ∙ ap (λ a. fed_commands feed old ++ filter_map (λ (e : Entry). command_of e.event) (cond (is_actor a (Feed feed)) (entry ∷ []) [])) actor
    ∙ ap (λ b. fed_commands feed old ++ filter_map (λ (e : Entry). command_of e.event) (cond b (entry ∷ []) [])) (eq-eqb feed feed refl)
    ∙ ap (λ c. fed_commands feed old ++ cons_option c []) event

-- a board that goes on twice
pub goes-then : (a b c : Recorded) → GoesOn a b → GoesOn b c → GoesOn a c
goes-then a b c first second = record {
  start = second.start ∙ first.start;
  feeds = second.feeds ∙ first.feeds;
  more = first.more ++ second.more;
  grows = second.grows ∙ ap (λ h. h ++ second.more) first.grows ∙ append_assoc a.history first.more second.more;
}
