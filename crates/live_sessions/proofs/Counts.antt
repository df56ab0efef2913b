-- How many commands of a feed entries answer.
use Rattle.live_sessions.proofs.Common.{◌≡◌, ℕ, suc, Bool, true, false, cond, List, [], ◌∷◌, length, refl, ap, ◌&&◌, filter_map, filter, Feed, Entry, Event, Fed, Finish, Opened, Committed, Abandoned, command_of, entries_of, fed_commands, is_actor, is_fed}

-- as many as are the feed's and answer one
pub count-fed : (feed : ℕ) (entries : List Entry)
    → length (filter (λ (entry : Entry). is_actor entry.actor (Feed feed) && is_fed entry.event) entries) ≡ length (fed_commands feed entries)
unfolding entries_of
count-fed feed [] = refl
count-fed feed (entry ∷ entries) = by_event (count-fed feed entries) (is_actor entry.actor (Feed feed)) entry.event
  where
    passed : List Entry
    passed = filter (λ (e : Entry). is_actor e.actor (Feed feed) && is_fed e.event) entries

    made : List Entry
    made = filter (λ (e : Entry). is_actor e.actor (Feed feed)) entries

    by_event : length passed ≡ length (filter_map (λ (e : Entry). command_of e.event) made) → (mine : Bool) (event : Event)
        → length (cond (mine && is_fed event) (entry ∷ passed) passed)
        ≡ length (filter_map (λ (e : Entry). command_of e.event) (cond mine (record entry { event = event } ∷ made) made))
    by_event same false event = same
    by_event same true (Fed command reply) = ap suc same
    by_event same true (Finish ending) = same
    by_event same true (Opened number time requests plans) = same
    by_event same true (Committed number cost seats prices pays outcomes) = same
    by_event same true (Abandoned number) = same
