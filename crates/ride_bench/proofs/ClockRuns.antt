-- Feeds that tell the clock's time, and how many commands they gave.
use Rattle.std.proofs.Common.{◌≡◌, ℕ, ◌+◌, false, List, [], ◌∷◌, ◌++◌, length, refl, ap, ◌∙◌, length-append}
use Rattle.std.proofs.lemmas.List.{append-nil}
use Rattle.std.proofs.lemmas.List.Elements.{filter_map-append}
use Rattle.ride_model.specs.declared.command.Actor.{Actor}
use Rattle.ride_model.specs.declared.command.Actor.TheVariants.{Feed}
use Rattle.ride_model.specs.declared.command.Command.{Command}
use Rattle.ride_model.specs.declared.entry.Ending.{Ending}
use Rattle.ride_model.specs.declared.entry.Entry.{Entry}
use Rattle.ride_model.specs.declared.entry.Event.TheVariants.{Fed}
use Rattle.ride_model.specs.declared.reply.Reply.{Reply}
use Rattle.ride_model.specs.History.{command_of}
use Rattle.ride_model.specs.Legal.{replay}
use Rattle.ride_model.specs.State.{State, has_ended}
use Rattle.ride_model.specs.Step.{step}
use Rattle.model_laws.proofs.Histories.{replay-push}
use Rattle.model_laws.specs.history_laws.Start.{IsStart}
use Rattle.model_laws.proofs.history_laws.Others.{ended-same}
use Rattle.board_core.specs.Recorded.{Recorded, state_of, end_entry}
use Rattle.board_core.specs.inner.Recorded.{fed_entry}
use Rattle.fleet_board.specs.inner.Passes.{commands_in}

commands-append : (own more : List Entry) → commands_in (own ++ more) ≡ commands_in own ++ commands_in more
commands-append own more = filter_map-append (λ (entry : Entry). command_of entry.event) own more

-- the answer to a command is one command more
pub one-more : (old new : List Entry) (actor : Actor) (command : Command) (reply : Reply)
    → new ≡ old ++ record { actor = actor; event = Fed command reply } ∷ [] → length (commands_in new) ≡ length (commands_in old) + 1
one-more old new actor command reply made =
    ap (λ (own : List Entry). length (commands_in own)) made ∙ ap length (commands-append old (answer ∷ []))
    ∙ length-append (commands_in old) (command ∷ [])
  where
    answer : Entry
    answer = record { actor = actor; event = Fed command reply }

-- an end is none
pub no-more : (old new : List Entry) (actor : Actor) (ending : Ending)
    → new ≡ old ++ end_entry actor ending ∷ [] → length (commands_in new) ≡ length (commands_in old)
no-more old new actor ending made =
    ap (λ (own : List Entry). length (commands_in own)) made
    ∙ ap length (commands-append old (end_entry actor ending ∷ []) ∙ append-nil (commands_in old))

-- on a board where nothing happened no feed has ended
pub none-ended : (board : Recorded) (feed : ℕ) → board.history ≡ [] → IsStart board.start → has_ended (state_of board) (Feed feed) ≡ false
unfolding replay
none-ended board feed nothing start =
    ap (λ (h : List Entry). has_ended (replay board.start h) (Feed feed)) nothing
    ∙ ap (λ (s : State). has_ended s (Feed feed)) start.nothing_yet

-- nor has it by a command
pub still-feeds : (old new : Recorded) (feed : ℕ) (command : Command) → new.start ≡ old.start
    → new.history ≡ old.history ++ fed_entry (state_of old) feed command ∷ [] → has_ended (state_of old) (Feed feed) ≡ false
    → has_ended (state_of new) (Feed feed) ≡ false
still-feeds old new feed command same made lives =
    ap (λ (s : State). has_ended (replay s new.history) (Feed feed)) same
    ∙ ap (λ (h : List Entry). has_ended (replay old.start h) (Feed feed)) made
    ∙ ap (λ (s : State). has_ended s (Feed feed)) (replay-push old.start old.history (fed_entry (state_of old) feed command))
    ∙ ended-same (state_of old) (Feed feed) (Feed feed) (Fed command (step (state_of old) command).reply) refl
    ∙ lives

-- the history is one longer
pub one-longer : (old new : List Entry) (entry : Entry) → new ≡ old ++ entry ∷ [] → length new ≡ length old + 1
one-longer old new entry made = ap length made ∙ length-append old (entry ∷ [])
