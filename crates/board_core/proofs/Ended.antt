-- Actors that end.
use Rattle.board_core.proofs.Common.{◌≡◌, ℕ, ◌+◌, ◌≤◌, Bool, true, false, ◌&&◌, ◌||◌, cond, List, [], ◌∷◌, ◌++◌, refl, sym, ◌∙◌, ap, subst, length-append, arith, Option, Some, None, is_some, option_map, list_any, eqb-true, list_any-append, or-true, or-false, Actor, Feed, Desk, Ending, Entry, Finish, ended_whole, is_whole, is_abandoned, after_event, IsLegalEvent, State, is_actor, has_ended, open_batch_of, BatchCopy, IsOneOrTwo, replay-push, Desks, Service, Given, ending_of, is_whole_end, places_kept, with_ending, Mirrors, IsBoard, at_number, with_number, one_if_some, Recorded, state_of}
use Rattle.board_core.proofs.FedEntries.{within-push, none-of_others}
use Rattle.board_core.proofs.Numbering.{at_number-with, count-with, count-le}
use Rattle.board_core.proofs.Boards.{pushed, recorded-push, abandoned-push}

-- the number of an actor
abbrev pub number_of : Actor → ℕ
number_of (Feed number) = number
number_of (Desk number) = number

-- one actor
pub is_actor-same : (a b : Actor) → is_actor a b ≡ true → a ≡ b
is_actor-same (Feed a) (Feed b) is = ap Feed (eqb-true a b is)
is_actor-same (Desk a) (Desk b) is = ap Desk (eqb-true a b is)
is_actor-same (Feed a) (Desk b) is = absurd (cc is)
is_actor-same (Desk a) (Feed b) is = absurd (cc is)

-- an actor's end is noted
pub ending_of-with : (kept : Desks) (actor other : Actor) (ending : Ending) → IsOneOrTwo (number_of actor)
    → ending_of (with_ending actor ending kept) other ≡ cond (is_actor actor other) (Some ending) (ending_of kept other)
ending_of-with kept (Feed a) (Feed b) ending fits = at_number-with a b (Some ending) kept.feeds_ended fits
ending_of-with kept (Desk a) (Desk b) ending fits = at_number-with a b (Some ending) kept.desks_ended fits
ending_of-with kept (Feed a) (Desk b) ending fits = refl
ending_of-with kept (Desk a) (Feed b) ending fits = refl

-- no place is counted for one that has not ended
no-place : (o : Option Ending) → is_some o ≡ false → one_if_some o ≡ 0
no-place None h = refl
no-place (Some e) h = absurd (cc h)

-- one place less is kept for it
pub places-with : (kept : Desks) (actor : Actor) (ending : Ending) → IsOneOrTwo (number_of actor) → is_some (ending_of kept actor) ≡ false
    → places_kept (with_ending actor ending kept) + 1 ≡ places_kept kept
places-with kept (Feed number) ending fits lives =
    omega (
      arith,
      count-with number (Some ending) kept.feeds_ended fits,
      no-place (at_number kept.feeds_ended number) lives,
      count-le (with_number number (Some ending) kept.feeds_ended),
      count-le kept.desks_ended,
    )
places-with kept (Desk number) ending fits lives =
    omega (
      arith,
      count-with number (Some ending) kept.desks_ended fits,
      no-place (at_number kept.desks_ended number) lives,
      count-le (with_number number (Some ending) kept.desks_ended),
      count-le kept.feeds_ended,
    )

-- what is kept mirrors the state after an end
mirrors-ended : (setup : Given) (service : Service) (kept : Desks) (s : State) (old new : List Entry) (actor : Actor) (ending : Ending)
    → Mirrors setup service kept s old → IsOneOrTwo (number_of actor) → has_ended s actor ≡ false → kept.given_up ≡ list_any (λ (entry : Entry). is_abandoned entry.event) new
    → Mirrors setup service (with_ending actor ending kept) (record s { ended = s.ended ++ (actor, ending) ∷ [] }) new
mirrors-ended setup service kept s old new actor ending m fits lives given_up = record {
  state_is = ap (λ (t : State). record t { ended = t.ended ++ (actor, ending) ∷ [] }) m.state_is;
  opened_is = same_opened actor;
  open_are = same_open actor;
  ended_are = λ other. list_any-append (λ (end : Actor × Ending). is_actor end.0 other) s.ended ((actor, ending) ∷ [])
      ∙ ended other (is_actor actor other) refl;
  whole_are = λ other. list_any-append (λ (end : Actor × Ending). is_actor end.0 other && is_whole end.1) s.ended ((actor, ending) ∷ [])
      ∙ whole other (is_actor actor other) refl;
  given_up_is = same_given_up actor;
}
  where
    same_opened : (a : Actor) → (with_ending a ending kept).opened ≡ s.opened
    same_opened (Feed n) = m.opened_is
    same_opened (Desk n) = m.opened_is

    same_open : (a : Actor) (desk : ℕ) → option_map (λ (batch : BatchCopy). batch.number) (open_batch_of s desk) ≡ at_number (with_ending a ending kept).batches desk
    same_open (Feed n) = m.open_are
    same_open (Desk n) = m.open_are

    same_given_up : (a : Actor) → (with_ending a ending kept).given_up ≡ list_any (λ (entry : Entry). is_abandoned entry.event) new
    same_given_up (Feed n) = given_up
    same_given_up (Desk n) = given_up

    ended : (other : Actor) (b : Bool) → is_actor actor other ≡ b
        → (has_ended s other || (is_actor actor other || false)) ≡ is_some (ending_of (with_ending actor ending kept) other)
    ended other true is =
        ap (λ b. has_ended s other || (b || false)) is ∙ or-true (has_ended s other)
        ∙ sym (ap is_some (ending_of-with kept actor other ending fits ∙ ap (λ b. cond b (Some ending) (ending_of kept other)) is))
    ended other false is =
        ap (λ b. has_ended s other || (b || false)) is ∙ or-false (has_ended s other) ∙ m.ended_are other
        ∙ sym (ap is_some (ending_of-with kept actor other ending fits ∙ ap (λ b. cond b (Some ending) (ending_of kept other)) is))

    not_whole : (o : Option Ending) → is_some o ≡ false → is_whole_end o ≡ false
    not_whole None h = refl
    not_whole (Some e) h = absurd (cc h)

    whole : (other : Actor) (b : Bool) → is_actor actor other ≡ b
        → (ended_whole s other || ((is_actor actor other && is_whole ending) || false)) ≡ is_whole_end (ending_of (with_ending actor ending kept) other)
    whole other true is =
        let lived : is_some (ending_of kept other) ≡ false
        = sym (m.ended_are other) ∙ ap (has_ended s) (sym (is_actor-same actor other is)) ∙ lives in
        ap (λ b. ended_whole s other || ((b && is_whole ending) || false)) is
        ∙ ap (λ b. b || (is_whole ending || false)) (m.whole_are other ∙ not_whole (ending_of kept other) lived)
        ∙ or-false (is_whole ending)
        ∙ sym (ap is_whole_end (ending_of-with kept actor other ending fits ∙ ap (λ b. cond b (Some ending) (ending_of kept other)) is))
    whole other false is =
        ap (λ b. ended_whole s other || ((b && is_whole ending) || false)) is ∙ or-false (ended_whole s other) ∙ m.whole_are other
        ∙ sym (ap is_whole_end (ending_of-with kept actor other ending fits ∙ ap (λ b. cond b (Some ending) (ending_of kept other)) is))

-- an actor that may end is one of two, and has not ended
record MayFinish (s : State) (actor : Actor) : Type 0 where
  fits : IsOneOrTwo (number_of actor)
  lives : has_ended s actor ≡ false

may-finish : (feeds desks : ℕ) (s : State) (actor : Actor) (ending : Ending) → feeds ≤ 2 → desks ≤ 2 → IsLegalEvent feeds desks s actor (Finish ending)
    → MayFinish s actor
may-finish feeds desks s (Feed number) ending feeds_fit desks_fit ((low, high), lives) = record { fits = (low, omega arith); lives = lives }
may-finish feeds desks s (Desk number) ending feeds_fit desks_fit ((low, high), lives, may) = record { fits = (low, omega arith); lives = lives }

-- a board goes on by an end
pub board-ended : (setup : Given) (service : Service) (kept : Desks) (capacity room : ℕ) (board : Recorded) (actor : Actor) (ending : Ending)
    → IsBoard setup service kept capacity board → IsLegalEvent board.feeds board.desks (state_of board) actor (Finish ending) → capacity ≤ room
    → IsBoard setup service (with_ending actor ending kept) room (pushed board (record { actor = actor; event = Finish ending }) board.spare)
board-ended setup service kept capacity room board actor ending is legal rises =
    let s : State = state_of board in
    let entry : Entry = record { actor = actor; event = Finish ending } in
    let may = may-finish board.feeds board.desks s actor ending is.recorded.feeds_fit.1 is.recorded.desks_fit.1 legal in
    let after_end : state_of (pushed board entry board.spare) ≡ record s { ended = s.ended ++ (actor, ending) ∷ [] }
    = replay-push board.start board.history entry ∙ by_actor s actor in
    record {
      ids_are = is.ids_are;
      recorded = recorded-push board entry board.spare is.recorded legal
          (within-push board.start.settings.log board.history entry is.recorded.fed_within tt
          (λ feed. omega (arith, none-of_others entry refl feed, is.recorded.fed_within.few feed)));
      mirrors = subst (λ t. Mirrors setup service (with_ending actor ending kept) t (board.history ++ entry ∷ [])) (sym after_end)
          (mirrors-ended setup service kept s board.history (board.history ++ entry ∷ []) actor ending is.mirrors may.fits may.lives
          (is.mirrors.given_up_is ∙ sym (abandoned-push board.history entry refl)));
      room = omega (
        arith,
        is.room,
        rises,
        places-with kept actor ending may.fits (sym (is.mirrors.ended_are actor) ∙ may.lives),
        length-append board.history (entry ∷ []),
      );
    }
  where
    by_actor : (s : State) (a : Actor) → after_event s a (Finish ending) ≡ record s { ended = s.ended ++ (a, ending) ∷ [] }
    by_actor s (Feed n) = refl
    by_actor s (Desk n) = refl
