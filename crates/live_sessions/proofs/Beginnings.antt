-- A session that begins is one that goes on from a board on which nothing happened.
use Rattle.live_sessions.proofs.Common.{◌≡◌, ℕ, ◌≤◌, ◌&&◌, Bool, true, false, not, List, [], ◌⊎◌, inl, inr, length, Option, None, refl, sym, ap, subst, ◌∙◌, arith, nat_le, Feed, Entry, Settings, Vehicle, entries_of, fed_commands, replay, most_earlier_commands, RoadMap, State, has_ended, open_batch_of, start_state, Ran, IsStart, Recorded, state_of, HasResumed, IsResumed, still_feeds, FeedRun, HasNotServed, IsServed}
use Rattle.live_sessions.specs.inner.Resuming.{MayGoOn}

-- nobody has ended and nothing is open at a start
replay-none : (s : State) → replay s [] ≡ s
unfolding replay
replay-none s = refl

-- a session may begin with no batch open
pub may-begin : (board : Recorded) (roads : RoadMap) (settings : Settings) (fleet : List Vehicle) (workers : ℕ)
    → board.start ≡ start_state roads settings fleet → board.history ≡ []
    → MayGoOn roads (record { board = board; first = None; second = None; workers = workers })
unfolding entries_of
may-begin board roads settings fleet workers starts bare = record {
  roads_are = ap (λ (s : State). s.roads) starts;
  first_is = sym (ap (λ (s : State). open_batch_of s 1) begins);
  second_is = sym (ap (λ (s : State). open_batch_of s 2) begins);
  few = λ feed. subst (λ (entries : List Entry). length (fed_commands feed entries) ≤ most_earlier_commands) (sym bare) (omega arith);
}
  where
    begins : state_of board ≡ start_state roads settings fleet
    begins = ap (replay board.start) bare ∙ replay-none board.start ∙ starts

module _ (desks : ℕ) (riders drivers : FeedRun) (ran : Ran) (before after : Option (List ℕ)) where
  -- both feeds are read
  first-feeds : (start : State) → IsStart start → (n : ℕ) → still_feeds start 2 [] n ≡ nat_le n 2
  first-feeds start begins n =
      ap (λ (s : State). nat_le n 2 && not (has_ended s (Feed n))) (replay-none start)
      ∙ ap (λ (s : State). nat_le n 2 && not (has_ended s (Feed n))) begins.nothing_yet
      ∙ and-true (nat_le n 2)
    where
      and-true : (b : Bool) → (b && true) ≡ b
      and-true true = refl
      and-true false = refl

  first-served : (start : State) → HasResumed start 2 desks [] riders drivers ran before after → IsServed start desks riders drivers ran before after
  unfolding entries_of
  first-served start r = (
    r.riders_taken,
    r.drivers_taken,
    r.more,
    r.history,
    r.of_riders.going (first-feeds start r.history.begins 1),
    r.of_drivers.going (first-feeds start r.history.begins 2),
    r.too_long,
    r.written,
  )

  -- what is logged of it
  pub served-first : (board : Recorded) (start : State) → board.start ≡ start → board.feeds ≡ 2 → board.desks ≡ desks → board.history ≡ []
      → HasNotServed riders drivers ran before after ⊎ IsResumed board riders drivers ran before after
      → HasNotServed riders drivers ran before after ⊎ IsServed start desks riders drivers ran before after
  served-first board start starts feeds_are desks_are bare (inl not) = inl not
  served-first board start starts feeds_are desks_are bare (inr resumed) = inr (first-served start
      (subst (λ (s : State). HasResumed s 2 desks [] riders drivers ran before after) starts
      (subst (λ f. HasResumed board.start f desks [] riders drivers ran before after) feeds_are
      (subst (λ d. HasResumed board.start board.feeds d [] riders drivers ran before after) desks_are
      (subst (λ (es : List Entry). HasResumed board.start board.feeds board.desks es riders drivers ran before after) bare resumed)))))
