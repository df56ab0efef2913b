-- A session at its start.
use Rattle.session_run.proofs.Common.{◌≡◌, false, List, [], refl, ap, sym, subst, ◌∙◌, Settings, Vehicle, replay, RoadMap, State, start_state, Recorded, state_of, IsPrompt, IsRunning, IsSettled}

-- a board before anything happened is between two commands
pub running-at-start : (board : Recorded) (roads : RoadMap) (settings : Settings) (fleet : List Vehicle) → board.start ≡ start_state roads settings fleet
    → board.feeds ≡ 1 → board.desks ≡ 1 → board.history ≡ [] → IsRunning board false
unfolding replay
running-at-start board roads settings fleet start feeds desks history =
    let at_start : state_of board ≡ start_state roads settings fleet = ap (replay board.start) history ∙ start in
    record {
      session = record {
        desks_are = desks;
        none_ended = ap (λ (s : State). s.ended) at_start;
        none_open = ap (λ (s : State). s.batches) at_start;
        settled = subst IsSettled (sym history) refl;
      };
      one_feed = feeds;
      all_opened = ap (λ (s : State). s.opened) at_start ∙ sym (ap (λ (s : State). s.asked) at_start);
      prompt = λ _. subst IsPrompt (sym history) (record { direct = refl; none_given_up = refl });
    }
