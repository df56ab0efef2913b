-- Requests whose states are set one after another.
use Rattle.board_core.proofs.Common.{◌≡◌, ℕ, zero, suc, ◌+◌, ◌<◌, Bool, List, [], ◌∷◌, ◌++◌, length, map, take, get_or, refl, ◌∙◌, ap, arith, sym, add-one, RequestState, Ride, with_request_states, State, with_request_state, ride_ids, marked_in}

-- the state with these rides' requests in one state has their ids marked
pub with_states-marked : (state : RequestState) (rides : List Ride) (s : State)
    → with_request_states state rides s ≡ record s { requests = marked_in state (ride_ids rides) s.requests }
with_states-marked state [] s = refl
with_states-marked state (ride ∷ rides) s = with_states-marked state rides (with_request_state ride.id state s)

-- one flag more
pub flags-more : (f : ℕ → Bool) (rides : List Ride) (place : ℕ) (d : Ride) (flag : Bool) (old new : List Bool) → place < length rides
    → old ≡ map f (ride_ids (take place rides)) → new ≡ old ++ flag ∷ [] → flag ≡ f (get_or rides place d).id
    → new ≡ map f (ride_ids (take (place + 1) rides))
flags-more f rides place d flag old new low old_is new_is flag_is =
    new_is ∙ ap (λ flags. flags ++ flag ∷ []) old_is ∙ ap (λ b. map f (ride_ids (take place rides)) ++ b ∷ []) flag_is
    ∙ step rides place low ∙ ap (λ n. map f (ride_ids (take n rides))) (sym (add-one place))
  where
    step : (rs : List Ride) (n : ℕ) → n < length rs
        → map f (ride_ids (take n rs)) ++ f (get_or rs n d).id ∷ [] ≡ map f (ride_ids (take (suc n) rs))
    step [] n h = absurd (omega arith)
    step (r ∷ rs) zero h = refl
    step (r ∷ rs) (suc n) h = ap (λ flags. f r.id ∷ flags) (step rs n (omega arith))
