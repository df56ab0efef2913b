-- Histories that go on.
use Rattle.model_laws.proofs.Common.{◌≡◌, ℕ, List, [], ◌∷◌, ◌++◌, refl, Entry, State, after_entry, replay, IsLegalEntry, IsLegal}

-- the state after one history and then another
pub replay-append : (s : State) (first second : List Entry) → replay s (first ++ second) ≡ replay (replay s first) second
unfolding replay
replay-append s [] second = refl
replay-append s (entry ∷ entries) second = replay-append (after_entry s entry) entries second

-- the state after one entry more
pub replay-push : (s : State) (entries : List Entry) (entry : Entry) → replay s (entries ++ entry ∷ []) ≡ after_entry (replay s entries) entry
unfolding replay
replay-push s [] entry = refl
replay-push s (first ∷ entries) entry = replay-push (after_entry s first) entries entry

-- a legal history goes on legally from the state after it
pub IsLegal-append : (feeds desks : ℕ) (s : State) (first second : List Entry)
    → IsLegal feeds desks s first → IsLegal feeds desks (replay s first) second → IsLegal feeds desks s (first ++ second)
unfolding replay IsLegal
IsLegal-append feeds desks s [] second a b = b
IsLegal-append feeds desks s (entry ∷ entries) second (legal, rest) b =
    (legal, IsLegal-append feeds desks (after_entry s entry) entries second rest b)

-- a legal history goes on by a legal entry
pub IsLegal-push : (feeds desks : ℕ) (s : State) (entries : List Entry) (entry : Entry)
    → IsLegal feeds desks s entries → IsLegalEntry feeds desks (replay s entries) entry → IsLegal feeds desks s (entries ++ entry ∷ [])
unfolding replay IsLegal
IsLegal-push feeds desks s [] entry a b = (b, tt)
IsLegal-push feeds desks s (first ∷ entries) entry (legal, rest) b =
    (legal, IsLegal-push feeds desks (after_entry s first) entries entry rest b)

-- both parts of a legal history are legal, the second from the state after the first
pub IsLegal-parts : (feeds desks : ℕ) (s : State) (first second : List Entry)
    → IsLegal feeds desks s (first ++ second) → IsLegal feeds desks s first × IsLegal feeds desks (replay s first) second
unfolding replay IsLegal
IsLegal-parts feeds desks s [] second h = (tt, h)
IsLegal-parts feeds desks s (entry ∷ entries) second (legal, rest) =
    let (a, b) = IsLegal-parts feeds desks (after_entry s entry) entries second rest in
    ((legal, a), b)
