-- A company of a league is awarded its part of a round.
use Rattle.fleet_league.proofs.Common.{◌≡◌, ◌≢◌, ℕ, Bool, true, false, sym, arith, List, [], ◌∷◌, ◌++◌, refl, ap, subst, ◌∙◌, append_assoc, All, Contains, Entry, Ride, IsLegal, replay, State, accepted_request, IsSpelled, IsSpelledCommand, among_from_contains, of_all, IsLegal-parts, replay-append, state_of, Brief, Win, AddsAward, won_rides, asking_entries, confirming_entry, opening_entry, request_of, CompanyState, report_count, IsPlayed, is_of, is_of-among, of_rides, IsAwarded}
use Rattle.fleet_league.proofs.Awarded.{reports-award}
use Rattle.fleet_league.proofs.WonOnly.{won-only}

-- a ride whose request has a text
pub id-spelled : (log : ℕ) (ride : Ride) → IsSpelledCommand log (request_of ride) → IsSpelled ride.id
id-spelled log ride spelled = spelled.0

-- a board after a confirmed award
award-state : (old new : CompanyState) (brief : Brief) (adds : AddsAward (state_of old.board) brief old.board.history new.board.history)
    → new.board.start ≡ old.board.start
    → state_of new.board ≡ replay (state_of old.board) (asking_entries (state_of old.board) brief.wins
    ++ opening_entry (state_of old.board) brief.wins ∷ confirming_entry (state_of old.board) brief adds.seats ∷ [])
award-state old new brief adds start =
    let s : State = state_of old.board in
    let last : List Entry = opening_entry s brief.wins ∷ confirming_entry s brief adds.seats ∷ [] in
    (λ i. replay (start i) (adds.grows i))
    ∙ ap (replay old.board.start) (append_assoc old.board.history (asking_entries s brief.wins) last)
    ∙ replay-append old.board.start old.board.history (asking_entries s brief.wins ++ last)

pub is-awarded : (old new : CompanyState) (brief : Brief) → new.board.start ≡ old.board.start → (brief.wins ≡ [] → new ≡ old)
    → (brief.wins ≢ [] → AddsAward (state_of old.board) brief old.board.history new.board.history)
    → IsLegal 1 1 new.board.start new.board.history → IsAwarded brief (state_of old.board) (state_of new.board)
is-awarded old new brief start none some legal = record {
  none_won = λ is. ap (λ (s : CompanyState). state_of s.board) (none is);
  won = λ is.
      let s : State = state_of old.board in
      let adds = some is in
      let entries : List Entry = asking_entries s brief.wins ++ opening_entry s brief.wins ∷ confirming_entry s brief adds.seats ∷ [] in (
        entries,
        record { seats = adds.seats; seats_are = adds.seats_are; grows = refl },
        (IsLegal-parts 1 1 old.board.start old.board.history entries
            (subst (λ (h : List Entry). IsLegal 1 1 old.board.start h)
            (adds.grows ∙ append_assoc old.board.history (asking_entries s brief.wins)
            (opening_entry s brief.wins ∷ confirming_entry s brief adds.seats ∷ []))
            (subst (λ (x : State). IsLegal 1 1 x new.board.history) start legal))).1,
        award-state old new brief adds start,
      );
}

-- one that has not won a request that is none of the rides
not-won : (rides : List Ride) (wins : List Win) (id : ℕ) → All (Contains rides) (won_rides wins) → is_of rides id ≡ false
    → is_of (won_rides wins) id ≡ false
not-won rides wins id of_them other = by_test (is_of (won_rides wins) id) refl
  where
    by_test : (b : Bool) → is_of (won_rides wins) id ≡ b → is_of (won_rides wins) id ≡ false
    by_test false is = is
    by_test true is =
        let (ride, there, same) = of_rides (won_rides wins) id is in
        let among = among_from_contains rides ride (of_all (Contains rides) (won_rides wins) ride of_them there) in
        let one : is_of rides id ≡ true = ap (is_of rides) (sym same) ∙ is_of-among rides ride among in
        absurd (cc (one, other))

-- a company has played a round, where it was awarded wins of its rides
pub is-played : (old new : CompanyState) (brief : Brief) (rides : List Ride) → new.board.start ≡ old.board.start → new.is_open ≡ true
    → (brief.wins ≡ [] → new ≡ old)
    → (brief.wins ≢ [] → AddsAward (state_of old.board) brief old.board.history new.board.history)
    → All (Contains rides) (won_rides brief.wins) → IsPlayed rides old new
is-played old new brief rides start still none some of_them = by_wins brief.wins refl
  where
    by_wins : (wins : List Win) → brief.wins ≡ wins → IsPlayed rides old new
    by_wins [] is =
        let same : new ≡ old = none is in
        record {
          start = start;
          is_open = still;
          reports = ap (λ (s : CompanyState). report_count s.board.history) same;
          few_asked = omega (arith, ap (λ (s : CompanyState). (state_of s.board).asked) same);
          others_stay = λ id other was. ap (λ (s : CompanyState). accepted_request (state_of s.board) id) same ∙ was;
        }
    by_wins (win ∷ wins) is =
        let adds = some (λ empty. cc (sym is ∙ empty)) in
        let s : State = state_of old.board in
        let state_is = award-state old new brief adds start in
        record {
          start = start;
          is_open = still;
          reports = reports-award s brief.wins old.board.history new.board.history (confirming_entry s brief adds.seats) refl adds.grows;
          few_asked = omega (arith, ap (λ (t : State). t.asked) state_is, (won-only 0 s brief adds.seats).few_asked);
          others_stay = λ id other was. ap (λ (t : State). accepted_request t id) state_is
              ∙ (won-only id s brief adds.seats).no_other (not-won rides brief.wins id of_them other) was;
        }
