-- Ends: what is legal at what a pass has seen is legal at its turn, and what feeds and desks may do.
use Rattle.fleet_board.proofs.Common.{◌≡◌, ℕ, ◌-◌, ◌≤◌, Bool, true, false, cond, ◌++◌, refl, sym, ap, subst, ◌∙◌, arith, nat_le, nat_lt, is_some, Feed, Desk, Ending, Whole, Finish, next_batch, IsLegal, IsLegalEvent, all_feeds_ended, State, IsLegal-parts, consistent, NoneToCome, none_to_come, one_or_two, Batch, Idle, Ended, Recorded, state_of, OpensNone, Known, pass_number, actor_of, root_of, seen_state, desk_of, IsPoint, IsFeed, IsDesk, Finds}
use Rattle.fleet_board.proofs.Actors.{feed-found, desk-found}
use Rattle.fleet_board.proofs.Points.{found-state}

-- the end of a pass's actor at a state
abbrev pub MayFinish : Known → Ending → Type 0
MayFinish k ending = IsLegalEvent (root_of k).feeds (root_of k).desks (seen_state k) (actor_of k.number) (Finish ending)

above_two : (n : ℕ) → nat_le n 2 ≡ false → 3 ≤ n
above_two n above = grind arith

at_most_two : (n : ℕ) → nat_le n 2 ≡ true → n ≤ 2
at_most_two n below = grind arith

-- the entry of its end is of its number
pub end-made : (n : ℕ) → pass_number (actor_of n) ≡ n
end-made n = by_test (nat_le n 2) refl
  where
    by_test : (b : Bool) → nat_le n 2 ≡ b → pass_number (cond b (Feed n) (Desk (n - 2))) ≡ n
    by_test true is = refl
    by_test false is = omega (arith, above_two n is)

-- no batch is to come at a turn, where none was at what was seen
none-found : (k : Known) (board : Recorded) → Finds k board → NoneToCome (root_of k).feeds (seen_state k) → NoneToCome board.feeds (state_of board)
none-found k board f none =
    let legal : IsLegal (root_of k).feeds (root_of k).desks (root_of k).start (k.seen ++ f.between)
    = subst (IsLegal (root_of k).feeds (root_of k).desks (root_of k).start) f.goes_on
    (subst (λ (r : Recorded). IsLegal r.feeds r.desks r.start board.history) (sym f.began) f.told.legal) in
    let parts = IsLegal-parts (root_of k).feeds (root_of k).desks (root_of k).start k.seen f.between legal in
    subst (λ n. NoneToCome n (state_of board)) (ap (λ (r : Recorded). r.feeds) f.began)
    (subst (NoneToCome (root_of k).feeds) (sym (found-state k board f))
    (none_to_come (root_of k).feeds (root_of k).desks (seen_state k) f.between parts.1 none))

-- an end that is legal at what was seen is legal at the turn
pub may-end : (k : Known) (board : Recorded) (ending : Ending) → IsPoint k → Finds k board → MayFinish k ending
    → IsLegalEvent board.feeds board.desks (state_of board) (actor_of k.number) (Finish ending)
may-end k board ending point f may = by_test (nat_le k.number 2) refl may
  where
    by_test : (b : Bool) → nat_le k.number 2 ≡ b
        → IsLegalEvent (root_of k).feeds (root_of k).desks (seen_state k) (cond b (Feed k.number) (Desk (k.number - 2))) (Finish ending)
        → IsLegalEvent board.feeds board.desks (state_of board) (cond b (Feed k.number) (Desk (k.number - 2))) (Finish ending)
    by_test true is (numbered, lives) =
        let found = feed-found k board point (record { numbered = numbered; not_ended = lives }) f in
        (found.numbered, found.lives)
    by_test false is (numbered, lives, may) =
        let desk : IsDesk k = record { above_feeds = above_two k.number is; numbered = numbered; not_ended = lives } in
        let found = desk-found k board point desk f in (
          found.numbered,
          found.lives,
          record {
            none_open = ap is_some found.same_open ∙ may.none_open;
            whole = λ is_whole.
                let none = none-found k board f (record { all_opened = (may.whole is_whole).0; all_ended = (may.whole is_whole).1 }) in
                (none.all_opened, none.all_ended);
          },
        )

-- the actor of a feed's pass, and of a desk's
feed-actor : (n : ℕ) → n ≤ 2 → actor_of n ≡ Feed n
feed-actor n low = by_test (nat_le n 2) refl
  where
    by_test : (b : Bool) → nat_le n 2 ≡ b → cond b (Feed n) (Desk (n - 2)) ≡ Feed n
    by_test true is = refl
    by_test false is = absurd (omega (arith, low, above_two n is))

desk-actor : (n : ℕ) → 3 ≤ n → actor_of n ≡ Desk (n - 2)
desk-actor n high = by_test (nat_le n 2) refl
  where
    by_test : (b : Bool) → nat_le n 2 ≡ b → cond b (Feed n) (Desk (n - 2)) ≡ Desk (n - 2)
    by_test true is = absurd (omega (arith, high, at_most_two n is))
    by_test false is = refl

-- a feed that has not ended may end
pub feed-may_end : (k : Known) (ending : Ending) → IsPoint k → IsFeed k → MayFinish k ending
feed-may_end k ending point feed =
    subst (λ actor. IsLegalEvent (root_of k).feeds (root_of k).desks (seen_state k) actor (Finish ending))
    (sym (feed-actor k.number (one_or_two (root_of k).feeds k.number point.text.feeds_number feed.numbered).1))
    (feed.numbered, feed.not_ended)

-- a desk that was told that no batch is to come may end whole
pub desk-may_end : (k after : Known) → IsPoint after → IsDesk after → OpensNone k after Ended → MayFinish after Whole
desk-may_end k after point desk none =
    subst (λ actor. IsLegalEvent (root_of after).feeds (root_of after).desks s actor (Finish Whole)) (sym (desk-actor after.number desk.above_feeds)) (
      desk.numbered,
      desk.not_ended,
      record {
        none_open = none.none_open;
        whole = λ is. by_told (nat_lt s.opened s.asked) refl (all_feeds_ended (root_of after).feeds s) refl none.told;
      },
    )
  where
    s : State
    s = seen_state after

    all_opened : nat_lt s.opened s.asked ≡ false → s.opened ≡ s.asked
    all_opened above =
        let c = consistent (root_of after).feeds (root_of after).desks (root_of after).start after.seen point.start_fits point.legal in
        equal s.opened s.asked above c.few_opened
      where
        equal : (a b : ℕ) → nat_lt a b ≡ false → a ≤ b → a ≡ b
        equal a b above le = grind arith

    by_told : (t : Bool) → nat_lt s.opened s.asked ≡ t → (u : Bool) → all_feeds_ended (root_of after).feeds s ≡ u
        → Ended ≡ cond t (Batch (next_batch s (desk_of after))) (cond u Ended Idle)
        → (s.opened ≡ s.asked) × (all_feeds_ended (root_of after).feeds s ≡ true)
    by_told true is u ended told = absurd (cc told)
    by_told false is true ended told = (all_opened is, ended)
    by_told false is false ended told = absurd (cc told)
