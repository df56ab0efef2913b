-- Passes of a board that is shared, and of one on which nothing happened yet.
use Rattle.fleet_board.proofs.Common.{◌≡◌, ◌≢◌, ℕ, ◌+◌, ◌-◌, ◌≤◌, Bool, true, false, List, [], ◌∷◌, Option, Some, None, cond, eqb, length, refl, sym, ap, subst, ◌∙◌, arith, IsSomeAnd, MatchOption, is_some, find, nat_le, ◌==◌, list_any, eqb-true, eq-eqb, Actor, Feed, Desk, Ending, Entry, replay, IsNumbered, BatchCopy, State, is_actor, has_ended, Recorded, items_of, longer, at_start, after_split, split_off, after_join, HasNoneOpen, Known, IsPoint, IsFeed, IsDesk, maker_of, newcomer, one_if_some, IsTold, as_began}

-- a pass that has seen the history as it stands, and has its number's entries in it, stands at its end
pub point-of : (board : Recorded) → IsTold board → (k : Known) → k.root ≡ as_began board ∷ [] → k.seen ≡ board.history
    → k.own ≡ items_of maker_of k.number board.history → IsPoint k
point-of board told k rooted seen_is own_is =
    subst IsPoint (λ i. record k { root = sym rooted i; seen = sym seen_is i }) (record {
      root_is = refl;
      start_fits = told.start_fits;
      legal = told.legal;
      text = told.text;
      own_are = own_is;
    })

-- so does a new pass
pub new-point : (board : Recorded) → IsTold board → (n : ℕ) (k : Known) → k ≡ newcomer board n → IsPoint k
new-point board told n k is = subst IsPoint (sym is) (point-of board told (newcomer board n) refl refl refl)

-- of a board on which nothing happened yet, a new pass is one of the board as it began
pub new-began : (board : Recorded) → board.history ≡ [] → (n : ℕ) (k : Known) → k ≡ newcomer board n → k ≡ newcomer (as_began board) n
new-began board empty n k is = is ∙ (λ i. newcomer (record (as_began board) { history = empty i }) n)

module _ (board : Recorded) (told : IsTold board) where
  -- nobody has ended at the start, and no batch is open
  nobody : (actor : Actor) → has_ended (replay board.start []) actor ≡ false
  unfolding replay
  nobody actor = ap (λ (s : State). list_any (λ (end : Actor × Ending). is_actor end.0 actor) s.ended) told.start_fits.nothing_yet

  none : (desk : ℕ) → is_some (find (λ (b : BatchCopy). b.desk == desk) (replay board.start []).batches) ≡ false
  unfolding replay
  none desk = ap (λ (s : State). is_some (find (λ (b : BatchCopy). b.desk == desk) s.batches)) told.start_fits.nothing_yet

  -- a new pass of a feed at the start
  pub new-feed : (n : ℕ) (k : Known) → IsNumbered board.feeds n → k ≡ newcomer (as_began board) n → IsFeed k
  new-feed n k numbered is = subst IsFeed (sym is) (record { numbered = numbered; not_ended = nobody (Feed n) })

  -- a new pass of a desk at the start
  pub record NewDesk (k : Known) : Type 0 where
    pub desk : IsDesk k
    pub none_open : HasNoneOpen k

  pub new-desk : (n : ℕ) (k : Known) → 3 ≤ n → IsNumbered board.desks (n - 2) → k ≡ newcomer (as_began board) n → NewDesk k
  new-desk n k above numbered is = subst NewDesk (sym is) (record {
    desk = record { above_feeds = above; numbered = numbered; not_ended = nobody (Desk (n - 2)) };
    none_open = none (n - 2);
  })

-- the four splits of the first pass
pub record FourSplits (board : Recorded) (desk_2 desk_1 feed_2 feed_1 last : Known) : Type 0 where
  pub desk_2_is : desk_2 ≡ newcomer board 4
  pub desk_1_is : desk_1 ≡ newcomer board 3
  pub feed_2_is : feed_2 ≡ newcomer board 2
  pub feed_1_is : feed_1 ≡ newcomer board 1
  pub last_is : last ≡ record (newcomer board 0) { out = 4 }

-- the pass of number 0 at the start
abbrev first_of : Recorded → Known
first_of board = at_start maker_of (as_began board) board.history 5

pub four_splits : (board : Recorded) (first second third fourth last desk_2 desk_1 feed_2 feed_1 : Known) → first ≡ first_of board
    → second ≡ after_split first → desk_2 ≡ split_off maker_of first → third ≡ after_split second → desk_1 ≡ split_off maker_of second
    → fourth ≡ after_split third → feed_2 ≡ split_off maker_of third → last ≡ after_split fourth → feed_1 ≡ split_off maker_of fourth
    → FourSplits board desk_2 desk_1 feed_2 feed_1 last
four_splits board first second third fourth last desk_2 desk_1 feed_2 feed_1 a b b' c c' d d' e e' =
    let second_is : second ≡ after_split (first_of board) = b ∙ ap after_split a in
    let third_is : third ≡ after_split (after_split (first_of board)) = c ∙ ap after_split second_is in
    let fourth_is : fourth ≡ after_split (after_split (after_split (first_of board))) = d ∙ ap after_split third_is in
    record {
      desk_2_is = b' ∙ ap (split_off maker_of) a;
      desk_1_is = c' ∙ ap (split_off maker_of) second_is;
      feed_2_is = d' ∙ ap (split_off maker_of) third_is;
      feed_1_is = e' ∙ ap (split_off maker_of) fourth_is;
      last_is = e ∙ ap after_split fourth_is;
    }

-- the scribe's pass after a pass was kept, or joined for want of an actor: it has seen the history as it stood still
pub record StillSees (board : Recorded) (k : Known) : Type 0 where
  pub rooted : k.root ≡ as_began board ∷ []
  pub seen_is : k.seen ≡ board.history
  pub own_is : k.own ≡ items_of maker_of 0 board.history

same-longer : (history : List Entry) → longer history history ≡ history
same-longer history = either_way (nat_le (length history) (length history))
  where
    either_way : (b : Bool) → cond b history history ≡ history
    either_way true = refl
    either_way false = refl

pub still-sees : {X : Type 0} (board : Recorded) (k after pass : Known) (has_actor : Bool) (o : Option X) (P : X → Type 0) → StillSees board k
    → pass.seen ≡ board.history
    → MatchOption o ((has_actor ≡ false) × (after ≡ after_join k pass)) (λ p. (has_actor ≡ true) × (after ≡ k) × P p) → StillSees board after
still-sees board k after pass has_actor None P sees seen (without, is) = subst (StillSees board) (sym is) (record {
  rooted = sees.rooted;
  seen_is = (λ i. longer (sees.seen_is i) (seen i)) ∙ same-longer board.history;
  own_is = sees.own_is;
})
still-sees board k after pass has_actor (Some p) P sees seen (with_actor, is, rest) = subst (StillSees board) (sym is) sees

-- one pass less is out where it was joined
pub still-out : {X : Type 0} (k after pass : Known) (has_actor : Bool) (o : Option X) (P : X → Type 0) → 1 ≤ k.out
    → MatchOption o ((has_actor ≡ false) × (after ≡ after_join k pass)) (λ p. (has_actor ≡ true) × (after ≡ k) × P p)
    → after.out + 1 ≡ k.out + one_if_some o
still-out k after pass has_actor None P some (without, is) = omega (arith, ap (λ (x : Known). x.out) is, some)
still-out k after pass has_actor (Some p) P some (with_actor, is, rest) = omega (arith, ap (λ (x : Known). x.out) is)

-- a pass that is kept exactly where there are two
pub kept-second : {X : Type 0} (many : ℕ) (has_actor : Bool) (o : Option X) (pass : X) (A B : Type 0) (Q : X → Type 0) → has_actor ≡ eqb many 2
    → (many ≡ 2 → Q pass) → MatchOption o ((has_actor ≡ false) × A) (λ p. (has_actor ≡ true) × B × (p ≡ pass))
    → MatchOption o (many ≢ 2) (λ p. (many ≡ 2) × Q p)
kept-second many has_actor None pass A B Q is fits (without, rest) = λ two. absurd (cc (eq-eqb many 2 two, is, without))
kept-second many has_actor (Some p) pass A B Q is fits (with_actor, rest, same) =
    let two : many ≡ 2 = eqb-true many 2 (sym is ∙ with_actor) in
    (two, subst Q (sym same) (fits two))

-- what is so of a pass that there is, and of one that there may be
pub some-then : {X : Type 0} (P Q : X → Type 0) (o : Option X) → ((x : X) → P x → Q x) → IsSomeAnd o P → IsSomeAnd o Q
some-then P Q (Some x) then its = then x its
some-then P Q None then its = its

pub second-then : {X : Type 0} (A B : Type 0) (P Q : X → Type 0) (o : Option X) → ((x : X) → B → P x → Q x) → MatchOption o A (λ x. B × P x)
    → MatchOption o A (λ x. B × Q x)
second-then A B P Q (Some x) then (two, its) = (two, then x two its)
second-then A B P Q None then its = its
