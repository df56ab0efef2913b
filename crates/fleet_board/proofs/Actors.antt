-- Feeds and desks that have not ended, what a turn finds of them, and what others leave of a desk's batch.
use Rattle.fleet_board.proofs.Common.{◌≡◌, ℕ, ◌+◌, ◌-◌, ◌≤◌, true, false, List, [], ◌++◌, sym, ap, subst, ◌∙◌, arith, All, filter_map, ◌==◌, eqb-true, and_parts, append-nil, filter-append, Actor, Feed, Desk, Entry, entries_of, command_of, fed_commands, IsNumbered, BatchCopy, State, has_ended, is_batch, open_batch_of, open_batch_numbered, IsOneOrTwo, HasLine, ended-same, ended-others, found-others, open_batch-others, one_or_two, Recorded, state_of, items_of, Known, maker_of, commands_in, root_of, seen_state, desk_of, IsPoint, IsFeed, IsDesk, Finds}
use Rattle.model_laws.proofs.history_laws.Effects.{ends_in}
use Rattle.fleet_board.proofs.Parts.{nothing_behind, items-feed, items-desk}
use Rattle.fleet_board.proofs.Points.{Added, Looked, state-added, state-looked, found-state}

-- the entries of an actor, in two parts
pub entries-append : (actor : Actor) (first second : List Entry) → entries_of actor (first ++ second) ≡ entries_of actor first ++ entries_of actor second
unfolding entries_of
entries-append actor first second = filter-append _ first second

-- what a turn finds of the actor whose entries are those of the pass's number
record ActorFound (k : Known) (board : Recorded) (f : Finds k board) (actor : Actor) : Type 0 where
  own_are : entries_of actor board.history ≡ k.own
  none_between : entries_of actor f.between ≡ []

actor-found : (k : Known) (board : Recorded) (f : Finds k board) (actor : Actor) → IsPoint k
    → ((log : ℕ) (entries : List Entry) → All (HasLine log) entries → items_of maker_of k.number entries ≡ entries_of actor entries)
    → ActorFound k board f actor
actor-found k board f actor point parts =
    let in_seen : items_of maker_of k.number k.seen ≡ entries_of actor k.seen = parts (root_of k).start.settings.log k.seen point.text.lines in
    let in_all : items_of maker_of k.number board.history ≡ entries_of actor board.history
    = parts board.start.settings.log board.history f.told.text.lines in
    let no_more : items_of maker_of k.number board.history ≡ items_of maker_of k.number k.seen
    = ap (items_of maker_of k.number) f.goes_on ∙ filter-append _ k.seen f.between
    ∙ ap (λ (items : List Entry). items_of maker_of k.number k.seen ++ items) f.others
    ∙ append-nil (items_of maker_of k.number k.seen) in
    record {
      own_are = sym in_all ∙ no_more ∙ sym point.own_are;
      none_between = nothing_behind (entries_of actor k.seen) (entries_of actor f.between) (
          sym (entries-append actor k.seen f.between) ∙ ap (entries_of actor) (sym f.goes_on) ∙ sym in_all ∙ no_more ∙ in_seen
          );
    }

-- an actor that has not ended has not at what a turn finds
actor-lives : (k : Known) (board : Recorded) (f : Finds k board) (actor : Actor) → ActorFound k board f actor
    → has_ended (seen_state k) actor ≡ false → has_ended (state_of board) actor ≡ false
actor-lives k board f actor found lives =
    ap (λ (s : State). has_ended s actor) (found-state k board f)
    ∙ ended-others actor (seen_state k) f.between found.none_between ∙ lives

-- what a turn of a feed finds
pub record FeedFound (k : Known) (board : Recorded) : Type 0 where
  pub numbered : IsNumbered board.feeds k.number
  pub one_or_two : IsOneOrTwo k.number
  pub lives : has_ended (state_of board) (Feed k.number) ≡ false
  pub commands : fed_commands k.number board.history ≡ commands_in k.own

pub feed-found : (k : Known) (board : Recorded) → IsPoint k → IsFeed k → Finds k board → FeedFound k board
feed-found k board point feed f =
    let fits : IsOneOrTwo k.number = one_or_two (root_of k).feeds k.number point.text.feeds_number feed.numbered in
    let found = actor-found k board f (Feed k.number) point (λ log entries lines. items-feed log k.number entries lines fits) in
    record {
      numbered = subst (λ (r : Recorded). IsNumbered r.feeds k.number) f.began feed.numbered;
      one_or_two = fits;
      lives = actor-lives k board f (Feed k.number) found feed.not_ended;
      commands = ap (filter_map (λ (entry : Entry). command_of entry.event)) found.own_are;
    }

-- what a turn of a desk finds: its batches are those that it had
pub record DeskFound (k : Known) (board : Recorded) : Type 0 where
  pub number_is : desk_of k + 2 ≡ k.number
  pub numbered : IsNumbered board.desks (desk_of k)
  pub one_or_two : IsOneOrTwo (desk_of k)
  pub lives : has_ended (state_of board) (Desk (desk_of k)) ≡ false
  pub same_open : open_batch_of (state_of board) (desk_of k) ≡ open_batch_of (seen_state k) (desk_of k)
  pub same_numbered : (number : ℕ) → open_batch_numbered (state_of board) (desk_of k) number ≡ open_batch_numbered (seen_state k) (desk_of k) number

pub desk-found : (k : Known) (board : Recorded) → IsPoint k → IsDesk k → Finds k board → DeskFound k board
desk-found k board point desk f =
    let fits : IsOneOrTwo (desk_of k) = one_or_two (root_of k).desks (desk_of k) point.text.desks_number desk.numbered in
    let is : desk_of k + 2 ≡ k.number = above k.number desk.above_feeds in
    let found = actor-found k board f (Desk (desk_of k)) point (λ log entries lines.
    ap (λ n. items_of maker_of n entries) (sym is) ∙ items-desk log (desk_of k) entries lines fits) in
    record {
      number_is = is;
      numbered = subst (λ (r : Recorded). IsNumbered r.desks (desk_of k)) f.began desk.numbered;
      one_or_two = fits;
      lives = actor-lives k board f (Desk (desk_of k)) found desk.not_ended;
      same_open = ap (λ (s : State). open_batch_of s (desk_of k)) (found-state k board f)
          ∙ open_batch-others (desk_of k) (seen_state k) f.between found.none_between;
      same_numbered = λ number. ap (λ (s : State). open_batch_numbered s (desk_of k) number) (found-state k board f)
          ∙ found-others (desk_of k) (is_batch (desk_of k) number) (of_desk (desk_of k) number) (seen_state k) f.between found.none_between;
    }
  where
    above : (n : ℕ) → 3 ≤ n → n - 2 + 2 ≡ n
    above n low = omega (arith, low)

    of_desk : (d number : ℕ) (b : BatchCopy) → is_batch d number b ≡ true → b.desk ≡ d
    of_desk d number b passes = eqb-true b.desk d (and_parts (b.desk == d) (b.number == number) passes).0

-- a feed that has not ended has not, after an entry that is no end
pub feed-added : (k after : Known) (old new : Recorded) (entry : Entry) → Added k after old new entry → IsPoint k → IsFeed k
    → ends_in entry.actor entry.event ≡ [] → IsFeed after
feed-added k after old new entry a point feed no_end = record {
  numbered = subst (λ (x : Known). IsNumbered (root_of x).feeds x.number) (sym a.knows) feed.numbered;
  not_ended =
      ap (λ (x : Known). has_ended (seen_state after) (Feed x.number)) a.knows
      ∙ ap (λ (s : State). has_ended s (Feed k.number)) (state-added k after old new entry a)
      ∙ ended-same (state_of old) entry.actor (Feed k.number) entry.event no_end
      ∙ (feed-found k old point feed a.found).lives;
}

-- and so a desk
pub desk-added : (k after : Known) (old new : Recorded) (entry : Entry) → Added k after old new entry → IsPoint k → IsDesk k
    → ends_in entry.actor entry.event ≡ [] → IsDesk after
desk-added k after old new entry a point desk no_end = record {
  above_feeds = subst (λ (x : Known). 3 ≤ x.number) (sym a.knows) desk.above_feeds;
  numbered = subst (λ (x : Known). IsNumbered (root_of x).desks (desk_of x)) (sym a.knows) desk.numbered;
  not_ended =
      ap (λ (x : Known). has_ended (seen_state after) (Desk (desk_of x))) a.knows
      ∙ ap (λ (s : State). has_ended s (Desk (desk_of k))) (state-added k after old new entry a)
      ∙ ended-same (state_of old) entry.actor (Desk (desk_of k)) entry.event no_end
      ∙ (desk-found k old point desk a.found).lives;
}

-- nor after a turn in which nothing was added
pub feed-looked : (k after : Known) (old : Recorded) → Looked k after old → IsPoint k → IsFeed k → IsFeed after
feed-looked k after old l point feed = record {
  numbered = subst (λ (x : Known). IsNumbered (root_of x).feeds x.number) (sym l.knows) feed.numbered;
  not_ended =
      ap (λ (x : Known). has_ended (seen_state after) (Feed x.number)) l.knows
      ∙ ap (λ (s : State). has_ended s (Feed k.number)) (state-looked k after old l)
      ∙ (feed-found k old point feed l.found).lives;
}

pub desk-looked : (k after : Known) (old : Recorded) → Looked k after old → IsPoint k → IsDesk k → IsDesk after
desk-looked k after old l point desk = record {
  above_feeds = subst (λ (x : Known). 3 ≤ x.number) (sym l.knows) desk.above_feeds;
  numbered = subst (λ (x : Known). IsNumbered (root_of x).desks (desk_of x)) (sym l.knows) desk.numbered;
  not_ended =
      ap (λ (x : Known). has_ended (seen_state after) (Desk (desk_of x))) l.knows
      ∙ ap (λ (s : State). has_ended s (Desk (desk_of k))) (state-looked k after old l)
      ∙ (desk-found k old point desk l.found).lives;
}
