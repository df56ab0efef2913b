-- What a service of two feeds tells of what was taken of them, and of its status.
use Rattle.dispatcher.proofs.Common.{◌≡◌, ◌⊎◌, inl, inr, ℕ, ◌&&◌, Bool, true, false, List, [], Option, refl, sym, ap, subst, ◌∙◌, IsTrue, list_all, range_with_len, given_back, Reads, Ran, Reads-none, ended_whole, replay, Feed, Whole, Entry, FeedRun, HasNotServed, HasServed, IsServed, new_feed, Meaning, start_of, HasAnswered, Sunk, ending-whole, nobody-whole, whole-status}
use Rattle.live_sessions.specs.Serving.{IsFeedOf}
use Rattle.ride_ports.specs.Status.{status_of}
use Rattle.dispatcher.proofs.Bringing.{Worked}

two : (p : ℕ → Bool) → IsTrue (list_all p (range_with_len 1 2)) → (p 1 ≡ true) × (p 2 ≡ true)
two p is = by (p 1) (p 2) is
  where
    by : (a b : Bool) → IsTrue (a && (b && true)) → (a ≡ true) × (b ≡ true)
    by true true is = (refl, refl)
    by true false is = absurd (cc is)
    by false b is = absurd (cc is)

module _ (m : Meaning) (desks : ℕ) (riders drivers : FeedRun) (ran : Ran) (out : Sunk) where
  -- a feed that has ended whole
  ends-whole : (entries : List Entry) → HasServed (start_of m) 2 desks ran entries → (feed : ℕ) (run : FeedRun) (taken : List ℕ)
      → (of_feed : IsFeedOf (new_feed m.settings.log) feed run ran taken entries) → ended_whole (replay (start_of m) entries) (Feed feed) ≡ true
      → of_feed.ending ≡ Whole
  ends-whole entries has feed run taken of_feed whole =
      ending-whole feed (start_of m) entries of_feed.answers of_feed.ending (nobody-whole feed (start_of m) has.begins) whole of_feed.part of_feed.fed

  -- a session that was begun
  has-answered : IsServed (start_of m) desks riders drivers ran out.before out.after → HasAnswered m desks riders drivers ran out
  has-answered (riders_taken, drivers_taken, entries, has, of_riders, of_drivers, long, written) = record {
    riders_taken = riders_taken;
    drivers_taken = drivers_taken;
    entries = entries;
    written = written;
    legal = has;
    of_riders = of_riders;
    of_drivers = of_drivers;
    too_long = long;
    all_of_riders = λ zero. (riders_whole zero, (of_riders.whole (riders_whole zero)).0.within);
    all_of_drivers = λ zero. (drivers_whole zero, (of_drivers.whole (drivers_whole zero)).0.within);
  }
    where
      both_whole : status_of ran ≡ 0 → (ended_whole (replay (start_of m) entries) (Feed 1) ≡ true) × (ended_whole (replay (start_of m) entries) (Feed 2) ≡ true)
      both_whole zero =
          let whole = whole-status ran zero in
          two (λ feed. ended_whole (replay (start_of m) entries) (Feed feed)) (has.finished whole.memory whole.read).feeds_whole

      riders_whole : status_of ran ≡ 0 → of_riders.ending ≡ Whole
      riders_whole zero = ends-whole entries has 1 riders riders_taken of_riders (both_whole zero).0

      drivers_whole : status_of ran ≡ 0 → of_drivers.ending ≡ Whole
      drivers_whole zero = ends-whole entries has 2 drivers drivers_taken of_drivers (both_whole zero).1

  abbrev Served : Type 0
  Served = HasNotServed riders drivers ran out.before out.after ⊎ HasAnswered m desks riders drivers ran out

  pub served-of : HasNotServed riders drivers ran out.before out.after ⊎ IsServed (start_of m) desks riders drivers ran out.before out.after → Served
  served-of (inl not) = inl not
  served-of (inr served) = inr (has-answered served)

  -- what was done over each feed
  module _ (status : ℕ) (is : status ≡ status_of ran) where
    none-worked : (run : FeedRun) → run.left ≡ run.bytes → ran.no_memory ≡ true
        → Worked run.bytes run.faults_before (given_back run.faults_after run.left) status
    none-worked run same wanting = record {
      taken = [];
      reads = subst (λ (o : Option (List ℕ)). Reads run.bytes o []) (sym same) (Reads-none run.bytes);
      to_end = λ zero. absurd (cc (wanting, (whole-status ran (sym is ∙ zero)).memory));
      sound = λ zero. absurd (cc (wanting, (whole-status ran (sym is ∙ zero)).memory));
    }

    some-worked : (feed : ℕ) (run : FeedRun) (taken : List ℕ) (entries : List Entry)
        → (of_feed : IsFeedOf (new_feed m.settings.log) feed run ran taken entries) → (status_of ran ≡ 0 → of_feed.ending ≡ Whole)
        → Worked run.bytes run.faults_before (given_back run.faults_after run.left) status
    some-worked feed run taken entries of_feed whole = record {
      taken = taken;
      reads = of_feed.reads;
      to_end = λ zero. (of_feed.whole (whole (sym is ∙ zero))).0.to_end;
      sound = λ zero. (of_feed.whole (whole (sym is ∙ zero))).1;
    }

    pub riders-worked : Served → Worked riders.bytes riders.faults_before (given_back riders.faults_after riders.left) status
    riders-worked (inl not) = none-worked riders not.nothing_read_of_riders (ap (λ (r : Ran). r.no_memory) not.ran_is)
    riders-worked (inr has) = some-worked 1 riders has.riders_taken has.entries has.of_riders (λ zero. (has.all_of_riders zero).0)

    pub drivers-worked : Served → Worked drivers.bytes drivers.faults_before (given_back drivers.faults_after drivers.left) status
    drivers-worked (inl not) = none-worked drivers not.nothing_read_of_drivers (ap (λ (r : Ran). r.no_memory) not.ran_is)
    drivers-worked (inr has) = some-worked 2 drivers has.drivers_taken has.entries has.of_drivers (λ zero. (has.all_of_drivers zero).0)
