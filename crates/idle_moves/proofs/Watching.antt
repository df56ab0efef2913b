-- What a watch knows once it has taken entries into account.
use Rattle.idle_moves.proofs.Common.{◌≡◌, ℕ, suc, ◌+◌, ◌≤◌, ◌^◌, List, ◌∷◌, ◌++◌, length, take, drop, get_or, sym, ap, subst, ◌∙◌, arith, append_assoc, length-append, min, drop-cons, take-append-add, length-take, length-take-le, take-append-drop, take-append-le, take_min, Entry, IsLegal, replay, versions_of, State, IsLegal-parts, AddsNone, IsPoint, Known, root_of, HasRoom, HasRoomFor, after_entries, raises_in, Watched, Watches}
use Rattle.board_core.specs.Recorded.{Recorded}
use Rattle.idle_moves.proofs.Following.{room-next, versions-follow}

-- what a watch knew is so of all that a pass has seen since
pub watches-on : (old new : Known) (watch : Watched) → AddsNone old new → Watches old watch → Watches new watch
watches-on old new watch none w =
    let (between, goes_on) = none.sees.goes_on in
    let root : root_of new ≡ root_of old = ap root_of none.rest in
    let same : take watch.place new.seen ≡ take watch.place old.seen
    = ap (take watch.place) goes_on ∙ take-append-le watch.place old.seen between w.within in
    record {
      within = omega (arith, w.within, ap length goes_on, length-append old.seen between);
      versions_are = w.versions_are
          ∙ sym (ap (λ (r : Recorded). versions_of (replay r.start (take watch.place new.seen)).vehicles) root
          ∙ ap (λ (es : List Entry). versions_of (replay (root_of old).start es).vehicles) same);
    }

module _ (k : Known) (watch : Watched) (most : ℕ) (point : IsPoint k) (w : Watches k watch) where
  abbrev start : State
  start = (root_of k).start

  -- the entries that were taken into account, those that come next, and the others
  abbrev done : List Entry
  done = take watch.place k.seen

  abbrev later : List Entry
  later = drop watch.place k.seen

  abbrev next : List Entry
  next = take most later

  whole : (done ++ next) ++ drop most later ≡ k.seen
  whole =
      append_assoc done next (drop most later) ∙ ap (λ es. done ++ es) (take-append-drop most later)
      ∙ take-append-drop watch.place k.seen

  -- a part of what was seen is legal
  part-legal : (first rest : List Entry) → first ++ rest ≡ k.seen → IsLegal (root_of k).feeds (root_of k).desks start first
  part-legal first rest is =
      (IsLegal-parts (root_of k).feeds (root_of k).desks start first rest
      (subst (IsLegal (root_of k).feeds (root_of k).desks start) (sym is) point.legal)).0

  -- the versions after some of the next entries
  follow : (entries rest : List Entry) → (done ++ entries) ++ rest ≡ k.seen
      → after_entries entries watch.versions ≡ versions_of (replay start (done ++ entries)).vehicles
  follow entries rest is =
      ap (after_entries entries) w.versions_are
      ∙ sym (versions-follow (root_of k).feeds (root_of k).desks start done entries point.start_fits
      (part-legal (done ++ entries) rest is))

  -- the versions have room for the next entries
  pub room-for : length k.seen ≤ 2 ^ 62 → HasRoomFor next watch.versions
  room-for few i entry low =
      let e : Entry = get_or next i entry in
      let rest : List Entry = drop (suc i) next ++ drop most later in
      let before : List Entry = done ++ take i next in
      let split : take i next ++ e ∷ drop (suc i) next ≡ next
      = ap (λ es. take i next ++ es) (sym (drop-cons next i entry low)) ∙ take-append-drop i next in
      let all : before ++ e ∷ rest ≡ k.seen
      = append_assoc done (take i next) (e ∷ rest)
      ∙ ap (λ es. done ++ es) (sym (append_assoc (take i next) (e ∷ drop (suc i) next) (drop most later)))
      ∙ ap (λ es. done ++ (es ++ drop most later)) split
      ∙ sym (append_assoc done next (drop most later)) ∙ whole in
      subst (HasRoom (raises_in e.event)) (sym (follow (take i next) (e ∷ rest) all))
      (room-next (root_of k).feeds (root_of k).desks start before rest e point.start_fits
      (subst (IsLegal (root_of k).feeds (root_of k).desks start) (sym all) point.legal)
      (omega (arith, few, ap length all, length-append before (e ∷ rest))))

  -- the watch behind the next entries
  pub watches-more : (after : Watched) → after.place ≡ watch.place + length next
      → after.versions ≡ after_entries next watch.versions → Watches k after
  watches-more after place versions =
      let count : length done ≡ watch.place = length-take-le watch.place k.seen w.within in
      let many : length next ≡ min most (length later) = length-take most later in
      let reached : take after.place k.seen ≡ done ++ next
      = ap (λ n. take n k.seen) (place ∙ ap (λ n. n + length next) (sym count))
      ∙ ap (take (length done + length next)) (sym (take-append-drop watch.place k.seen))
      ∙ take-append-add done later (length next)
      ∙ ap (λ es. done ++ es) (ap (λ n. take n later) many ∙ take_min most later) in
      record {
        within = omega (arith, place, count, w.within, ap length whole, length-append (done ++ next) (drop most later), length-append done next);
        versions_are = versions ∙ follow next (drop most later) whole
            ∙ ap (λ es. versions_of (replay start es).vehicles) (sym reached);
      }
