use Rattle.idle_moves.proofs.Common.{◌≡◌, ◌+◌, ℕ, List, length, map, take, drop, sym, ap, subst, ◌∙◌, arith, Entry, Known, HasRoomFor, after_entries, Watched, Watches, watched_ids}
use Rattle.turn_lock.specs.Passes.{knowledge}
use Rattle.idle_moves.proofs.Raising.{ids-entries}
use Rattle.idle_moves.proofs.Watching.{room-for, watches-more, watches-on}
use Rattle.idle_moves.proofs.watch.VersionWatch.catch_up.Goals as goal

-- what the watch knew is so of what the pass has now seen
known : (k : Known) (watch inside : Watched) → inside ≡ watch → Watches k watch → Watches k inside
known k watch inside is w = subst (Watches k) (sym is) w

pub take_entries-requires : goal.take_entries-requires
take_entries-requires g c =
    let old : Known = knowledge c.args.pass.now in
    let new : Known = knowledge c.tail.new.pass in
    let inside : Watched = record { place = c.self.inside.place; versions = c.self.inside.versions.entries } in
    let watches = watches-on old new inside c.in_ok-tail.ensures.none (known old c.args.self.now inside c.self.view_is c.requires.watches) in
    subst (λ (entries : List Entry). HasRoomFor entries inside.versions) (sym (c.as_slice.ensures.value ∙ c.in_ok-tail.ensures.entries))
    (room-for new inside c.args.most c.in_ok-tail.ensures.point watches (omega (arith, c.seen.ensures, c.if-seen-gt-MOST_ENTRIES.false)))

pub returns-clause-watches : goal.returns-clause-watches
returns-clause-watches g c =
    let old : Known = knowledge c.args.pass.now in
    let new : Known = knowledge c.tail.new.pass in
    let inside : Watched = record { place = c.self.inside.place; versions = c.self.inside.versions.entries } in
    let after : Watched = record { place = c.self.inside.place + c.len.result; versions = c.take_entries.new.versions.entries } in
    let watches = watches-on old new inside c.in_ok-tail.ensures.none (known old c.args.self.now inside c.self.view_is c.requires.watches) in
    let next : List Entry = take c.args.most (drop inside.place new.seen) in
    let entries : c.as_slice.result.now ≡ next = c.as_slice.ensures.value ∙ c.in_ok-tail.ensures.entries in
    let count : c.len.result ≡ length next = c.len.ensures ∙ sym c.as_slice.ensures.len ∙ ap length entries in
    watches-more new inside c.args.most c.in_ok-tail.ensures.point watches after (ap (λ n. inside.place + n) count)
    (c.take_entries.ensures ∙ ap (λ (es : List Entry). after_entries es inside.versions) entries)

pub returns-clause-vehicles : goal.returns-clause-vehicles
returns-clause-vehicles g c =
    ap (map (λ (item : ℕ × ℕ). item.0)) c.take_entries.ensures
    ∙ ids-entries c.as_slice.result.now c.self.inside.versions.entries
    ∙ ap watched_ids c.self.view_is

pub returns-in_err-tail-clause-pass : goal.returns-in_err-tail-clause-pass
returns-in_err-tail-clause-pass g c = c.in_err-tail.ensures.pass

pub returns-in_err-tail-clause-point : goal.returns-in_err-tail-clause-point
returns-in_err-tail-clause-point g c = c.in_err-tail.ensures.point

pub returns-in_err-tail-clause-none : goal.returns-in_err-tail-clause-none
returns-in_err-tail-clause-none g c = c.in_err-tail.ensures.none

pub returns-in_err-tail-clause-watches : goal.returns-in_err-tail-clause-watches
returns-in_err-tail-clause-watches g c = watches-on _ _ c.args.self.now c.in_err-tail.ensures.none c.requires.watches

pub returns-then-seen-gt-MOST_ENTRIES-clause-pass : goal.returns-then-seen-gt-MOST_ENTRIES-clause-pass
returns-then-seen-gt-MOST_ENTRIES-clause-pass g c = c.in_ok-tail.ensures.pass

pub returns-then-seen-gt-MOST_ENTRIES-clause-point : goal.returns-then-seen-gt-MOST_ENTRIES-clause-point
returns-then-seen-gt-MOST_ENTRIES-clause-point g c = c.in_ok-tail.ensures.point

pub returns-then-seen-gt-MOST_ENTRIES-clause-none : goal.returns-then-seen-gt-MOST_ENTRIES-clause-none
returns-then-seen-gt-MOST_ENTRIES-clause-none g c = c.in_ok-tail.ensures.none

pub returns-then-seen-gt-MOST_ENTRIES-clause-watches : goal.returns-then-seen-gt-MOST_ENTRIES-clause-watches
returns-then-seen-gt-MOST_ENTRIES-clause-watches g c = watches-on _ _ c.args.self.now c.in_ok-tail.ensures.none c.requires.watches

pub returns-clause-pass : goal.returns-clause-pass
returns-clause-pass g c = c.in_ok-tail.ensures.pass

pub returns-clause-point : goal.returns-clause-point
returns-clause-point g c = c.in_ok-tail.ensures.point

pub returns-clause-none : goal.returns-clause-none
returns-clause-none g c = c.in_ok-tail.ensures.none
