-- A watch over a board on which nothing happened yet, and how many commands a feed has given.
use Rattle.std.proofs.Common.{◌≡◌, ◌≤◌, ◌==◌, List, [], ◌∷◌, length, take, sym, ap, ◌∙◌, arith}
use Rattle.model_laws.proofs.plain.Lists.{length-filter_map-le}
use Rattle.ride_model.specs.declared.entry.Entry.{Entry}
use Rattle.ride_model.specs.History.{command_of}
use Rattle.ride_model.specs.Legal.{replay, versions_of}
use Rattle.model_laws.proofs.history_laws.Raised.{length-filter-le}
use Rattle.board_core.specs.Recorded.{Recorded}
use Rattle.turn_lock.specs.inner.History.{items_of}
use Rattle.fleet_board.specs.inner.Passes.{Known, IsPoint, commands_in, maker_of, root_of}
use Rattle.idle_moves.specs.inner.Watch.{Watched, Watches}

-- a feed has given no more commands than it has seen entries
pub given-le : (k : Known) → IsPoint k → length (commands_in k.own) ≤ length k.seen
given-le k point =
    let own : length k.own ≡ length (items_of maker_of k.number k.seen) = ap length point.own_are in
    let of_all : length (items_of maker_of k.number k.seen) ≤ length k.seen
    = length-filter-le (λ (entry : Entry). maker_of entry == k.number) k.seen in
    omega (arith, own, of_all, length-filter_map-le (λ (entry : Entry). command_of entry.event) k.own)

-- a new pass has seen nothing, and a watch over its board has the versions of the start
pub watches-start : (k : Known) (began : Recorded) (watch : Watched) → k.root ≡ began ∷ [] → k.seen ≡ []
    → watch.place ≡ 0 → watch.versions ≡ versions_of began.start.vehicles → Watches k watch
unfolding replay
watches-start k began watch root seen place versions = record {
  within = omega (arith, place);
  versions_are = versions
      ∙ sym (ap (λ n. versions_of (replay (root_of k).start (take n k.seen)).vehicles) place
      ∙ ap (λ (r : List Recorded). versions_of (root_of (record k { root = r })).start.vehicles) root);
}
