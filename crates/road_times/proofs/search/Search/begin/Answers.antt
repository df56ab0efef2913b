use Rattle.road_times.proofs.Common.{ℕ, length, ap, ◌∙◌, Some, lesser_key}
use Rattle.radix_queue.specs.inner.Buckets.{key_in}
use Rattle.road_times.proofs.Lists.{all_none}
use Rattle.road_times.proofs.Searches.{search-begun}
use Rattle.road_times.proofs.search.Search.begin.Goals as goal

pub returns-clause-begun : goal.returns-clause-begun
returns-clause-begun c roads adjacency fits packed sized =
    let cleared = c.clear.ensures in
    let put = c.put_or_lower.ensures in
    let old = c.clear.new.self in
    let keyless = λ (node : ℕ). ap (λ keys. key_in keys node) cleared.keys ∙ all_none (length c.args.self.now.labels.items) node in
    record {
      fits = fits;
      packed = packed;
      state = search-begun roads c.args.source old.labels.items c.put_or_lower.new.self
          (cleared.size ∙ sized) (put.size ∙ cleared.ready.rooms) cleared.labels
          (put.key ∙ ap (λ o. Some (lesser_key o 0)) (keyless c.args.source))
          (λ other differs. put.others other differs ∙ keyless other)
          (put.same_floor ∙ cleared.floor);
    }
