use Rattle.road_times.proofs.Common.{◌≡◌, ℕ, length, subst, sym, ap, ◌∙◌, arith, Option, None, length-replicate, Queue, IsListed}
use Rattle.road_times.proofs.Lists.{IsLeft, left-none, listed-none}
use Rattle.road_times.proofs.search.Search.clear.Goals as goal

abbrev no_key : Option ℕ
no_key = None

pub returns-clause-ready : goal.returns-clause-ready
returns-clause-ready c =
    let zero_is : c.loop-self.self.count ≡ 0 = omega arith in
    let labels = c.loop-self.self.labels.items in
    let settled = c.loop-self.self.settled.items in
    let left : IsLeft labels settled 0 = subst (λ n. IsLeft labels settled n) zero_is c.loop-self.invariant.left in
    record {
      rooms = ap (λ (q : Queue). length q.keys) c.loop-self.invariant.queue ∙ ap (λ ks. length ks) c.clear.ensures.empty
          ∙ length-replicate (length c.args.self.now.queue.keys) no_key ∙ c.requires.rooms ∙ sym c.loop-self.invariant.size;
      listed = subst (λ n. IsListed labels settled n) (sym zero_is) (listed-none labels settled left.sized (left-none labels settled left));
    }
