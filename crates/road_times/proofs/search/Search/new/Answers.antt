use Rattle.road_times.proofs.Common.{◌≡◌, ℕ, length, sym, ap, ◌∙◌, rules, Option, None, replicate, length-replicate}
use Rattle.road_times.proofs.Lists.{all_none, listed-none}
use Rattle.road_times.specs.inner.Search.{label_of}
use Rattle.road_times.proofs.search.Search.new.Goals as goal

abbrev no_key : Option ℕ
no_key = None

pub returns-clause-ready : goal.returns-clause-ready
returns-clause-ready c =
    let places = c.args.places in
    let labels = c.in_ok-labels.labels.items in
    let settled = c.in_ok-settled.settled.items in
    let labels_are : labels ≡ replicate places no_key = search rules in
    let settled_are : settled ≡ replicate places 0 = search rules in
    let sized : length labels ≡ places = ap (λ ls. length ls) labels_are ∙ length-replicate places no_key in
    record {
      rooms = ap (λ ks. length ks) c.in_ok-queue.ensures.empty ∙ sym (ap (λ ls. length ls) labels_are);
      listed = listed-none labels settled (ap (λ ns. length ns) settled_are ∙ length-replicate places 0 ∙ sym sized)
          (λ node. ap (λ ls. label_of ls node) labels_are ∙ all_none places node);
    }
