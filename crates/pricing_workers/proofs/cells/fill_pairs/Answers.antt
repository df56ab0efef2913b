use Rattle.pricing_workers.proofs.Common.{◌≡◌, ◌+◌, ◌*◌, ◌/◌, ◌<◌, length, arith, ap, ◌∙◌, sym, subst, length-set}
use Rattle.pricing_workers.proofs.PairNumbers.{request-in, may-price, cell-filled}
use Rattle.pricing_workers.proofs.cells.fill_pairs.Goals as goal

pub price_pair-requires-clause-ready : goal.price_pair-requires-clause-ready
price_pair-requires-clause-ready c =
    let job = c.args.job.now in
    let w = length c.vehicles-columns.result.now in
    let wide : w ≡ length job.batch.now.vehicles = ap length (c.vehicles-columns.ensures.items ∙ c.vehicles.ensures) in
    let pair_in : c.args.first + c.loop-place.place < length c.args.requests.now * w
    = subst (λ n. c.args.first + c.loop-place.place < length c.args.requests.now * n) (sym wide)
    (omega (arith, c.requires.inside, c.loop-place-test.true, c.loop-place.invariant.0)) in (
      job.roads.now.roads,
      may-price job.roads.now.roads job.batch.now job.wanted.now c.args.requests.now c.args.times.now c.index-times-row.result
          ((c.args.first + c.loop-place.place) / w) _ c.requires.ready
          (request-in (c.args.first + c.loop-place.place) w (length c.args.requests.now) pair_in) c.index-times-row.is,
    )

pub loop-place-preserved : goal.loop-place-preserved
loop-place-preserved c =
    let job = c.args.job.now in
    let w = length c.vehicles-columns.result.now in
    let wide : w ≡ length job.batch.now.vehicles = ap length (c.vehicles-columns.ensures.items ∙ c.vehicles.ensures) in
    let pair_in : c.args.first + c.loop-place.place < length c.args.requests.now * w
    = subst (λ n. c.args.first + c.loop-place.place < length c.args.requests.now * n) (sym wide)
    (omega (arith, c.requires.inside, c.loop-place-test.true, c.loop-place.invariant.0)) in
    let may = may-price job.roads.now.roads job.batch.now job.wanted.now c.args.requests.now c.args.times.now c.index-times-row.result
    ((c.args.first + c.loop-place.place) / w) _ c.requires.ready
    (request-in (c.args.first + c.loop-place.place) w (length c.args.requests.now) pair_in) c.index-times-row.is in (
      length-set c.loop-place.cells c.loop-place.place c.price_pair.result ∙ c.loop-place.invariant.0,
      cell-filled job.roads.now.roads job.batch.now c.args.requests.now c.args.first c.loop-place.place w c.loop-place.cells c.price_pair.result _
          wide (omega (arith, c.loop-place-test.true, c.loop-place.invariant.0)) pair_in c.loop-place.invariant.1
          (λ v. c.price_pair.ensures job.roads.now.roads v may),
    )
