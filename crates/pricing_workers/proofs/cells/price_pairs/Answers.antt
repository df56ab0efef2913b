use Rattle.pricing_workers.proofs.Common.{arith, ◌∙◌, None}
use Rattle.pricing_workers.proofs.PairNumbers.{rows-of-pairs}
use Rattle.pricing_workers.proofs.cells.price_pairs.Goals as goal

pub returns : goal.returns
returns g c =
    rows-of-pairs c.args.job.now.roads.now.roads c.args.job.now.batch.now c.args.requests.now c.par_chunks_mut_for_each.new.s
    (c.par_chunks_mut_for_each.auto.s ∙ c.requires.cells) (λ i low.
    let it = (c.par_chunks_mut_for_each.ensures.by_index i None (omega (arith, low, c.par_chunks_mut_for_each.auto.s))).1 in
    record {
      first = it.start;
      place = it.offset;
      chunk = it.after_call.now;
      number = it.start_plus_offset;
      inside = omega (arith, it.offset_in_chunk, it.call.1);
      pairs = it.call.0;
      same = it.new_element;
    })
