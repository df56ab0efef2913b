use Rattle.adaptive_roads.proofs.Common.{ℕ, Bor, length, sym, ◌∙◌, ap, subst, arith, length_push, IsMeeting}
use Rattle.std.specs.Slice.Iter.{iter_rest}
use Rattle.std.specs.Iterator.Adapters.{zip_first, zip_second}
use Rattle.std.proofs.lemmas.Slice.Zip.{zip_turn}
use Rattle.adaptive_roads.proofs.road_hierarchy.Meeting.{meeting-more}
use Rattle.adaptive_roads.proofs.road_hierarchy.meet.least_sum.Goals as goal

pub loop-up-preserved : goal.loop-up-preserved
loop-up-preserved c =
    let ups = c.args.ups.now in
    let downs = c.args.downs.now in
    let done = c.loop-up.yielded in
    let pair : Bor ℕ × Bor ℕ = (c.in-Some.up, c.in-Some.down) in
    let made = c.into_iter-up-iterator.ensures.into_iter_gives in
    let zipped = c.zip-up-items.ensures in
    let firsts = ap (λ z. iter_rest (zip_first z)) made ∙ ap iter_rest zipped.first ∙ c.iter.ensures.rest in
    let seconds = ap (λ z. iter_rest (zip_second z)) made ∙ zipped.second.0 in
    let (_, _, up_is, down_is) = zip_turn ups downs done c.into_iter-up-iterator.result c.loop-up.up-iterator c.next.new.self c.next.result
    firsts seconds c.loop-up.yielded_by pair c.in-Some.is c.next.ensures.steps in
    let least = c.min-least.ensures in
    subst (λ n. IsMeeting ups downs n c.min-least.result) (sym (length_push done pair))
    (meeting-more ups downs (length done) c.in-Some.up.now c.in-Some.down.now c.loop-up.least c.min-least.result (up_is 0) (down_is 0)
    (omega arith) (omega arith) (λ lower. omega arith) c.loop-up.invariant)
