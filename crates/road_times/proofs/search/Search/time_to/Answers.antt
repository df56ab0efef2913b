use Rattle.road_times.proofs.Common.{◌≡◌, ◌<◌, length, sym, ap, ◌∙◌, arith, None, not, get_or_read, none_from_is_some, label_of}
use Rattle.road_times.proofs.Lists.{some_from_is_some}
use Rattle.road_times.proofs.Searches.{label_is_travel, nothing_is_left}
use Rattle.road_times.proofs.search.Search.time_to.Goals as goal

pub advance-requires-clause-over : goal.advance-requires-clause-over
advance-requires-clause-over c =
    let (roads, source, over, inside) = c.requires.over in
    (roads, source, c.loop-self.invariant.over roads source over)

pub returns-then-not-advance-clause-time : goal.returns-then-not-advance-clause-time
returns-then-not-advance-clause-time c roads source over =
    let now = c.advance.ensures.over roads source (c.loop-self.invariant.over roads source over) in
    let node = c.args.node in
    let old = c.loop-self.self.labels.items in
    let low : node < length old = omega (arith, c.loop-self.invariant.size, c.requires.over.2.state.sized, c.requires.over.3) in
    let read : c.index.result.now ≡ label_of old node = get_or_read old node c.index.result.now low c.index.ensures None in
    let none : label_of old node ≡ None = sym read ∙ none_from_is_some c.index.result.now (c.is_none.ensures ∙ ap not c.loop-self-test.true) in
    let same = ap (λ v. v.items) (c.advance.ensures.labels c.if-not-advance.true) in
    sym (nothing_is_left roads source c.advance.new.self.labels.items c.advance.new.self.queue node now.fits now.state
    (c.advance.ensures.left c.if-not-advance.true) (ap (λ ls. label_of ls node) same ∙ none))

pub returns-then-not-advance-clause-over : goal.returns-then-not-advance-clause-over
returns-then-not-advance-clause-over c roads source over = c.advance.ensures.over roads source (c.loop-self.invariant.over roads source over)

pub loop-self-preserved : goal.loop-self-preserved
loop-self-preserved c = record {
  over = λ roads source over. c.advance.ensures.over roads source (c.loop-self.invariant.over roads source over);
  ready = c.advance.ensures.ready;
  size = c.advance.ensures.size ∙ c.loop-self.invariant.size;
}

pub returns-clause-time : goal.returns-clause-time
returns-clause-time c roads source over =
    let now = c.loop-self.invariant.over roads source over in
    let node = c.args.node in
    let labels = c.loop-self.self.labels.items in
    let low : node < length labels = omega (arith, c.loop-self.invariant.size, c.requires.over.2.state.sized, c.requires.over.3) in
    let read : c.index-2.result.now ≡ label_of labels node = get_or_read labels node c.index-2.result.now low c.index-2.ensures None in
    let first : c.index.result.now ≡ label_of labels node = get_or_read labels node c.index.result.now low c.index.ensures None in
    let (label, has) = some_from_is_some c.index.result.now (c.is_none.ensures ∙ ap not c.loop-self-test.false) in
    read ∙ sym first ∙ has ∙ sym (label_is_travel roads source labels c.loop-self.self.queue node label now.fits now.state (sym first ∙ has))
