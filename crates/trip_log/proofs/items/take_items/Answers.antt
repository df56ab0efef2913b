use Rattle.trip_log.proofs.Common.{◌∙◌, ap, items_of}
use Rattle.trip_log.proofs.ItemLemmas.{items_of-nil, rest-more, stops-here, taken-all, taken-more}
use Rattle.trip_log.proofs.items.take_items.Goals as goal

pub loop-field-preserved : goal.loop-field-preserved
loop-field-preserved g c =
    let item = g.R.Reading.item_from in
    record {
      items = rw c.in_ok-push-in-Some-read.ensures.items
          (taken-more item c.args.fields.now c.loop-field.fields c.next_field.new.self c.in-Some.field.now c.loop-field.items.items c.in-Some-read.item
          c.loop-field.invariant.items c.in-Some.ensures.first c.in-Some-read.ensures);
      rest = rest-more item c.args.fields.now c.loop-field.fields c.next_field.new.self c.in-Some.field.now c.in-Some-read.item
          c.loop-field.invariant.rest c.in-Some.ensures.first c.in-Some-read.ensures;
    }

pub returns-in-None : goal.returns-in-None
returns-in-None g c =
    let item = g.R.Reading.item_from in
    taken-all item c.args.fields.now c.loop-field.fields _ c.loop-field.items.items c.of.result c.loop-field.invariant.items c.loop-field.invariant.rest
    (stops-here item c.loop-field.fields c.next_field.new.self c.in-Some.field.now c.in-Some.ensures.first c.in-None.ensures) c.of.ensures

pub returns : goal.returns
returns g c =
    let item = g.R.Reading.item_from in
    taken-all item c.args.fields.now c.loop-field.fields _ c.loop-field.items.items c.of-2.result c.loop-field.invariant.items c.loop-field.invariant.rest
    (ap (items_of item) c.in_default.ensures.none.0 ∙ items_of-nil item) c.of-2.ensures
