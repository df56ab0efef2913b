use Rattle.trip_log.proofs.Common.{◌≡◌, ◌++◌, length, items_of}
use Rattle.trip_log.proofs.items.take_items.Given as goal

-- the items so far and those of the fields that are left are the items of all
abbrev pub invariant-loop-field : goal.invariant-loop-field
invariant-loop-field g l = record {
  items : (items_of g.R.Reading.item_from l.initial.fields).0 ≡ l.items.items ++ (items_of g.R.Reading.item_from l.fields).0;
  rest : (items_of g.R.Reading.item_from l.initial.fields).1 ≡ (items_of g.R.Reading.item_from l.fields).1;
}

abbrev pub decreases-loop-field : goal.decreases-loop-field
decreases-loop-field g l = length l.fields
