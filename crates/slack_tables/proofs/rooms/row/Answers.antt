use Rattle.slack_tables.proofs.Common.{◌+◌, ◌-◌, ◌++◌, ◌∷◌, [], ◌∙◌, ap, arith, map, range_with_len, room_of}
use Rattle.slack_tables.proofs.Ranges.{made-on}
use Rattle.slack_tables.proofs.rooms.row.Goals as goal

pub loop-place-preserved : goal.loop-place-preserved
loop-place-preserved c =
    let f = room_of c.args.trips.now c.args.change in
    let rest = map f (range_with_len (c.loop-place.place + 1) (c.args.stops + 1 - (c.loop-place.place + 1))) in
    record {
      end_is = omega arith;
      so_far =
          ap (λ xs. xs ++ rest) c.push.ensures.items
          ∙ ap (λ x. (c.loop-place.row.items ++ x ∷ []) ++ rest) c.room_of.ensures
          ∙ made-on f c.loop-place.row.items (c.args.stops + 1) c.loop-place.place (omega arith)
          ∙ c.loop-place.invariant.so_far;
      many = omega arith;
    }
