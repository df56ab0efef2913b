use Rattle.slack_tables.proofs.Common.{ℕ, ◌+◌, ◌-◌, ◌++◌, ◌∷◌, [], List, ◌≡◌, refl, ◌∙◌, ap, arith, map, range_with_len, rows_of, room_of}
use Rattle.arrayvec.specs.ArrayVec.{ArrayVec}
use Rattle.slack_tables.proofs.Ranges.{made-on}
use Rattle.slack_tables.proofs.rooms.rows.Goals as goal

rows-push : (rows : List (ArrayVec ℕ)) (row : ArrayVec ℕ) → rows_of (rows ++ row ∷ []) ≡ rows_of rows ++ row.items ∷ []
rows-push [] row = refl
rows-push (r ∷ rows) row = ap (λ rest. r.items ∷ rest) (rows-push rows row)

pub loop-change-preserved : goal.loop-change-preserved
loop-change-preserved c =
    let f : ℕ → List ℕ = λ change. map (room_of c.args.trips.now change) (range_with_len change (c.args.stops + 1 - change)) in
    let rest = map f (range_with_len (c.loop-change.change + 1) (c.args.stops + 1 - (c.loop-change.change + 1))) in
    record {
      end_is = omega arith;
      so_far =
          ap (λ xs. rows_of xs ++ rest) c.push.ensures.items
          ∙ ap (λ xs. xs ++ rest) (rows-push c.loop-change.rows.items c.row.result)
          ∙ ap (λ x. (rows_of c.loop-change.rows.items ++ x ∷ []) ++ rest) c.row.ensures
          ∙ made-on f (rows_of c.loop-change.rows.items) (c.args.stops + 1) c.loop-change.change (omega arith)
          ∙ c.loop-change.invariant.so_far;
      many = omega arith;
    }
