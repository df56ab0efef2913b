use Rattle.idle_moves.proofs.Common.{eqb, is_some, sym, ap, ◌∙◌, arith, keys_of, lookup, position-Some, none_from_is_some}
use Rattle.idle_moves.proofs.Keeping.{raised-absent, raised-at, room-at}
use Rattle.idle_moves.proofs.entries.raise.Goals as goal

pub returns-in_default : goal.returns-in_default
returns-in_default c =
    let entries = c.args.versions.now.entries in
    raised-absent c.args.vehicle entries
    (none_from_is_some (lookup (eqb c.args.vehicle) entries) (sym c.get_index_of.ensures.found ∙ ap is_some c.in_default.is))

pub overflow_add-index_mut : goal.overflow_add-index_mut
overflow_add-index_mut c =
    omega (
      arith,
      room-at c.in-Some.place c.args.versions.now.entries c.index_mut.result.now c.index_mut.ensures.value c.requires,
    )

pub returns : goal.returns
returns c =
    let entries = c.args.versions.now.entries in
    let found = position-Some (eqb c.args.vehicle) (keys_of entries) c.in-Some.place 0 (sym c.get_index_of.ensures.index ∙ c.in-Some.is) in
    raised-at c.in-Some.place c.args.vehicle entries c.index_mut.result.now c.index_mut.ensures.value found.1 c.get_index_of.ensures.unique
