use Rattle.fleet_league.proofs.Common.{◌≡◌, sym, subst, ChangesOnly}
use Rattle.fleet_league.proofs.UnionFilling.{changes-cell}
use Rattle.fleet_league.proofs.unions.write_cell.Goals as goal

pub returns-in-Some-clause-others : goal.returns-in-Some-clause-others
returns-in-Some-clause-others c =
    subst (ChangesOnly (λ other place. (other ≡ c.args.row) × (place ≡ c.args.column)) c.args.grid.now) (sym c.set.ensures)
    (changes-cell c.args.grid.now c.args.row c.args.column c.in-Some.amount c.requires.column_in)
