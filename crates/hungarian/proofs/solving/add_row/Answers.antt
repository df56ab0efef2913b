use Rattle.hungarian.proofs.Adding.{path-raisable, path-ready, row-added}
use Rattle.hungarian.proofs.solving.add_row.Goals as goal

pub raise-requires : goal.raise-requires
raise-requires c =
    path-raisable c.args.grid.now c.args.penalty c.args.matches.now c.args.duals.now c.args.row c.path-path.new.self
    c.path-path.result
    c.requires.penalty_limit c.requires.row_in c.requires.partial c.path-path.ensures

pub take_over-requires : goal.take_over-requires
take_over-requires c = (
  c.args.row,
  path-ready c.args.grid.now c.args.penalty c.args.matches.now c.args.duals.now c.args.row c.path-path.new.self
      c.path-path.result
      c.requires.row_in c.requires.partial c.path-path.ensures,
)

pub returns-clause-partial : goal.returns-clause-partial
returns-clause-partial c =
    let ready = path-ready c.args.grid.now c.args.penalty c.args.matches.now c.args.duals.now c.args.row c.path-path.new.self
    c.path-path.result
    c.requires.row_in c.requires.partial c.path-path.ensures in
    row-added c.args.grid.now c.args.penalty c.args.matches.now c.take_over.new.self c.args.duals.now c.raise.new.self
    c.args.row c.path-path.new.self
    c.path-path.result c.requires.row_in c.requires.partial c.path-path.ensures c.raise.ensures
    (c.take_over.ensures c.args.row ready)
