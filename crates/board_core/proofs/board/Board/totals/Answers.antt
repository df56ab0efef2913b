use Rattle.board_core.proofs.Common.{[], length, ap, ◌∙◌, arith, is_away, is_confirmed, confirmed_total, away_total, picked_total, dropped_total}
use Rattle.board_core.proofs.FewOutcomes.{few-outcomes}
use Rattle.board_core.proofs.board.Board.totals.Goals as goal

pub confirmed_in-requires : goal.confirmed_in-requires
confirmed_in-requires c =
    let board = c.args.self.now in
    omega (
      arith,
      c.requires.few,
      ap confirmed_total c.entries-entries.ensures.items,
      few-outcomes is_confirmed board.feeds board.desks board.start [] board.history c.entries-entries.ensures.start c.entries-entries.ensures.legal,
    )

pub away_in-requires : goal.away_in-requires
away_in-requires c =
    let board = c.args.self.now in
    omega (
      arith,
      c.requires.few,
      ap away_total c.entries-entries.ensures.items,
      few-outcomes is_away board.feeds board.desks board.start [] board.history c.entries-entries.ensures.start c.entries-entries.ensures.legal,
    )

pub returns : goal.returns
returns c = record {
  totals = record {
    entries_are = ap length c.entries-entries.ensures.items;
    confirmed_are = c.confirmed_in.ensures ∙ ap confirmed_total c.entries-entries.ensures.items;
    away_are = c.away_in.ensures ∙ ap away_total c.entries-entries.ensures.items;
    picked_are = c.picked_in.ensures ∙ ap picked_total c.entries-entries.ensures.items;
    dropped_are = c.dropped_in.ensures ∙ ap dropped_total c.entries-entries.ensures.items;
    finished_is = c.finished.ensures;
  };
}
