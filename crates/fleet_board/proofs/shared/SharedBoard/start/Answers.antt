use Rattle.fleet_board.proofs.Common.{◌≡◌, ◌≢◌, ◌∙◌, arith, knowledge, IsNewPass, IsNewFeed, IsNewDesk, IsTold, as_began}
use Rattle.fleet_board.proofs.Starting.{new-began, new-feed, new-desk, some-then, second-then}
use Rattle.fleet_board.proofs.shared.SharedBoard.start.Goals as goal

told : (c : goal.In_ok-shared) → IsTold c.args.board
told c =
    let said = c.entries-entries.ensures in
    record { start_fits = said.start; legal = said.legal; text = said.text }

pub returns : goal.returns
returns c =
    let board = c.args.board in
    let shared = c.in_ok-shared.shared in
    let passes = c.in_ok-shared.passes in
    let said = c.in_ok-shared.ensures in
    let numbers = c.entries-entries.ensures.text in
    record {
      feed_1 = some-then (IsNewPass shared board 1) (IsNewFeed shared (as_began board) 1) passes.feed_1 (λ pass its.
          let is = new-began board c.requires 1 (knowledge pass) its.0.1 in
          ((its.0.0, is), its.1, new-feed board (told c) 1 (knowledge pass) (omega arith, numbers.feeds_number.0) is)) said.feed_1;
      feed_2 = second-then (board.feeds ≢ 2) (board.feeds ≡ 2) (IsNewPass shared board 2) (IsNewFeed shared (as_began board) 2) passes.feed_2
          (λ pass two its.
          let is = new-began board c.requires 2 (knowledge pass) its.0.1 in
          ((its.0.0, is), its.1, new-feed board (told c) 2 (knowledge pass) (omega arith, omega (arith, two)) is)) said.feed_2;
      desk_1 = some-then (IsNewPass shared board 3) (IsNewDesk shared (as_began board) 3) passes.desk_1 (λ pass its.
          let is = new-began board c.requires 3 (knowledge pass) its.0.1 in
          let fits = new-desk board (told c) 3 (knowledge pass) (omega arith) (omega arith, numbers.desks_number.0) is in
          ((its.0.0, is), its.1, fits.desk, fits.none_open)) said.desk_1;
      desk_2 = second-then (board.desks ≢ 2) (board.desks ≡ 2) (IsNewPass shared board 4) (IsNewDesk shared (as_began board) 4) passes.desk_2
          (λ pass two its.
          let is = new-began board c.requires 4 (knowledge pass) its.0.1 in
          let fits = new-desk board (told c) 4 (knowledge pass) (omega arith) (omega arith, omega (arith, two)) is in
          ((its.0.0, is), its.1, fits.desk, fits.none_open)) said.desk_2;
      scribe = said.scribe;
      scribe_point = said.scribe_point;
      scribe_seen = said.scribe_seen ∙ c.requires;
      root = said.root;
      out = said.out;
    }
