use Rattle.fleet_league.proofs.Common.{◌≡◌, ◌+◌, [], ◌∷◌, ◌++◌, length, sym, ap, ◌∙◌, arith, take-append_seam, Feed, Ask, Entry, Fed, Asked, State, Recorded, state_of, request_entries, requested_state}
use Rattle.fleet_league.proofs.Outcomes.{on_err}
use Rattle.fleet_league.proofs.WinsAsked.{none-ended, cut-longer, fed-requested, requested-board, asking-are}
use Rattle.fleet_league.proofs.asking.ask.Goals as goal

pub returns-in_err-request_each-clause-cut : goal.returns-in_err-request_each-clause-cut
returns-in_err-request_each-clause-cut c =
    let old : Recorded = c.args.board.now in
    let asked : Entry = record { actor = Feed 1; event = Fed Ask (Asked ((state_of old).asked + 1)) } in
    let (many, is) = c.in_err-request_each.ensures.cut in
    let (more, same) = cut-longer (request_entries c.args.wins.now) (asked ∷ []) many in
    on_err c.from_residual.result (more, is ∙ ap (λ entries. old.history ++ entries) same)

pub apply-requires-clause-not_ended : goal.apply-requires-clause-not_ended
apply-requires-clause-not_ended c =
    let old : Recorded = c.args.board.now in
    let state_is : state_of c.request_each.new.board ≡ requested_state (state_of old) c.args.wins.now
    = requested-board old c.request_each.new.board c.args.wins.now (ap (λ (b : Recorded). b.start) c.in_ok-request_each.ensures.others)
    c.in_ok-request_each.ensures.asked c.requires.may.new in
    none-ended (state_of c.request_each.new.board) (Feed 1) (ap (λ (s : State). s.ended) state_is ∙ c.requires.may.none_ended)

pub apply-requires-clause-few : goal.apply-requires-clause-few
apply-requires-clause-few c =
    let old : Recorded = c.args.board.now in
    omega (arith, c.requires.may.few, fed-requested old.history c.request_each.new.board.history c.args.wins.now c.in_ok-request_each.ensures.asked)

pub returns-in_err-apply-clause-cut : goal.returns-in_err-apply-clause-cut
returns-in_err-apply-clause-cut c =
    let old : Recorded = c.args.board.now in
    let asked : Entry = record { actor = Feed 1; event = Fed Ask (Asked ((state_of old).asked + 1)) } in
    let requests = request_entries c.args.wins.now in
    on_err c.from_residual-in_err-apply.result (
      length requests,
      ap (λ (b : Recorded). b.history) c.in_err-apply.ensures.no_memory ∙ c.in_ok-request_each.ensures.asked
          ∙ ap (λ entries. old.history ++ entries) (sym (take-append_seam requests (asked ∷ []))),
    )

pub returns-clause-asked : goal.returns-clause-asked
returns-clause-asked c =
    let old : Recorded = c.args.board.now in
    let state_is : state_of c.request_each.new.board ≡ requested_state (state_of old) c.args.wins.now
    = requested-board old c.request_each.new.board c.args.wins.now (ap (λ (b : Recorded). b.start) c.in_ok-request_each.ensures.others)
    c.in_ok-request_each.ensures.asked c.requires.may.new in
    asking-are old c.request_each.new.board c.apply.new.self c.args.wins.now c.in_ok-request_each.ensures.asked state_is
    c.requires.few_asked c.in_ok-apply.ensures.entry
