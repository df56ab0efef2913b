use Rattle.board_core.proofs.Common.{Some, None, sym, ap, ◌∙◌, option_copied, recursion_from_All}
use Rattle.board_core.proofs.request_book.Entries.{IsKeyed, state-of}
use Rattle.board_core.proofs.request_book.RequestBook.state.Goals as goal

pub returns-in_err-request : goal.returns-in_err-request
returns-in_err-request c =
    let keyed = recursion_from_All IsKeyed c.self.inside.requests.entries c.self.invariant.keys_are in
    let found = ap option_copied (sym c.in_err-request.was) ∙ c.get.ensures.value in
    c.from_residual.ensures
    ∙ state-of c.args.id c.self.inside.requests.entries c.args.self.now None keyed (sym c.self.view_is) found

pub returns : goal.returns
returns c =
    let keyed = recursion_from_All IsKeyed c.self.inside.requests.entries c.self.invariant.keys_are in
    let found = ap option_copied (sym c.in_ok-request.was) ∙ c.get.ensures.value in
    state-of c.args.id c.self.inside.requests.entries c.args.self.now (Some c.in_ok-request.request.now) keyed (sym c.self.view_is) found
