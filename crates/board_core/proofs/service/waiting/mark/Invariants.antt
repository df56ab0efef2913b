use Rattle.board_core.proofs.Common.{◌≡◌, take, marked_in}
use Rattle.board_core.proofs.service.waiting.mark.Given as goal

-- those so far are marked
abbrev pub invariant-loop-id : goal.invariant-loop-id
invariant-loop-id l = l.requests ≡ marked_in l.state (take l.id-index l.ids) l.initial.requests
