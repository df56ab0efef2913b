use Rattle.board_core.proofs.Common.{◌≡◌, sym, ◌∙◌, ap, State, ride_ids, standing_rides, marked_in, still_in, state_at}
use Rattle.ride_model.specs.declared.reply.RequestState.TheVariants.{Waiting}
use Rattle.board_core.proofs.Marked.{with_states-marked}
use Rattle.board_core.proofs.service.Service.release.Goals as goal

pub returns : goal.returns
returns c = λ setup rest.
    let s : State = state_at setup c.args.self.now rest in
    let ids : c.as_slice.result.now ≡ ride_ids (standing_rides c.args.batch.now s)
    = c.as_slice.ensures.value ∙ c.standing-ids.ensures
    ∙ ap (λ rides. ride_ids (still_in c.args.self.now.requests c.number.result rides)) c.requests.ensures.requests
    ∙ ap (λ number. ride_ids (still_in c.args.self.now.requests number c.args.batch.now.requests)) c.number.ensures in
    with_states-marked Waiting (standing_rides c.args.batch.now s) s
    ∙ ap (λ requests. record s { requests = requests })
    (ap (λ is. marked_in Waiting is c.args.self.now.requests) (sym ids) ∙ sym c.mark.ensures)
