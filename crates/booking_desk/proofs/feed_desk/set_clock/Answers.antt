use Rattle.booking_desk.proofs.Common.{◌++◌, ◌∷◌, [], ap, ◌∙◌, DeskState, MOST_REQUESTS, after_clock, clock, released_at}
use Rattle.booking_desk.proofs.Moments.{clock-set, released-due}
use Rattle.booking_desk.proofs.feed_desk.set_clock.Goals as goal

pub returns-clause-desk : goal.returns-clause-desk
returns-clause-desk c calls is =
    let time = c.args.time in
    let set = c.clock.ensures ∙ ap (λ (d : DeskState). after_clock d time) is ∙ clock-set MOST_REQUESTS calls time in
    c.release_due.ensures.desk (calls ++ clock time ∷ []) (released_at MOST_REQUESTS calls time) set (released-due MOST_REQUESTS calls time)

pub returns-clause-put : goal.returns-clause-put
returns-clause-put c calls is =
    let time = c.args.time in
    let set = c.clock.ensures ∙ ap (λ (d : DeskState). after_clock d time) is ∙ clock-set MOST_REQUESTS calls time in
    c.release_due.ensures.put (calls ++ clock time ∷ []) (released_at MOST_REQUESTS calls time) set (released-due MOST_REQUESTS calls time)
