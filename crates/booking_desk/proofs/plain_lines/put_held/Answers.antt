use Rattle.booking_desk.proofs.Common.{◌≡◌, ◌++◌, ◌∷◌, [], List, ℕ, ap, subst, ◌∙◌, codes, decimal, HasPut, put-three}
use Rattle.booking_desk.proofs.plain_lines.put_held.Goals as goal

pub returns-clause-put : goal.returns-clause-put
returns-clause-put g c before faults text has =
    let number : c.as_slice.result.now ≡ decimal c.args.count = c.as_slice.ensures.value ∙ c.put_number.ensures ∙ ap decimal c.from.ensures in
    subst (λ (d : List ℕ). HasPut before (g.K.Sink.written c.put-3.new.out) faults (g.K.Sink.faults c.put-3.new.out) c.put-3.new.self
    (text ++ (codes "# held " ++ d ++ 10 ∷ []))) number
    (put-three before _ faults _ c.put-3.new.self text (codes "# held ") c.as_slice.result.now (10 ∷ [])
    (c.put-3.ensures.put before faults ((text ++ codes "# held ") ++ c.as_slice.result.now)
    (c.put-2.ensures.put before faults (text ++ codes "# held ") (c.put.ensures.put before faults text has))))
