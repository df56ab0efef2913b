use Rattle.dispatcher.proofs.Common.{inl, inr, refl, sym, ◌∙◌, given_back, feed_run, meaning_of, sink-status, source-status, whole-status}
use Rattle.dispatcher.proofs.Bringing.{bytes-of, bytes-told, hands-two, misses-first, misses-second}
use Rattle.dispatcher.proofs.ServedFeeds.{drivers-worked, riders-worked, served-of}
use Rattle.dispatcher.proofs.serving.serve_feeds.Goals as goal

pub returns-in_default : goal.returns-in_default
returns-in_default g c = inl (misses-first c.in_default.ensures c.code.ensures refl)

pub returns-in_default-bring : goal.returns-in_default-bring
returns-in_default-bring g c =
    inr (inl (misses-second c.in-Ok.ensures c.in_default-bring.ensures c.give_back.ensures c.code-in_default-bring.ensures refl))

pub returns : goal.returns
returns g c =
    let ran = c.serve-ran.result in
    let m = meaning_of c.args.texts in
    let first = feed_run g.H.Src.Source.left g.H.Src.Source.faults c.in-Ok.riders c.serve-ran.new.riders in
    let second = feed_run g.H.Src.Source.left g.H.Src.Source.faults c.in-Ok-bring.drivers c.serve-ran.new.drivers in
    let served = served-of m c.args.crew.desks first second ran _ c.serve-ran.ensures.log in
    let status_is = c.status.ensures in
    inr (inr (record {
      first = first;
      second = second;
      first_source = given_back first.faults_after first.left;
      second_source = given_back second.faults_after second.left;
      of_first = record { bytes_are = bytes-of _ _ _ c.in-Ok.ensures.content; fresh = c.in-Ok.ensures.fresh; back = refl };
      of_second = record { bytes_are = bytes-told c.in-Ok.ensures c.in-Ok-bring.ensures; fresh = c.in-Ok-bring.ensures.fresh; back = refl };
      serves = record { ran = ran; status_is = status_is; served = served; counts = c.serve-ran.ensures.source_faults };
      hands = hands-two c.in-Ok.ensures c.in-Ok-bring.ensures (riders-worked m c.args.crew.desks first second ran _ _ status_is served)
          (drivers-worked m c.args.crew.desks first second ran _ _ status_is served) c.give_back-2.ensures c.give_back-3.ensures
          (λ five. c.serve-ran.ensures.source_faults.failed (source-status ran (sym status_is ∙ five)))
          (λ zero. c.serve-ran.ensures.sink_faults.stays (whole-status ran (sym status_is ∙ zero)).sink)
          (λ six. c.serve-ran.ensures.sink_faults.rose (sink-status ran (sym status_is ∙ six)));
    }))
