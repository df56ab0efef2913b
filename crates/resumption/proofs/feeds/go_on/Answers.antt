use Rattle.resumption.proofs.Common.{ℕ, inl, inr, refl, sym, subst, ◌∙◌, string_bytes, told_bytes, given_back, Rose, feed_run, Adds-then, bytes-of, bytes-told, left-of, sink-status, source-status, whole-status, rose-above}
use Rattle.ride_ports.proofs.CountLemmas.{Rose-then_kept, Rose-after_kept}
use Rattle.dispatcher.proofs.Bringing.{misses-first, misses-second}
use Rattle.resumption.proofs.AnsweredFeeds.{answered-of, drivers-over, drivers-taken, riders-over, riders-taken}
use Rattle.resumption.proofs.feeds.go_on.Goals as goal

pub returns-in_default : goal.returns-in_default
returns-in_default g c = inl (misses-first c.in_default.ensures c.code.ensures refl)

pub returns-in_default-bring : goal.returns-in_default-bring
returns-in_default-bring g c =
    inr (inl (misses-second c.in-Ok.ensures c.in_default-bring.ensures c.give_back.ensures c.code-in_default-bring.ensures refl))

pub returns : goal.returns
returns g c =
    let ran = c.resume-ran.result in
    let board = c.args.interrupted.board in
    let told = g.H.Shelf.contents c.args.shelf.now in
    let first = feed_run g.H.Src.Source.left g.H.Src.Source.faults c.in-Ok.riders c.resume-ran.new.riders in
    let second = feed_run g.H.Src.Source.left g.H.Src.Source.faults c.in-Ok-bring.drivers c.resume-ran.new.drivers in
    let riders = given_back first.faults_after first.left in
    let drivers = given_back second.faults_after second.left in
    let answered = answered-of board first second ran _ c.resume-ran.ensures.log in
    let of_riders = riders-taken board first second ran _ answered in
    let of_drivers = drivers-taken board first second ran _ answered in
    let counts = c.resume-ran.ensures.source_faults in
    let is = c.status.ensures in
    let riders_bytes = bytes-of told (string_bytes c.args.feeds.riders) first.bytes c.in-Ok.ensures.content in
    let drivers_bytes = bytes-told c.in-Ok.ensures c.in-Ok-bring.ensures in
    inr (inr (record {
      first = first;
      second = second;
      first_source = riders;
      second_source = drivers;
      adds = Adds-then (Adds-then (Adds-then c.in-Ok.ensures.adds c.in-Ok-bring.ensures.adds) c.give_back-2.ensures.adds) c.give_back-3.ensures.adds;
      of_first = record { bytes_are = riders_bytes; fresh = c.in-Ok.ensures.fresh; back = refl };
      of_second = record { bytes_are = drivers_bytes; fresh = c.in-Ok-bring.ensures.fresh; back = refl };
      left = (
        (of_riders.bytes, left-of (told_bytes told (string_bytes c.args.feeds.riders)) first.bytes riders of_riders.bytes riders_bytes of_riders.reads),
        ((of_drivers.bytes, left-of (told_bytes told (string_bytes c.args.feeds.drivers)) second.bytes drivers of_drivers.bytes drivers_bytes of_drivers.reads), tt),
      );
      goes_on = record {
        ran = ran;
        status_is = is;
        answered = answered;
        riders_over = riders-over board first second ran _ answered counts.riders_sound;
        drivers_over = drivers-over board first second ran _ answered counts.drivers_sound;
        counts = counts;
      };
      first_spent = λ zero gives.
          let whole = whole-status ran (sym is ∙ zero) in
          record { no_fault = counts.riders_sound whole.read.0 ∙ c.in-Ok.ensures.fresh; to_end = of_riders.to_end whole gives };
      second_spent = λ zero gives.
          let whole = whole-status ran (sym is ∙ zero) in
          record { no_fault = counts.drivers_sound whole.read.0 ∙ c.in-Ok-bring.ensures.fresh; to_end = of_drivers.to_end whole gives };
      shelf_sound = λ zero.
          let whole = whole-status ran (sym is ∙ zero) in
          c.give_back-3.ensures.sound (counts.drivers_sound whole.read.0 ∙ c.in-Ok-bring.ensures.fresh)
          ∙ c.give_back-2.ensures.sound (counts.riders_sound whole.read.0 ∙ c.in-Ok.ensures.fresh)
          ∙ c.in-Ok-bring.ensures.sound ∙ c.in-Ok.ensures.sound;
      sink_sound = λ zero. c.resume-ran.ensures.sink_faults.stays (whole-status ran (sym is ∙ zero)).sink;
      shelf_fault = λ five. subst (λ (k : ℕ). Rose k (g.H.Shelf.faults c.give_back-3.new.shelf)) (c.in-Ok-bring.ensures.sound ∙ c.in-Ok.ensures.sound)
          (elim (counts.failed (source-status ran (sym is ∙ five))) [
            | inl rose ↦ Rose-then_kept _ _ _ (c.give_back-2.ensures.rises (rose-above _ _ c.in-Ok.ensures.fresh rose)) c.give_back-3.ensures.never_falls
            | inr rose ↦ Rose-after_kept _ _ _ c.give_back-2.ensures.never_falls
                (c.give_back-3.ensures.rises (rose-above _ _ c.in-Ok-bring.ensures.fresh rose)) c.give_back-3.ensures.never_falls
          ]);
      sink_fault = λ six. c.resume-ran.ensures.sink_faults.rose (sink-status ran (sym is ∙ six));
    }))
