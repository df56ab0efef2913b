use Rattle.dispatcher.proofs.Common.{inl, inr, refl, given_back, feed_run}
use Rattle.dispatcher.proofs.Bringing.{bytes-of, hands-one, misses-first}
use Rattle.dispatcher.proofs.sources.work_over.Goals as goal

pub returns-in_default : goal.returns-in_default
returns-in_default g c = inl (misses-first c.in_default.ensures c.code.ensures refl)

pub returns : goal.returns
returns g c =
    let works = c.do_work-status.ensures in
    let feed = feed_run g.H.Src.Source.left g.H.Src.Source.faults c.in-Ok.source c.do_work-status.new.source in
    inr (record {
      feed = feed;
      source = given_back feed.faults_after feed.left;
      of_file = record { bytes_are = bytes-of _ _ _ c.in-Ok.ensures.content; fresh = c.in-Ok.ensures.fresh; back = refl };
      did = works.did;
      hands = hands-one c.in-Ok.ensures (record { taken = works.taken; reads = works.reads; to_end = works.to_end; sound = works.source_sound })
          c.give_back.ensures works.source_fault works.sink_sound works.sink_fault;
    })
