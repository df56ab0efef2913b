use Rattle.resumption.proofs.Common.{◌≡◌, inl, inr, subst, Ok, string_bytes, start_of, No, Standing}
use Rattle.dispatcher.specs.inner.Readings.{meaning_of}
use Rattle.resumption.specs.inner.Logs.{HandsLogBack}
use Rattle.resumption.proofs.MayResume.{may-resume}
use Rattle.resumption.proofs.top.resume_over.Goals as goal

pub go_on-requires-clause-may_go_on : goal.go_on-requires-clause-may_go_on
go_on-requires-clause-may_go_on g c κs within =
    let is : c.in-Some.found ≡ Ok (Standing c.in-Ok-Standing.restored) = cc in
    may-resume c.args.texts.roads c.args.texts.settings c.args.texts.fleet c.in-Ok-Standing.restored c.interrupted_by-interrupted.result
    c.args.rest.workers (c.in-Some.ensures.reads.stands c.in-Ok-Standing.restored is) c.interrupted_by-interrupted.ensures

pub returns-in-Ok-No : goal.returns-in-Ok-No
returns-in-Ok-No g c =
    let is : c.in-Some.found ≡ Ok (No c.in-Ok-No.line c.in-Ok-No.why) = cc in
    inr (inl (record {
      found = Ok (No c.in-Ok-No.line c.in-Ok-No.why);
      log = subst (HandsLogBack (start_of (meaning_of c.args.texts)) (string_bytes c.args.rest.log) _ _) is c.in-Some.ensures;
      said = c.say_found-in-Ok-No.ensures.said;
    }))
