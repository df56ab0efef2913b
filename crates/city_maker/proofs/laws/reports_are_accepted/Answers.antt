use Rattle.city_maker.proofs.Common.{refl}
use Rattle.city_maker.proofs.Accepted.{report-on_time}
use Rattle.city_maker.proofs.laws.reports_are_accepted.Goals as goal

pub returns : goal.returns
returns c = λ s place v command drives is. report-on_time s place v command drives v.stops.items refl is
