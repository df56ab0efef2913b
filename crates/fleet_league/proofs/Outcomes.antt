-- What is said of one outcome alone.
use Rattle.fleet_league.proofs.Common.{Result, Ok, Err, OnErr}

pub on_err : {A E : Type 0} {P : Type 0} (r : Result A E) → P → OnErr r P
on_err (Ok a) p = tt
on_err (Err e) p = p
