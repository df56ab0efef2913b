-- What a contract sees of a source that was given back.
use Rattle.std.specs.Option.{option_copied}
use Rattle.ride_ports.specs.Contents.{GivenBack, given_back}
use Rattle.ride_ports.specs.declared.ledger.Returned.{Returned}

abbrev pub returned_state : Returned → GivenBack
returned_state source = given_back source.faults (option_copied source.left)
