use Rattle.wasmparser_payloads.proofs.Places.{stays, whole_lies, place_lies}
use Rattle.wasmparser_payloads.proofs.laws.places_are_of_the_module.Goals as goal

pub returns : goal.returns
returns c = record { first = whole_lies; stay = stays; refused = place_lies }
