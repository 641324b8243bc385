-- The types that indexes name, and how many there are.
use Rattle.std.proofs.lemmas.List.{length-map}
use Rattle.std.proofs.lemmas.Option.{slice_get-map}

pub ruleset lookups = (slice_get-map)

pub ruleset lengths = (length-map)
