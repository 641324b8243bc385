use Rattle.wasm_smith_types.proofs.GivenLaws.{export_type_at, given_count, given_types_at, import_type_at}
use Rattle.wasm_smith_types.proofs.laws.given_types.Goals as goal

pub returns-clause-count : goal.returns-clause-count
returns-clause-count c = given_count

pub returns-clause-places : goal.returns-clause-places
returns-clause-places c = given_types_at

pub returns-clause-imports : goal.returns-clause-imports
returns-clause-imports c = λ config drawn n i type first. import_type_at config drawn n first i type

pub returns-clause-exports : goal.returns-clause-exports
returns-clause-exports c = λ config drawn n i type first. export_type_at config drawn n first i type
