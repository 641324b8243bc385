use Rattle.wasm_gen_view.proofs.NamedTypes.{has_types, has_written_types}
use Rattle.wasm_gen_view.proofs.laws.valid_names_types.Goals as goal

pub returns-clause-made : goal.returns-clause-made
returns-clause-made c = has_types

pub returns-clause-written : goal.returns-clause-written
returns-clause-written c = has_written_types
