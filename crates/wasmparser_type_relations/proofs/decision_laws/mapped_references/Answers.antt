use Rattle.wasmparser_type_relations.proofs.Mapped.{val_along, val_mapped}
use Rattle.wasmparser_type_relations.proofs.decision_laws.mapped_references.Goals as goal

pub returns : goal.returns
returns c start = record { along = val_along; val_types = val_mapped }
