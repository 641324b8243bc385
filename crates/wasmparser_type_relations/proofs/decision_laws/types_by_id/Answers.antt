use Rattle.wasmparser_type_relations.specs.Chains.{by_id}
use Rattle.wasmparser_type_relations.proofs.Deciding.{heap_decided, ref_decided, val_decided}
use Rattle.wasmparser_type_relations.proofs.Ids.{ids_rank}
use Rattle.wasmparser_type_relations.specs.Decision.{by_number}
use Rattle.wasmparser_type_relations.proofs.decision_laws.types_by_id.Goals as goal

pub returns : goal.returns
returns c = record {
  ranking = ids_rank;
  heap_types = λ type_at earlier. heap_decided by_number (by_id type_at) (ids_rank type_at earlier);
  ref_types = λ type_at earlier. ref_decided by_number (by_id type_at) (ids_rank type_at earlier);
  val_types = λ type_at earlier. val_decided by_number (by_id type_at) (ids_rank type_at earlier);
}
