use Rattle.std.proofs.lemmas.Bool.Decides.{same_from_decides}
use Rattle.wasmparser_type_relations.specs.Chains.{by_id}
use Rattle.wasmparser_type_relations.proofs.Deciding.{heap_decided, ref_decided, val_decided}
use Rattle.wasmparser_type_relations.proofs.Ids.{ids_rank}
use Rattle.wasmparser_type_relations.specs.Decision.{by_number, is_heap_below, is_ref_below, is_val_below}
use Rattle.wasmparser_type_relations.proofs.decision_laws.answers.Goals as goal

pub returns : goal.returns
returns c = record {
  ref_types = λ type_at earlier a b result is. same_from_decides result (is_ref_below (by_id type_at) a b) is (ref_decided by_number (by_id type_at) (ids_rank type_at earlier) a b);
  heap_types = λ type_at earlier a b result is. same_from_decides result (is_heap_below (by_id type_at) a b) is (heap_decided by_number (by_id type_at) (ids_rank type_at earlier) a b);
  val_types = λ type_at earlier a b result is. same_from_decides result (is_val_below (by_id type_at) a b) is (val_decided by_number (by_id type_at) (ids_rank type_at earlier) a b);
}
