use Rattle.wasmparser_type_relations.proofs.Deciding.{heap_decided, ref_decided, val_decided}
use Rattle.wasmparser_type_relations.proofs.decision_laws.ranked_references.Goals as goal

pub returns : goal.returns
returns c start = record {
  heap_types = heap_decided;
  ref_types = ref_decided;
  val_types = val_decided;
}
