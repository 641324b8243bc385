use Rattle.std.proofs.lemmas.Bool.Decides.{same_from_decides}
use Rattle.wasm_spec.specs.TypeReferences.{val_map}
use Rattle.wasmparser_type_relations.specs.Chains.{by_id}
use Rattle.wasmparser_type_relations.proofs.Ids.{ids_rank, indexes_decided}
use Rattle.wasmparser_type_relations.proofs.Mapped.{heap_mapped, ref_mapped, val_along, val_mapped}
use Rattle.wasmparser_type_relations.specs.Decision.{by_number, is_val_below}
use Rattle.wasmparser_type_relations.proofs.decision_laws.mapped_ids.Goals as goal

pub returns : goal.returns
returns c start = record {
  along = λ f type_at to keeps. val_along by_number f (by_id type_at) to keeps indexes_decided;
  heap_types = λ f type_at to keeps earlier. heap_mapped by_number f (by_id type_at) to keeps (ids_rank type_at earlier);
  ref_types = λ f type_at to keeps earlier. ref_mapped by_number f (by_id type_at) to keeps (ids_rank type_at earlier);
  val_types = λ f type_at to keeps earlier. val_mapped by_number f (by_id type_at) to keeps (ids_rank type_at earlier);
  agrees = λ f type_at to is_below keeps earlier closed one is a b ka kb.
      same_from_decides (is_below (val_map f a) (val_map f b)) (is_val_below (by_id type_at) a b) (is (val_map f a) (val_map f b))
      (val_mapped by_number f (by_id type_at) to keeps (ids_rank type_at earlier) closed one a b ka kb);
}
