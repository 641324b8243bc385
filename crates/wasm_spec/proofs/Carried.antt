-- What a map of references that keeps types carries along, and back.
use Rattle.wasm_spec.specs.ReferenceMaps.{KeepsTypes, ReferToTypes, IsOneToOne, Carries, CarriesBack, CarriesLimitsBack}
use Rattle.wasm_spec.specs.Subtyping.{SubTypes}
use Rattle.wasm_spec.proofs.MappedBack.{heap_below_back, ref_below_back, val_below_back, storage_below_back, field_matches_back, composite_matches_back, supertypes_back, continues_back, passes_back}
use Rattle.wasm_spec.proofs.MappedTypes.{link_map, step_map, heap_below_map, ref_below_map, val_below_map, storage_below_map, field_matches_map, composite_matches_map, supertypes_map, continues_map, links_map, passes_map}

pub carried : {R S : Type 0} (f : R → S) (from : SubTypes R) (to : SubTypes S) → KeepsTypes f from to → Carries f from to
carried f from to keeps = record {
  links = link_map f from to keeps;
  steps = step_map f from to keeps;
  heap_types = λ a b h. heap_below_map f from to keeps h;
  ref_types = ref_below_map f from to keeps;
  val_types = val_below_map f from to keeps;
  storage_types = storage_below_map f from to keeps;
  fields = field_matches_map f from to keeps;
  composite_types = composite_matches_map f from to keeps;
  supertypes = supertypes_map f from to keeps;
  continuations = continues_map f from to keeps;
  depth = λ n r t h. links_map f from to keeps h;
  limits = λ r limit h. passes_map f from to keeps r h;
}

pub limits_carried_back : {R S : Type 0} (f : R → S) (from : SubTypes R) (to : SubTypes S) → KeepsTypes f from to → ReferToTypes from → CarriesLimitsBack f from to
limits_carried_back f from to keeps closed = record {
  continuations = continues_back f from to keeps closed;
  limits = λ r limit known h. passes_back f from to keeps closed r known h;
}

pub carried_back : {R S : Type 0} (f : R → S) (from : SubTypes R) (to : SubTypes S) → KeepsTypes f from to → ReferToTypes from → IsOneToOne f from → CarriesBack f from to
carried_back f from to keeps closed one = record {
  heap_types = heap_below_back f from to keeps closed one;
  ref_types = ref_below_back f from to keeps closed one;
  val_types = val_below_back f from to keeps closed one;
  storage_types = storage_below_back f from to keeps closed one;
  fields = field_matches_back f from to keeps closed one;
  composite_types = composite_matches_back f from to keeps closed one;
  supertypes = supertypes_back f from to keeps closed one;
}
