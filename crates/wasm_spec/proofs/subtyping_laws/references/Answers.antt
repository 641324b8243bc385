use Rattle.wasm_spec.proofs.TypeMaps.{group_refs-map, group_fill-exact, external_fill-exact}
use Rattle.wasm_spec.proofs.subtyping_laws.references.Goals as goal

pub returns : goal.returns
returns c start = record {
  mapped = group_refs-map;
  groups = group_fill-exact;
  external_types = external_fill-exact;
}
