use Rattle.wasm_spec.proofs.Carried.{carried, carried_back, limits_carried_back}
use Rattle.wasm_spec.proofs.subtyping_laws.reference_maps.Goals as goal

pub returns : goal.returns
returns c start = record {
  along = carried;
  limits_back = limits_carried_back;
  back = carried_back;
}
