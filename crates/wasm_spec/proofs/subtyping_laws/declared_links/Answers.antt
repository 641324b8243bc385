use Rattle.wasm_spec.proofs.TypeOrders.{declared_link}
use Rattle.wasm_spec.proofs.subtyping_laws.declared_links.Goals as goal

pub returns : goal.returns
returns c start = declared_link
