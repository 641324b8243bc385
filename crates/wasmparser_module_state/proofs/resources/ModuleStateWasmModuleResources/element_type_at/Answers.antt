use Rattle.wasm_spec.specs.TypeReferences.{ref_map}
use Rattle.wasmparser_module_state.proofs.ResourceLaws.{element_at}
use Rattle.wasmparser_module_state.specs.State.{reference}
use Rattle.wasmparser_module_types.specs.WithIds.{index_at}
use Rattle.wasmparser_module_state.proofs.resources.ModuleStateWasmModuleResources.element_type_at.Goals as goal

pub returns : goal.returns
returns c = element_at reference (ref_map (index_at c.args.self.now.types.ids)) c.args.self.now.elements c.args.at c.in_ok-ty.ty c.listed_ref.result c.in_ok-ty.ensures c.listed_ref.ensures
