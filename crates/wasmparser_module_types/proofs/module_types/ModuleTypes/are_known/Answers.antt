use Rattle.std.proofs.Common.{subst}
use Rattle.wasm_core_types.specs.Features.{feature_set}
use Rattle.wasmparser_module_types.proofs.KeptSubTypes.{are_known}
use Rattle.wasmparser_module_types.specs.ModuleTypes.{AreKnownTypes}
use Rattle.wasmparser_module_types.proofs.module_types.ModuleTypes.are_known.Goals as goal

pub returns : goal.returns
returns c = let it = c.self.inside in subst AreKnownTypes c.self.view_is (are_known (feature_set it.space.features) it.list it.space.ids.items it.groups c.self.invariant.0)
