use Rattle.wasm_core_read.specs.ConstantReading.{expression_at}
use Rattle.std.proofs.Common.{◌≡◌}
use Rattle.wasm_spec.specs.TypeReferences.{val_map}
use Rattle.wasm_validity.specs.ConstantTyping.{IsConstantFor}
use Rattle.wasm_validity.specs.Context.{named_in}
use Rattle.wasmparser_entries.specs.Lists.{expressions_of}
use Rattle.wasmparser_module_state.proofs.DeclaredItems.{AreDeclared}
use Rattle.wasmparser_module_state.proofs.NamedFunctions.{IsAsBefore}
use Rattle.wasmparser_module_state.specs.State.{HasRoom, context, features_of, members}
use Rattle.wasmparser_types.specs.Index.{number_of}
use Rattle.wasmparser_types.specs.ValTypes.{val_type}
use Rattle.wasmparser_module_state.proofs.module_state.ModuleState.add_expressions.Given as goal

abbrev pub invariant-items : goal.invariant-items
invariant-items l =
    AreDeclared expression_at (IsConstantFor (features_of l.fn.self) (context l.fn.self) (val_map number_of (val_type l.ty))) named_in (expressions_of l.fn.expressions.left) (members l.fn.self.declared) (members l.self.declared) l.items
    × IsAsBefore (context l.fn.self) (context l.self) × (l.self.types ≡ l.fn.self.types) × HasRoom l.self
