-- The types of the parts, under the name of this crate.
pub use Rattle.wasm_smith_config.specs.declared.config.Config.{Config}
pub use Rattle.wasm_smith_unstructured.specs.declared.error.Error.{Error}
pub use Rattle.wasm_smith_config.specs.declared.instruction_kinds.InstructionKinds.{InstructionKinds}
pub use Rattle.wasm_smith_config.specs.declared.memory_offset_choices.MemoryOffsetChoices.{MemoryOffsetChoices}
pub use Rattle.wasm_smith_externs.specs.declared.names.DuplicateImportsBehavior.{DuplicateImportsBehavior}
pub use Rattle.wasm_smith_module.specs.declared.module.Module.{Module}
