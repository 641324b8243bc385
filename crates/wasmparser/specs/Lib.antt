pub use Rattle.wasmparser_error.specs.Error
pub use Rattle.wasmparser_type_relations.specs.Chains
pub use Rattle.wasmparser_type_list.specs.HeldValues
pub use Rattle.wasmparser_type_list.specs.TypeTables
pub use Rattle.wasmparser_rec_groups.specs.Interning
pub use Rattle.wasmparser_validator.specs.Validation
pub mod Parts
