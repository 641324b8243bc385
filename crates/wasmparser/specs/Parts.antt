-- The types of the parts, under the name of this crate.
pub use Rattle.wasmparser_error.specs.declared.error.Error.{Error}
pub use Rattle.wasmparser_error.specs.declared.error.ErrorKind.{ErrorKind}
pub use Rattle.wasmparser_error.specs.declared.error.ErrorKind.TheVariants.{Malformed, Invalid, Limit, Operator, Body, Total, Order, Failed, Memory}
pub use Rattle.wasmparser_validator.specs.KnownSpaces.{KnownModule, spaces_known}
pub use Rattle.wasmparser_validator.specs.Shown.{IsImported, exported, exports_left, known, spaces}
pub use Rattle.wasmparser_validator.specs.declared.types.CoreExports.{CoreExports}
pub use Rattle.wasmparser_validator.specs.declared.types.Types.{Types}
pub use Rattle.wasmparser_validator.specs.declared.types.TypesRef.{TypesRef}
pub use Rattle.wasmparser_validator.specs.declared.validator_id.ValidatorId.{ValidatorId}
