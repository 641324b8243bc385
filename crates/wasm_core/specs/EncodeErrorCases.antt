-- The cases of refusals of writing, under the name of this crate.
pub use Rattle.wasm_core_write.specs.declared.encode_error.EncodeError.TheVariants.{Memory, TooLong}
