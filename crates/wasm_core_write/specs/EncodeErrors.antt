-- What refusals to write are called.
use Rattle.std.specs.Prelude.{ℕ, List, codes}
use Rattle.wasm_core_write.specs.declared.encode_error.EncodeError.{EncodeError}
use Rattle.wasm_core_write.specs.declared.encode_error.EncodeError.TheVariants.{Memory, TooLong}

abbrev pub error_name : EncodeError → List ℕ
error_name Memory = codes "out of memory"
error_name TooLong = codes "too long"
