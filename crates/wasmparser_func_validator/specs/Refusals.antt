-- Refusals of operators as errors.
use Rattle.std.specs.Prelude.{ℕ}
use Rattle.wasmparser_error.specs.declared.error.Error.{Error}
use Rattle.wasmparser_error.specs.declared.error.ErrorKind.TheVariants as kinds
use Rattle.wasmparser_func_validator.specs.declared.refusal.Refusal.{Refusal}
use Rattle.wasmparser_func_validator.specs.declared.refusal.Refusal.TheVariants.{Invalid, Memory}

abbrev pub refused_at : Refusal → ℕ → Error
refused_at Invalid offset = record { offset = offset; kind = kinds.Body }
refused_at Memory offset = record { offset = offset; kind = kinds.Memory }
